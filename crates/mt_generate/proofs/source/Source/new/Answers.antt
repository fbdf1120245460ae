use Rattle.mt_generate.proofs.Draws.{no_draw}
use Rattle.mt_generate.proofs.source.Source.new.Goals as goal

pub invariant_of-result : goal.invariant_of-result
invariant_of-result c = no_draw c.args.seed
