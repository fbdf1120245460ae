use Rattle.mt_counts.proofs.Lists.{no_heads}
use Rattle.mt_counts.proofs.counts.Counts.heads.Goals as goal

pub returns-in-None : goal.returns-in-None
returns-in-None c = rw (c.new.ensures, ← c.self.view_is) (no_heads c.self.inside.tables c.args.word.now c.self.invariant c.in-None.ensures.none)
