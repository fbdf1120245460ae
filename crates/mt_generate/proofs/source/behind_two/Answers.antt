use Rattle.std.proofs.Common.{◌∙◌}
use Rattle.mt_generate.proofs.Steps.{two_draws}
use Rattle.mt_generate.proofs.source.behind_two.Goals as goal

pub returns : goal.returns
returns c = c.step.ensures ∙ two_draws c.args.number
