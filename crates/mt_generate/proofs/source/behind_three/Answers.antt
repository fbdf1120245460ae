use Rattle.std.proofs.Common.{◌∙◌}
use Rattle.mt_generate.proofs.Steps.{three_draws}
use Rattle.mt_generate.proofs.source.behind_three.Goals as goal

pub returns : goal.returns
returns c = c.step.ensures ∙ three_draws c.args.number
