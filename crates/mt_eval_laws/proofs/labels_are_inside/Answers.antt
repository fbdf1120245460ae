use Rattle.mt_eval_spec.specs.Told.{told}
use Rattle.mt_eval_laws.proofs.Labels.{set_inside}
use Rattle.mt_eval_laws.proofs.labels_are_inside.Goals as goal

pub returns : goal.returns
returns c = λ tables texts expr row label place is set. set_inside (told tables row.span.text) expr row.span.begin row.span.end row.labels label place is.matches set
