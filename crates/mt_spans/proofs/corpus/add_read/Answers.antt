use Rattle.std.proofs.Common.{IfOk, subst}
use Rattle.mt_text_spec.specs.Texts.{ValidText}
use Rattle.mt_spans.proofs.corpus.add_read.Goals as goal

pub returns-in-Ok : goal.returns-in-Ok
returns-in-Ok c = λ registry valid its. c.add.ensures registry valid (subst (λ r. IfOk r (ValidText registry)) c.in-Ok.is its)
