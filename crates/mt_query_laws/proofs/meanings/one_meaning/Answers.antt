use Rattle.std.proofs.Common.{sym, ◌∙◌}
use Rattle.mt_query_laws.proofs.Verdicts.{means_answer}
use Rattle.mt_query_laws.proofs.meanings.one_meaning.Goals as goal

pub returns : goal.returns
returns c = λ registry default text said other a b. means_answer a ∙ sym (means_answer b)
