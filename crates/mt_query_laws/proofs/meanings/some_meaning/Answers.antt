use Rattle.mt_query_laws.specs.Reading.{answer}
use Rattle.mt_query_laws.proofs.Verdicts.{answer_means}
use Rattle.mt_query_laws.proofs.meanings.some_meaning.Goals as goal

pub returns : goal.returns
returns c = λ registry default text. (answer registry default text, answer_means registry default text)
