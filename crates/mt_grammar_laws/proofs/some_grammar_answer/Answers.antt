use Rattle.mt_grammar_laws.proofs.Readings.{some_answer}
use Rattle.mt_grammar_laws.proofs.some_grammar_answer.Goals as goal

pub returns : goal.returns
returns c = some_answer c.some_meaning.ensures
