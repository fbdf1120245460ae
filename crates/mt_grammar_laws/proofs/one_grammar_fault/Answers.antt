use Rattle.mt_grammar_laws.proofs.Grammars.{one_fault}
use Rattle.mt_grammar_laws.proofs.one_grammar_fault.Goals as goal

pub returns : goal.returns
returns c = one_fault c.one_meaning.ensures
