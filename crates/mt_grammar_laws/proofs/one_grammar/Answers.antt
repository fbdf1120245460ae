use Rattle.mt_grammar_laws.proofs.Grammars.{one_grammar}
use Rattle.mt_grammar_laws.proofs.one_grammar.Goals as goal

pub returns : goal.returns
returns c = one_grammar c.one_meaning.ensures
