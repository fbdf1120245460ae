use Rattle.mt_grammar_laws.proofs.Valid.{read_is_valid}
use Rattle.mt_grammar_laws.proofs.read_grammar_is_valid.Goals as goal

pub returns : goal.returns
returns c = read_is_valid c.read_is_valid.ensures
