use Rattle.mt_session_laws.proofs.Meanings.{steps_keep}
use Rattle.mt_session_laws.proofs.steps_keep_valid.Goals as goal

pub returns : goal.returns
returns c = steps_keep (record { texts = c.valid_texts.ensures; registries = c.valid_registries.ensures; grammars = c.read_grammar_is_valid.ensures })
