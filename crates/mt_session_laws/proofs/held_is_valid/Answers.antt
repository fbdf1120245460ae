use Rattle.mt_session_laws.proofs.Worlds.{first_valid, text_valid, without_valid, registry_valid, grammar_valid}
use Rattle.mt_session_laws.proofs.held_is_valid.Goals as goal

pub returns : goal.returns
returns c = record { first = first_valid; text = text_valid; without = without_valid; registry = registry_valid; grammar = grammar_valid }
