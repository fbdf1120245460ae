-- What is held of a sketch grammar, if there is one, and what is always so of all that is held.
use Rattle.std.specs.Prelude.{Bool, Option, None, Some, IfSome}
use Rattle.mt_text_spec.specs.Queries.{Grammar}
use Rattle.mt_corpus_spec.specs.Images.{Corpus}
use Rattle.mt_session_spec.specs.World.{ValidHeld}
use Rattle.mt_rules.specs.Ruled.{Ruled, AreOver}
use Rattle.mt_shell.specs.Serves.{Kept, kept}

-- the grammar that is held
abbrev pub grammar_of : Option Ruled → Option Grammar
grammar_of None = None
grammar_of (Some ruled) = Some ruled.grammar

-- the corpus that is held
abbrev pub corpus_in : Kept → Corpus
corpus_in state = record { registry = state.held.registry; groups = state.held.groups; taken = state.taken }

-- what is held is valid, and where there is a grammar, what it counts are its counts over the corpus
pub record IsSound (accepted : Bool) (rules : Option Ruled) (corpus : Corpus) : Type 0 where
  pub held : ValidHeld (kept accepted (grammar_of rules) corpus).held
  pub over : IfSome rules (AreOver corpus)
