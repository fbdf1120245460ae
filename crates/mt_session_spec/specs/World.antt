-- The world in which a command is given: what the session holds, and the files of the shelf.
use Rattle.std.specs.Prelude.{ℕ, Bool, false, List, [], ◌∷◌, ◌++◌, Option, None, Some}
use Rattle.mt_text_spec.specs.Registries.{Registry, standard_registry, ValidRegistry}
use Rattle.mt_text_spec.specs.Texts.{Text}
use Rattle.mt_text_spec.specs.Queries.{Grammar}
use Rattle.mt_shelf_spec.specs.Files.{Files}
use Rattle.mt_grammar_spec.specs.ValidGrammar.{ValidGrammar}
use Rattle.mt_corpus_spec.specs.Groups.{HoldsName, ValidGroups, without}
pub use Rattle.mt_corpus_spec.specs.Groups.{Group, live_texts, corpus_of, kept_texts, IsFull, alone}

-- what the accepted commands have left: the registry, whether one was accepted, the sketch grammar or none, and the groups of texts in order
pub record Held : Type 0 where
  pub registry : Registry
  pub accepted : Bool
  pub grammar : Option Grammar
  pub groups : List Group

-- the world: what is held, and the files of the shelf
pub record World : Type 0 where
  pub held : Held
  pub files : Files

-- before any command the standard registry holds, and there is no text and no grammar
abbrev pub first_held : Held
first_held = record { registry = standard_registry; accepted = false; grammar = None; groups = [] }

-- ## Texts

-- a text of the corpus has this name
abbrev pub Holds : Held → List ℕ → Type 0
Holds held name = HoldsName held.groups name

-- what is held with one text more
abbrev pub with_text : Held → Text → Held
with_text held text = record held { groups = held.groups ++ alone text ∷ [] }

-- what is held once the text of this name is removed
abbrev pub without_text : Held → List ℕ → Held
without_text held name = record held { groups = without name held.groups }

-- ## The grammar

-- what is held once this grammar is
abbrev pub with_grammar : Held → Grammar → Held
with_grammar held grammar = record held { grammar = Some grammar }

-- ## Valid worlds

-- the grammar that is held, if there is one, is valid under the registry
abbrev pub IsGrammarOf : Registry → Option Grammar → Type 0
IsGrammarOf registry None = Unit {0}
IsGrammarOf registry (Some grammar) = ValidGrammar registry grammar

-- What is always so: the registry is valid, and the groups of texts and the grammar are valid under it.
pub record ValidHeld (held : Held) : Type 0 where
  pub registry : ValidRegistry held.registry
  pub groups : ValidGroups held.registry held.groups
  pub grammar : IsGrammarOf held.registry held.grammar
