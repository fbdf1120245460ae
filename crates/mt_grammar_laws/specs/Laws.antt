-- A grammar file has one answer.
use Rattle.std.specs.Prelude.{◌≡◌, ℕ, List}
use Rattle.mt_text_spec.specs.Registries.{Registry, ValidRegistry}
use Rattle.mt_text_spec.specs.Queries.{Grammar}
use Rattle.mt_grammar_spec.specs.GrammarFile.{GrammarCause, FirstGrammarFault}
use Rattle.mt_grammar_spec.specs.ReadGrammar.{ReadsGrammar, LacksRelation}
use Rattle.mt_grammar_spec.specs.ValidGrammar.{ValidGrammar}

-- a file is read as at most one grammar
abbrev pub OneGrammar : Type 0
OneGrammar = (registry : Registry) (bytes : List ℕ) (a b : Grammar) → ReadsGrammar registry bytes a → ReadsGrammar registry bytes b → a ≡ b

-- one line is the first that has a cause, and one is its first cause
abbrev pub OneFault : Type 0
OneFault = (registry : Registry) (bytes : List ℕ) (number other : ℕ) (cause another : GrammarCause) → FirstGrammarFault registry bytes number cause → FirstGrammarFault registry bytes other another →
    (number ≡ other) × (cause ≡ another)

-- a file that is read has no fault and has relations, and one that has none has no fault
pub record AreApart : Type 0 where
  pub read_or_faulty : (registry : Registry) (bytes : List ℕ) (grammar : Grammar) (number : ℕ) (cause : GrammarCause) → ReadsGrammar registry bytes grammar → FirstGrammarFault registry bytes number cause → ⊥
  pub read_or_empty : (registry : Registry) (bytes : List ℕ) (grammar : Grammar) → ReadsGrammar registry bytes grammar → LacksRelation registry bytes → ⊥
  pub empty_or_faulty : (registry : Registry) (bytes : List ℕ) (number : ℕ) (cause : GrammarCause) → LacksRelation registry bytes → FirstGrammarFault registry bytes number cause → ⊥

-- No file is without one. That there is one is said by what cannot be, since to find a fault is the reader's work.
abbrev pub SomeAnswer : Type 0
SomeAnswer = (registry : Registry) (bytes : List ℕ) → ((grammar : Grammar) → ReadsGrammar registry bytes grammar → ⊥) → (LacksRelation registry bytes → ⊥) →
    ((number : ℕ) (cause : GrammarCause) → FirstGrammarFault registry bytes number cause → ⊥) → ⊥

-- a grammar that is read is valid
abbrev pub ReadGrammarIsValid : Type 0
ReadGrammarIsValid = (registry : Registry) (bytes : List ℕ) (grammar : Grammar) → ValidRegistry registry → ReadsGrammar registry bytes grammar → ValidGrammar registry grammar
