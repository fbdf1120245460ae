-- What a command owes to the laws.
use Rattle.std.specs.Prelude.{ℕ, ◌≡◌, ◌≤◌, List, [], ◌∷◌, length, count_by, Result}
use Rattle.std.specs.Str.{bytes_eq}
use Rattle.mt_text_spec.specs.Registries.{Registry}
use Rattle.mt_text_spec.specs.Queries.{Query}
use Rattle.mt_query_spec.specs.Measures.{nodes}
use Rattle.mt_query_spec.specs.Contents.{patterns}
use Rattle.mt_query_spec.specs.Verdicts.{Means, Refusal}
use Rattle.mt_grammar_laws.specs.Laws.{OneGrammar}
use Rattle.mt_session_spec.specs.World.{World, ValidHeld}
use Rattle.mt_session_spec.specs.Gains.{Gained, none_gained}
use Rattle.mt_session_spec.specs.Refusals.{no_memory_line}
use Rattle.mt_session_spec.specs.Checks.{AreSingle, NoneStands}
use Rattle.mt_session_spec.specs.Answers.{Answer, Refused}
use Rattle.mt_session_spec.specs.Meaning.{Meaning}
use Rattle.mt_session_spec.specs.Laws.{told_failures}

-- where all checks pass, it is not without a change and an answer
abbrev pub HasSome : Meaning → Type 0
HasSome meant = NoneStands meant.checks → ((new : World) (answer : Answer) → meant.Accepts new answer → ⊥) → ⊥

-- it has one at most, and each check gives one refusal at most
pub record HasOne (meant : Meaning) : Type 0 where
  pub checks : AreSingle meant.checks
  pub one : (new other : World) (answer another : Answer) → meant.Accepts new answer → meant.Accepts other another → (new ≡ other) × (answer ≡ another)

-- accepted or not, it leaves a valid world
pub record KeepsValid (meant : Meaning) : Type 0 where
  pub accepted : NoneStands meant.checks → (new : World) (answer : Answer) → meant.Accepts new answer → ValidHeld new.held
  pub excepted : (gained : Gained) (new : World) (answer : Answer) → meant.Excepts gained new answer → ValidHeld new.held

-- An answer is no refusal, and an exception is one, which changes nothing that is held. Where nothing was gained, and no pattern that is asked for nests too deep, it
-- tells that memory ran out.
pub record IsFair (meant : Meaning) (world : World) (Nests : Type 0) : Type 0 where
  pub accepted : (new : World) (line : List ℕ) → meant.Accepts new (Refused line) → ⊥
  pub kept : (gained : Gained) (new : World) (answer : Answer) → meant.Excepts gained new answer → new.held ≡ world.held
  pub starved : (Nests → ⊥) → (new : World) (answer : Answer) → meant.Excepts none_gained new answer → answer ≡ Refused no_memory_line

-- an answer tells of no failure, and an exception of no more than were gained
pub record TellsGained (meant : Meaning) : Type 0 where
  pub accepted : (new : World) (answer : Answer) (file : List ℕ) → meant.Accepts new answer → told_failures file (answer ∷ []) ≡ 0
  pub excepted : (gained : Gained) (new : World) (answer : Answer) (file : List ℕ) → meant.Excepts gained new answer →
      told_failures file (answer ∷ []) ≤ count_by (λ name. bytes_eq name file) gained.failed

-- ## Queries

-- a text means one thing only
abbrev pub OneQuery : Type 0
OneQuery = (registry : Registry) (default : ℕ) (text : List ℕ) (said other : Result Query Refusal) → Means registry default text said → Means registry default text other → said ≡ other

-- and it means something
abbrev pub SomeQuery : Type 0
SomeQuery = (registry : Registry) (default : ℕ) (text : List ℕ) → (said : Result Query Refusal) × Means registry default text said

-- a text is one query only, a file one grammar only, and a query has no more patterns than it has nodes
pub record PatternLaws : Type 0 where
  pub one_query : OneQuery
  pub one_grammar : OneGrammar
  pub few : (query : Query) → length (patterns query) ≤ nodes query
