-- The form in which each command and each question says what it means.
use Rattle.std.specs.Prelude.{ℕ, ◌≡◌, List, [], ◌∷◌}
use Rattle.std.specs.List.{Contains}
use Rattle.mt_session_spec.specs.World.{World}
use Rattle.mt_session_spec.specs.Gains.{Gained}
use Rattle.mt_session_spec.specs.Refusals.{BadCommand, failure_line, no_memory_line}
use Rattle.mt_session_spec.specs.Checks.{Check, When, NoneStands}
use Rattle.mt_session_spec.specs.Answers.{Answer, Refused, Lines}

-- ## Commands

-- For a command in its world: its checks in the one order; what it changes and answers where all of them pass; and what may come in place of all that where the
-- objects outside gained this, which leaves this world.
pub record Meaning : Type 1 where
  pub checks : List Check
  pub Accepts : World → Answer → Type 0
  pub Excepts : Gained → World → Answer → Type 0

-- What may come in place of what a command means that loads files and stores none: memory runs out, or a call of the shelf failed in this command at a file that it
-- loads. Nothing changes.
pub data Exception (world : World) (Loads : List ℕ → Type 0) (gained : Gained) : World → Answer → Type 0 where
  Starved : Exception world Loads gained world (Refused no_memory_line)
  Blocked : (file : List ℕ) → Loads file → Contains gained.failed file → Exception world Loads gained world (Refused (failure_line file))

-- a command that loads no file
abbrev pub LoadsNone : List ℕ → Type 0
LoadsNone file = ⊥

-- the command loads this one file, where these checks pass
pub record LoadsBehind (before : List Check) (file loaded : List ℕ) : Type 0 where
  pub is : loaded ≡ file
  pub reached : NoneStands before

-- what is not built yet is a bad command
abbrev pub unbuilt : World → Meaning
unbuilt world = record { checks = When (Unit {0}) BadCommand ∷ []; Accepts = λ new answer. ⊥; Excepts = Exception world LoadsNone }

-- ## Questions

-- For a question, where this is held: its checks in the one order; its lines where all of them pass; and the line that may come in place of all that where the objects
-- outside gained this, running out of memory apart. A question changes nothing.
pub record Question : Type 1 where
  pub checks : List Check
  pub Answers : List (List ℕ) → Type 0
  pub Excepts : Gained → List ℕ → Type 0

-- no line but those
abbrev pub ExceptsNone : Gained → List ℕ → Type 0
ExceptsNone gained line = ⊥

-- the lines answer the question, and nothing has changed
pub record AnswersQuestion (question : Question) (world new : World) (answer : Answer) : Type 0 where
  pub lines : List (List ℕ)
  pub answered : question.Answers lines
  pub same : new ≡ world
  pub says : answer ≡ Lines lines

-- a line that comes in place of an answer, and nothing has changed
pub data ExceptsQuestion (question : Question) (world : World) (gained : Gained) : World → Answer → Type 0 where
  QuestionStarved : ExceptsQuestion question world gained world (Refused no_memory_line)
  QuestionExcepted : (line : List ℕ) → question.Excepts gained line → ExceptsQuestion question world gained world (Refused line)

-- a question that is given as a command
abbrev pub asking : Question → World → Meaning
asking question world = record { checks = question.checks; Accepts = AnswersQuestion question world; Excepts = ExceptsQuestion question world }
