-- What one command and one question do: the world behind it, and the answer.
use Rattle.std.specs.Prelude.{ℕ, List}
use Rattle.mt_script_spec.specs.Commands.{Ask, Command, Header, IsHeader, WithBody}
use Rattle.mt_session_spec.specs.World.{World}
use Rattle.mt_session_spec.specs.Settings.{Setting}
use Rattle.mt_session_spec.specs.Scenes.{Scene}
use Rattle.mt_session_spec.specs.Gains.{Gained}
use Rattle.mt_session_spec.specs.Refusals.{Refusal, refusal_line, no_memory_line}
use Rattle.mt_session_spec.specs.Checks.{FirstStands, NoneStands}
use Rattle.mt_session_spec.specs.Answers.{Answer, Refused, Lines}
use Rattle.mt_session_spec.specs.Meaning.{Meaning, Question}
use Rattle.mt_session_spec.specs.Meanings.{meaning, question}

-- some script has this command
pub record IsSaid (command : Command) : Type 0 where
  pub line : List ℕ
  pub header : Header
  pub body : List ℕ
  pub good : IsHeader line header
  pub with_body : WithBody header body command

-- ## Commands

-- While memory lasts and no call outside fails: the first check that stands declines the command and nothing changes, or all pass and it is accepted.
pub data FineBy (meant : Meaning) (world : World) : World → Answer → Type 0 where
  Declined : (refusal : Refusal) → FirstStands meant.checks refusal → FineBy meant world world (Refused (refusal_line refusal))
  Accepted : (new : World) (answer : Answer) → NoneStands meant.checks → meant.Accepts new answer → FineBy meant world new answer

-- what a command does in a world while memory lasts and no call outside fails
abbrev pub Fine : Setting → World → Command → World → Answer → Type 0
Fine setting world command new answer = FineBy (meaning setting world command) world new answer

-- One command, in which the objects outside gained this: what it means, or an exception.
pub data StepBy (meant : Meaning) (world : World) (gained : Gained) : World → Answer → Type 0 where
  Meant : (new : World) (answer : Answer) → FineBy meant world new answer → StepBy meant world gained new answer
  Excepted : (new : World) (answer : Answer) → meant.Excepts gained new answer → StepBy meant world gained new answer

-- what a command does in a world in which the objects outside gained this
abbrev pub Step : Setting → World → Command → Gained → World → Answer → Type 0
Step setting world command gained new answer = StepBy (meaning setting world command) world gained new answer

-- ## Questions

-- The same of a question, whether it is a command or a line of a batch.
pub data AskStepBy (asked : Question) (gained : Gained) : Answer → Type 0 where
  AskDeclined : (refusal : Refusal) → FirstStands asked.checks refusal → AskStepBy asked gained (Refused (refusal_line refusal))
  AskAnswered : (lines : List (List ℕ)) → NoneStands asked.checks → asked.Answers lines → AskStepBy asked gained (Lines lines)
  AskStarved : AskStepBy asked gained (Refused no_memory_line)
  AskExcepted : (line : List ℕ) → asked.Excepts gained line → AskStepBy asked gained (Refused line)

-- what a question is answered where this is seen
abbrev pub AskStep : Scene → Ask → Gained → Answer → Type 0
AskStep scene ask gained answer = AskStepBy (question scene ask) gained answer
