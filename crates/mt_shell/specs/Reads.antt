-- How far a run has come.
use Rattle.std.specs.Prelude.{ℕ, ◌≡◌, ◌≢◌, ◌-◌, Bool, List, [], ◌∷◌, ◌++◌, length, take, Option, Some, None}
use Rattle.mt_text_spec.specs.Lines.{closed}
use Rattle.mt_script_spec.specs.Commands.{Quit}
use Rattle.mt_script_spec.specs.Script.{Item, Given, Bad, CutShort, Begins}
use Rattle.mt_session_spec.specs.World.{Held}
use Rattle.mt_session_spec.specs.Settings.{Setting}
use Rattle.mt_session_spec.specs.Gains.{Gained}
use Rattle.mt_session_spec.specs.Answers.{Answer, bytes_of, output_of}
use Rattle.mt_session_spec.specs.Refusals.{no_memory_line}
use Rattle.mt_session_spec.specs.Steps.{IsSaid}
use Rattle.mt_session_spec.specs.Replies.{Known, KnownStep, Replies, NoQuit}
use Rattle.mt_session_spec.specs.Runs.{Outside, Leaves, InPart}
use Rattle.mt_answer.specs.declared.reply.Reply.{Reply}
use Rattle.mt_answer.specs.declared.reply.Reply.TheVariants as reply
use Rattle.mt_script.specs.Seen.{command_of}
use Rattle.mt_script.specs.declared.command.Next.{Next}
use Rattle.mt_script.specs.declared.command.Next.TheVariants.{Command as NextCommand, Bad as NextBad, CutShort as NextCutShort, More as NextMore, End as NextEnd, NoMemory as NextNoMemory}
use Rattle.mt_shell.specs.declared.talk.Flow.{Flow}
use Rattle.mt_shell.specs.declared.talk.Flow.TheVariants.{On, Over}
use Rattle.mt_shell.specs.Outsides.{known}

-- In what follows the sink held `written` at the start.

-- ## Items

-- One item was answered: the bytes that the sink holds went on with its answer.
pub record Replied (setting : Setting) (old : Held) (item : Item) (new : Held) (start : Outside) (written : List ℕ) (end : Outside) : Type 0 where
  pub gained : Gained
  pub answer : Answer
  pub step : KnownStep setting (known old start) item gained (known new end) answer
  pub leaves : Leaves start written (bytes_of answer) end.files gained end

-- One item was answered in part: the bytes that the sink holds went on with a front of its answer.
pub record RepliedInPart (setting : Setting) (old : Held) (item : Item) (start : Outside) (written : List ℕ) (end : Outside) : Type 0 where
  pub last : Known
  pub gained : Gained
  pub answer : Answer
  pub front : List ℕ
  pub unwritten : List ℕ
  pub are : bytes_of answer ≡ front ++ unwritten
  pub step : KnownStep setting (known old start) item gained last answer
  pub leaves : Leaves start written front last.files gained end

-- From the bytes that waited these items were taken and answered, none of them a `quit`, and the others wait.
pub record Progress (setting : Setting) (ended : Bool) (bytes still : List ℕ) (old new : Held) (start : Outside) (written : List ℕ) (end : Outside) : Type 0 where
  pub items : List Item
  pub gained : Gained
  pub answers : List Answer
  pub taken : Begins ended bytes items still
  pub no_quit : NoQuit items
  pub replies : Replies setting items (known old start) gained answers (known new end)
  pub leaves : Leaves start written (output_of answers) end.files gained end

-- The same, and then a `quit`.
pub record ProgressToQuit (setting : Setting) (ended : Bool) (bytes : List ℕ) (old : Held) (start : Outside) (written : List ℕ) (end : Outside) : Type 0 where
  pub items : List Item
  pub others : List ℕ
  pub gained : Gained
  pub answers : List Answer
  pub last : Known
  pub taken : Begins ended bytes (items ++ Given Quit ∷ []) others
  pub no_quit : NoQuit items
  pub replies : Replies setting (items ++ Given Quit ∷ []) (known old start) gained answers last
  pub leaves : Leaves start written (output_of answers) last.files gained end

-- The same as the first, where the last answer was written in part, or none was due.
pub record ProgressInPart (setting : Setting) (ended : Bool) (bytes : List ℕ) (old : Held) (start : Outside) (written : List ℕ) (end : Outside) : Type 0 where
  pub items : List Item
  pub others : List ℕ
  pub gained : Gained
  pub answers : List Answer
  pub last : Known
  pub output : List ℕ
  pub taken : Begins ended bytes items others
  pub no_quit : NoQuit (take (length items - 1) items)
  pub replies : Replies setting items (known old start) gained answers last
  pub part : InPart answers output
  pub leaves : Leaves start written output last.files gained end

-- A front of the piece was written.
pub record WroteFront (piece before : List ℕ) (after : Option (List ℕ)) : Type 0 where
  pub front : List ℕ
  pub unwritten : List ℕ
  pub are : piece ≡ front ++ unwritten
  pub written : after ≡ Some (before ++ front)

-- The item that comes next, or none where no whole item is left or memory ran out.
abbrev pub item_of : Next → Option Item
item_of (NextCommand command) = Some (Given (command_of command))
item_of NextBad = Some Bad
item_of NextCutShort = Some CutShort
item_of NextMore = None
item_of NextEnd = None
item_of NextNoMemory = None

-- a command that comes next is one that some script has
abbrev pub IsSaidNext : Next → Type 0
IsSaidNext (NextCommand command) = IsSaid (command_of command)
IsSaidNext NextBad = Unit {0}
IsSaidNext NextCutShort = Unit {0}
IsSaidNext NextMore = Unit {0}
IsSaidNext NextEnd = Unit {0}
IsSaidNext NextNoMemory = Unit {0}

-- no whole item is left
abbrev pub IsLast : Next → Type 0
IsLast (NextCommand command) = ⊥
IsLast NextBad = ⊥
IsLast NextCutShort = ⊥
IsLast NextMore = Unit {0}
IsLast NextEnd = Unit {0}
IsLast NextNoMemory = ⊥

-- the run is over with `quit`, and goes on behind every other item
abbrev pub Flows : Flow → Item → Type 0
Flows On item = item ≢ Given Quit
Flows Over item = item ≡ Given Quit

-- the bytes of a reply
abbrev pub reply_bytes : Reply → List ℕ
reply_bytes (reply.Refused bytes) = bytes
reply_bytes (reply.Lines bytes) = bytes
reply_bytes (reply.Last bytes) = bytes
reply_bytes reply.NoMemory = closed no_memory_line
