-- What a session's replies say.
use Rattle.std.specs.Prelude.{ℕ, ◌≡◌, List, [], ◌∷◌, ◌++◌, length, codes, Some}
use Rattle.std.specs.Fmt.{decimal}
use Rattle.mt_text_spec.specs.Registries.{Registry}
use Rattle.mt_text_spec.specs.Texts.{Text}
use Rattle.mt_text_spec.specs.Queries.{Grammar}
use Rattle.mt_file_spec.specs.RegistryFile.{ReadsRegistry as Reads, FirstRegistryFault, LacksBase, RegistryCause}
use Rattle.mt_file_spec.specs.Vertical.{Vertical, FirstTextFault, TextCause}
use Rattle.mt_shelf_spec.specs.Files.{Files}
use Rattle.mt_rule_spec.specs.Rules.{HasTooManyIn}
use Rattle.mt_script_spec.specs.Commands.{Command}
use Rattle.mt_script_spec.specs.Script as script
use Rattle.mt_session_spec.specs.World.{Held, World, with_text, IsFull}
use Rattle.mt_session_spec.specs.Settings.{Setting, mapper_names, images_of}
use Rattle.mt_session_spec.specs.Gains.{Gained, none_gained}
use Rattle.mt_session_spec.specs.Refusals.{BadRegistry, NoAttribute, BadVertical, CorpusFull, TooManyRows, refusal_line, no_memory_line, ok_line}
use Rattle.mt_session_spec.specs.Answers as answers
use Rattle.mt_session_spec.specs.Registering.{with_registry}
use Rattle.mt_session_spec.specs.Steps.{Step}
use Rattle.mt_session_spec.specs.Replies.{KnownStep}
use Rattle.mt_session_spec.specs.Runs.{Outside}
use Rattle.mt_answer.specs.declared.reply.Reply.{Reply}
use Rattle.mt_answer.specs.declared.reply.Reply.TheVariants as reply
use Rattle.mt_answer.specs.Replies.{Says, SaysOf}
use Rattle.mt_shell.specs.Outsides.{known, gains}

-- what is held, over these files
abbrev pub over : Held → Files → World
over held files = record { held = held; files = files }

-- the command means this reply and this change, where the objects outside gained this
abbrev pub Answers : Setting → World → Command → Gained → Reply → World → Type 0
Answers setting world command gained said new = SaysOf (λ answer. Step setting world command gained new answer) said

-- the same of a command that asks nothing of what is outside, whatever the files are
abbrev pub AnswersAlone : Setting → Held → Command → Reply → Held → Type 0
AnswersAlone setting held command said new = (files : Files) → Answers setting (over held files) command none_gained said (over new files)

-- the same of one that asks the shop alone, which came to have refused the new texts where it had refused the old ones
pub record AnswersBeside (setting : Setting) (held : Held) (command : Command) (said : Reply) (new : Held) (before after : List (List ℕ)) : Type 0 where
  pub refused : List (List ℕ)
  pub more : after ≡ before ++ refused
  pub answers : (files : Files) → Answers setting (over held files) command (record { failed = []; refused = refused }) said (over new files)

-- One command over a shelf that may tell its files: what it answers is right for some files, and for those that are told where they are. Nothing else is changed
-- outside than by what it gained.
pub record Stepped (setting : Setting) (held : Held) (command : Command) (said : Reply) (new : Held) (start end : Outside) : Type 0 where
  pub gained : Gained
  pub answer : answers.Answer
  pub says : Says said answer
  pub step : KnownStep setting (known held start) (script.Given command) gained (known new end) answer
  pub outside : end ≡ gains start gained

-- the command is refused as a whole
abbrev pub IsRefusal : Reply → Type 0
IsRefusal (reply.Refused bytes) = Unit {0}
IsRefusal (reply.Lines bytes) = ⊥
IsRefusal (reply.Last bytes) = ⊥
IsRefusal reply.NoMemory = Unit {0}

-- ## Parts. In each, memory may be wanted, and then nothing has changed.

-- the registry is set
pub data Sets (held : Held) (registry : Registry) : answers.Answer → Held → Type 0 where
  Set : Sets held registry (answers.Lines (ok_line ∷ [])) (with_registry held registry)
  SetStarved : Sets held registry (answers.Refused no_memory_line) held

abbrev pub SetsRegistry : Held → Registry → Reply → Held → Type 0
SetsRegistry held registry said new = SaysOf (λ answer. Sets held registry answer new) said

-- What is done with bytes that are to be a registry: they are none, or it is set.
pub data Registers (setting : Setting) (held : Held) (bytes : List ℕ) : answers.Answer → Held → Type 0 where
  BadLine : (line : ℕ) (cause : RegistryCause) → FirstRegistryFault (mapper_names setting) bytes line cause →
      Registers setting held bytes (answers.Refused (refusal_line (BadRegistry line cause))) held
  Baseless : LacksBase (mapper_names setting) bytes → Registers setting held bytes (answers.Refused (refusal_line NoAttribute)) held
  Good : (registry : Registry) → Reads (mapper_names setting) bytes registry → Registers setting held bytes (answers.Lines (ok_line ∷ [])) (with_registry held registry)
  Unread : Registers setting held bytes (answers.Refused no_memory_line) held

abbrev pub ReadsRegistry : Setting → Held → List ℕ → Reply → Held → Type 0
ReadsRegistry setting held bytes said new = SaysOf (λ answer. Registers setting held bytes answer new) said

-- some query of the grammar that is held has too many rows in the text
pub record IsRich (setting : Setting) (held : Held) (text : Text) : Type 0 where
  pub grammar : Grammar
  pub ruled : held.grammar ≡ Some grammar
  pub many : HasTooManyIn (images_of setting) held.registry grammar text

-- What is done with a text whose name is free: no room, or too many rows, or it is held from now on.
pub data Keeps (setting : Setting) (held : Held) (text : Text) : answers.Answer → Held → Type 0 where
  NoRoom : IsFull held.groups (length text.tokens) → Keeps setting held text (answers.Refused (refusal_line CorpusFull)) held
  TooRich : (IsFull held.groups (length text.tokens) → ⊥) → IsRich setting held text → Keeps setting held text (answers.Refused (refusal_line TooManyRows)) held
  Kept : (IsFull held.groups (length text.tokens) → ⊥) → (IsRich setting held text → ⊥) →
      Keeps setting held text (answers.Lines ((codes "ok " ++ decimal (length text.tokens)) ∷ [])) (with_text held text)
  KeptNot : Keeps setting held text (answers.Refused no_memory_line) held

abbrev pub KeepsText : Setting → Held → Text → Reply → Held → Type 0
KeepsText setting held text said new = SaysOf (λ answer. Keeps setting held text answer new) said

-- What is done with bytes under a free name: they are no text, or their text is kept or not.
pub data Takes (setting : Setting) (held : Held) (name bytes : List ℕ) : answers.Answer → Held → Type 0 where
  Faulty : (line : ℕ) (cause : TextCause) → FirstTextFault held.registry bytes line cause → Takes setting held name bytes (answers.Refused (refusal_line (BadVertical line cause))) held
  Sound : (text : Text) (answer : answers.Answer) (new : Held) → Vertical held.registry name bytes text → Keeps setting held text answer new → Takes setting held name bytes answer new
  TakenNot : Takes setting held name bytes (answers.Refused no_memory_line) held

abbrev pub ReadsText : Setting → Held → List ℕ → List ℕ → Reply → Held → Type 0
ReadsText setting held name bytes said new = SaysOf (λ answer. Takes setting held name bytes answer new) said
