-- What is known of a run at its end, by its status.
use Rattle.std.specs.Prelude.{ℕ, ◌≡◌, ◌<◌, ◌⊎◌, true, false, List, [], ◌++◌, length, Some}
use Rattle.mt_shelf_spec.specs.Files.{Files}
use Rattle.mt_outside.specs.Faults.{Rose}
use Rattle.mt_outside.specs.Told.{Told}
use Rattle.mt_session_spec.specs.World.{Held, first_held}
use Rattle.mt_session_spec.specs.Settings.{Setting}
use Rattle.mt_session_spec.specs.Runs.{Outside, script_bytes_limit, EndsWell, EndsWithFault, EndsTooLong, EndsInPart, AnswersScript}
use Rattle.mt_shell.specs.declared.top.Status.{Status}
use Rattle.mt_shell.specs.declared.top.Status.TheVariants.{Done, Usage, SourceFault, SinkFault, ScriptTooLong, NoMemory}
use Rattle.mt_shell.specs.Outsides.{SameSource, NoFaults}
use Rattle.mt_shell.specs.Reads.{Progress, ProgressToQuit, ProgressInPart}

-- what was read and written, where source and sink tell it
abbrev pub WhereTold : (List ℕ → Outside → List ℕ → Outside → Type 0) → Outside → Outside → Type 0
WhereTold Ends start end = Told start.left (λ input. Told start.written (λ written. Ends input start written end))

-- A fault of the source or of the sink ends the run, so each count of faults is as it was but where the run ends with its fault.
abbrev pub FaultsAs : Status → Outside → Outside → Type 0
FaultsAs Done start end = NoFaults start end
FaultsAs Usage start end = NoFaults start end
FaultsAs SourceFault start end = Rose start.source_faults end.source_faults × (end.sink_faults ≡ start.sink_faults)
FaultsAs SinkFault start end = (end.source_faults ≡ start.source_faults) × Rose start.sink_faults end.sink_faults
FaultsAs ScriptTooLong start end = NoFaults start end
FaultsAs NoMemory start end = NoFaults start end

-- what was read and written by a run that ends so
abbrev pub EndsAs : Setting → Status → Outside → Outside → Type 0
EndsAs setting Done start end = WhereTold (EndsWell setting) start end
EndsAs setting Usage start end = end ≡ start
EndsAs setting SourceFault start end = WhereTold (EndsWithFault setting) start end
EndsAs setting SinkFault start end = WhereTold (EndsInPart setting) start end
EndsAs setting ScriptTooLong start end = WhereTold (EndsTooLong setting) start end
EndsAs setting NoMemory start end = WhereTold (EndsInPart setting) start end

-- the script is too long
abbrev pub IsLong : Outside → Type 0
IsLong start = Told start.left (λ input. script_bytes_limit < length input)

-- no call of the shelf or of the shop failed
pub record NoneFailed (start end : Outside) : Type 0 where
  pub failed : end.failed ≡ start.failed
  pub refused : end.refused ≡ start.refused

-- What was written are answers to the script, and its one answer where none of them tells that memory ran out and no pattern that is asked for nests too deep.
abbrev pub IsTheAnswer : Setting → Outside → Outside → Type 0
IsTheAnswer setting start end = Told start.left (λ input. Told start.written (λ written. Told start.files (λ files. NoneFailed start end → AnswersScript setting input written files end)))

-- a run that ends well has written the answer of its script
abbrev pub EndsAreAnswers : Type 0
EndsAreAnswers = (setting : Setting) (input written : List ℕ) (start end : Outside) (files : Files) → start.files ≡ Some files → NoneFailed start end → EndsWell setting input start written end →
    AnswersScript setting input written files end

-- ## Parts

-- So many bytes of the input were taken.
pub record Took (input : List ℕ) (taken : ℕ) (end : Outside) : Type 0 where
  pub front : List ℕ
  pub back : List ℕ
  pub are : input ≡ front ++ back
  pub rest : end.left ≡ Some back
  pub count : length front ≡ taken

-- So many bytes of the input were taken, and those that do not wait are answered.
pub record ReadsOn (setting : Setting) (input : List ℕ) (taken : ℕ) (wait : List ℕ) (held : Held) (start : Outside) (written : List ℕ) (end : Outside) : Type 0 where
  pub front : List ℕ
  pub back : List ℕ
  pub are : input ≡ front ++ back
  pub rest : end.left ≡ Some back
  pub count : length front ≡ taken
  pub progress : Progress setting false front wait first_held held start written end

-- what is answered where the script has ended
abbrev pub FinishesAs : Setting → Status → List ℕ → Held → Held → Outside → List ℕ → Outside → Type 0
FinishesAs setting Done bytes old new start written end = Progress setting true bytes [] old new start written end ⊎ ProgressToQuit setting true bytes old start written end
FinishesAs setting Usage bytes old new start written end = ⊥
FinishesAs setting SourceFault bytes old new start written end = ⊥
FinishesAs setting SinkFault bytes old new start written end = ProgressInPart setting true bytes old start written end
FinishesAs setting ScriptTooLong bytes old new start written end = ⊥
FinishesAs setting NoMemory bytes old new start written end = ProgressInPart setting true bytes old start written end

-- how it ends then
abbrev pub FinishCounts : Status → Outside → Outside → Type 0
FinishCounts Done start end = SameSource start end × (end.sink_faults ≡ start.sink_faults)
FinishCounts Usage start end = ⊥
FinishCounts SourceFault start end = ⊥
FinishCounts SinkFault start end = SameSource start end × Rose start.sink_faults end.sink_faults
FinishCounts ScriptTooLong start end = ⊥
FinishCounts NoMemory start end = SameSource start end × (end.sink_faults ≡ start.sink_faults)
