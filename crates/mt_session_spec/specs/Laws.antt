-- What follows of the definitions: a command has a meaning, and one only; it keeps the world valid, and changes nothing where it is refused; a script has one answer;
-- what tells of a failure is licensed by a call that failed.
use Rattle.std.specs.Prelude.{ℕ, suc, ◌≡◌, ◌≤◌, ◌||◌, Bool, false, List, [], ◌∷◌, length, slice_get, count_by, Some}
use Rattle.std.specs.List.{All}
use Rattle.std.specs.Str.{bytes_eq}
use Rattle.mt_text_spec.specs.Registries.{Registry, ValidRegistry}
use Rattle.mt_text_spec.specs.Texts.{Text, ValidText}
use Rattle.mt_text_spec.specs.Queries.{Grammar}
use Rattle.mt_grammar_spec.specs.ValidGrammar.{ValidGrammar}
use Rattle.mt_pattern_spec.specs.Patterns.{wrapped}
use Rattle.mt_script_spec.specs.Commands.{Ask, Command}
use Rattle.mt_script_spec.specs.Script.{Item, Given, Bad, CutShort, Begins}
use Rattle.mt_shelf_spec.specs.Files.{Files}
use Rattle.mt_session_spec.specs.World.{Held, World, ValidHeld, Holds, IsFull, corpus_of, with_text, without_text, with_grammar, first_held}
use Rattle.mt_session_spec.specs.Settings.{Setting}
use Rattle.mt_session_spec.specs.Scenes.{scene_of}
use Rattle.mt_session_spec.specs.Gains.{Gained, none_gained, gained_then}
use Rattle.mt_session_spec.specs.Refusals.{failure_line, pattern_refused_line}
use Rattle.mt_session_spec.specs.Answers.{Answer, Refused, Lines, Last}
use Rattle.mt_session_spec.specs.Registering.{with_registry}
use Rattle.mt_session_spec.specs.Steps.{IsSaid, Fine, Step, AskStep}
use Rattle.mt_session_spec.specs.Replies.{Known, KnownStep, Replies, AreAnswers, NoneStarved, AsksFor, NoneDeep}
use Rattle.mt_session_spec.specs.Runs.{AreTheAnswers}

-- ## One command

-- In a valid world no command that can be said is without a meaning. That there is one is said by what cannot be, since to find it is the readers' work.
abbrev pub SomeMeaning : Type 0
SomeMeaning = (setting : Setting) (world : World) (command : Command) → ValidHeld world.held → IsSaid command →
    ((new : World) (answer : Answer) → Fine setting world command new answer → ⊥) → ⊥

-- and it has one only
abbrev pub OneMeaning : Type 0
OneMeaning = (setting : Setting) (world : World) (command : Command) → ValidHeld world.held → IsSaid command →
    (new other : World) (answer another : Answer) → Fine setting world command new answer → Fine setting world command other another → (new ≡ other) × (answer ≡ another)

-- a command leaves a valid world, whatever it does
abbrev pub StepsKeepValid : Type 0
StepsKeepValid = (setting : Setting) (world : World) (command : Command) (gained : Gained) → ValidHeld world.held → IsSaid command →
    (new : World) (answer : Answer) → Step setting world command gained new answer → ValidHeld new.held

-- a refused command changes nothing that is held
abbrev pub RefusedKeep : Type 0
RefusedKeep = (setting : Setting) (world : World) (command : Command) (gained : Gained) → ValidHeld world.held → IsSaid command →
    (new : World) (line : List ℕ) → Step setting world command gained new (Refused line) → new.held ≡ world.held

-- ## What is held

-- at first, with another text, without one, with another registry and with another grammar it is valid
pub record HeldIsValid : Type 0 where
  pub first : ValidHeld first_held
  pub text : (held : Held) (text : Text) → ValidHeld held → ValidText held.registry text → (Holds held text.name → ⊥) → (IsFull held.groups (length text.tokens) → ⊥) →
      ValidHeld (with_text held text)
  pub without : (held : Held) (name : List ℕ) → ValidHeld held → ValidHeld (without_text held name)
  pub registry : (held : Held) (registry : Registry) → ValidRegistry registry → ValidHeld (with_registry held registry)
  pub grammar : (held : Held) (grammar : Grammar) → ValidHeld held → ValidGrammar held.registry grammar → ValidHeld (with_grammar held grammar)

-- ## Questions

-- A question sees nothing of the groups but the texts of the corpus: where the registry, the grammar and those texts are the same, it means the same.
abbrev pub QuestionsSeeTheCorpus : Type 0
QuestionsSeeTheCorpus = (setting : Setting) (held other : Held) (ask : Ask) → held.registry ≡ other.registry → corpus_of held.groups ≡ corpus_of other.groups → held.grammar ≡ other.grammar →
    (gained : Gained) (answer : Answer) → AskStep (scene_of setting held) ask gained answer → AskStep (scene_of setting other) ask gained answer

-- ## Many items

-- a command among the items can be said
abbrev pub IsSaidItem : Item → Type 0
IsSaidItem (Given command) = IsSaid command
IsSaidItem Bad = Unit {0}
IsSaidItem CutShort = Unit {0}

-- the items of a script can be said
abbrev pub ItemsAreSaid : Type 0
ItemsAreSaid = (ended : Bool) (bytes rest : List ℕ) (items : List Item) → Begins ended bytes items rest → All IsSaidItem items

-- in a valid world no items that can be said are without answers
abbrev pub SomeAnswers : Type 0
SomeAnswers = (setting : Setting) (items : List Item) (world : World) → ValidHeld world.held → All IsSaidItem items →
    ((answers : List Answer) (last : World) → AreAnswers setting items world answers last → ⊥) → ⊥

-- and they have one list of them only
abbrev pub OneAnswers : Type 0
OneAnswers = (setting : Setting) (items : List Item) (world : World) → ValidHeld world.held → All IsSaidItem items →
    (answers others : List Answer) (last other : World) → AreAnswers setting items world answers last → AreAnswers setting items world others other → (answers ≡ others) × (last ≡ other)

-- Over files that are known, replies of which none tells that memory ran out, and in which no call failed, are the one answer, where no pattern that is asked for
-- nests too deep.
abbrev pub RepliesAreAnswers : Type 0
RepliesAreAnswers = (setting : Setting) (items : List Item) (files : Files) (answers : List Answer) (last : Known) → All IsSaidItem items →
    Replies setting items (record { held = first_held; files = Some files }) none_gained answers last → NoneStarved answers → NoneDeep setting items (record { held = first_held; files = files }) →
    AreTheAnswers setting items files answers

-- ## Failures

-- the answer tells that a call of the shelf at this file failed; a line of a concordance is no such answer, whatever the corpus holds
abbrev pub tells_failure : List ℕ → Answer → Bool
tells_failure file (Refused line) = bytes_eq line (failure_line file)
tells_failure file (Lines lines) = false
tells_failure file (Last line) = false

-- how many of these answers tell it
abbrev pub told_failures : List ℕ → List Answer → ℕ
told_failures file answers = count_by (tells_failure file) answers

-- they are at most as many as the calls that failed at it
abbrev pub FailuresAreGained : Type 0
FailuresAreGained = (setting : Setting) (items : List Item) (known : Known) (gained : Gained) (answers : List Answer) (last : Known) → Replies setting items known gained answers last →
    (file : List ℕ) → told_failures file answers ≤ count_by (λ name. bytes_eq name file) gained.failed

-- an answer tells that this pattern was refused: it is the one with the number that is told, among those for which the item asks in this world
pub record TellsRefusal (pattern : List ℕ) (world : World) (item : Item) (answer : Answer) : Type 0 where
  pub texts : List (List ℕ)
  pub asked : AsksFor world item texts
  pub number : ℕ
  pub there : slice_get texts number ≡ Some pattern
  pub told : answer ≡ Refused (pattern_refused_line (suc number))

-- these are replies to the items, as many of which tell it
pub data TellRefusals (setting : Setting) (pattern : List ℕ) : List Item → Known → Gained → List Answer → ℕ → Type 0 where
  NoneTells : (known : Known) → TellRefusals setting pattern [] known none_gained [] 0
  OneTells : (item : Item) (items : List Item) (known next : Known) (here later : Gained) (answer : Answer) (answers : List Answer) (count : ℕ) →
      (step : KnownStep setting known item here next answer) → TellsRefusal pattern step.world item answer → TellRefusals setting pattern items next later answers count →
      TellRefusals setting pattern (item ∷ items) known (gained_then here later) (answer ∷ answers) (suc count)
  OneTellsNot : (item : Item) (items : List Item) (known next : Known) (here later : Gained) (answer : Answer) (answers : List Answer) (count : ℕ) →
      KnownStep setting known item here next answer → TellRefusals setting pattern items next later answers count →
      TellRefusals setting pattern (item ∷ items) known (gained_then here later) (answer ∷ answers) count

-- they are at most as many as the texts that the shop refused and that are this pattern, alone or between the marks
abbrev pub RefusalsAreGained : Type 0
RefusalsAreGained = (setting : Setting) (items : List Item) (known : Known) (gained : Gained) (answers : List Answer) (pattern : List ℕ) (count : ℕ) →
    TellRefusals setting pattern items known gained answers count → count ≤ count_by (λ text. bytes_eq text pattern || bytes_eq text (wrapped pattern)) gained.refused
