-- What a run has read and written when it ends, by the way in which it ends. `start` is what was outside before the run, and `end` what is there behind it;
-- `input` are the bytes that the source had left, and `written` those that the sink held.
use Rattle.std.specs.Prelude.{ℕ, ◌≡◌, ◌-◌, ◌≤◌, ◌⊎◌, Bool, true, false, List, [], ◌∷◌, ◌++◌, length, take, Option, Some}
use Rattle.mt_script_spec.specs.Commands.{Quit}
use Rattle.mt_script_spec.specs.Script.{Item, Given, Items, Begins}
use Rattle.mt_shelf_spec.specs.Files.{Files}
use Rattle.mt_session_spec.specs.World.{World, first_held}
use Rattle.mt_session_spec.specs.Settings.{Setting}
use Rattle.mt_session_spec.specs.Gains.{Gained}
use Rattle.mt_session_spec.specs.Answers.{Answer, bytes_of, output_of}
use Rattle.mt_session_spec.specs.Replies.{Known, first_known, Replies, AreAnswers, NoQuit, NoneStarved, NoneDeep}

-- the most bytes of a script
abbrev pub script_bytes_limit : ℕ
script_bytes_limit = 268435456

-- the most bytes that are read at once
abbrev pub block_bytes_limit : ℕ
block_bytes_limit = 65536

-- What is outside: the bytes that the source has left, those that the sink holds and the files that the shelf keeps, where each tells them; how many calls of source and
-- sink failed; and the names at which calls of the shelf failed and the patterns that the shop refused.
pub record Outside : Type 0 where
  pub left : Option (List ℕ)
  pub source_faults : ℕ
  pub written : Option (List ℕ)
  pub sink_faults : ℕ
  pub files : Option Files
  pub failed : List (List ℕ)
  pub refused : List (List ℕ)

-- these bytes were written more, the shelf tells these files, and the objects outside gained this
pub record Leaves (start : Outside) (written output : List ℕ) (stored : Option Files) (gained : Gained) (end : Outside) : Type 0 where
  pub held : end.written ≡ Some (written ++ output)
  pub files : end.files ≡ stored
  pub failed : end.failed ≡ start.failed ++ gained.failed
  pub refused : end.refused ≡ start.refused ++ gained.refused

-- ## Items that are answered

-- all whole items of these bytes are answered, and none is a `quit`
pub record Answered (setting : Setting) (ended : Bool) (bytes : List ℕ) (start : Outside) (written : List ℕ) (end : Outside) : Type 0 where
  pub items : List Item
  pub rest : List ℕ
  pub gained : Gained
  pub answers : List Answer
  pub last : Known
  pub read : Items ended bytes items rest
  pub no_quit : NoQuit items
  pub replies : Replies setting items (first_known start.files) gained answers last
  pub leaves : Leaves start written (output_of answers) last.files gained end

-- the items of these bytes up to their first `quit` are answered, that too
pub record AnsweredToQuit (setting : Setting) (ended : Bool) (bytes : List ℕ) (start : Outside) (written : List ℕ) (end : Outside) : Type 0 where
  pub items : List Item
  pub others : List ℕ
  pub gained : Gained
  pub answers : List Answer
  pub last : Known
  pub read : Begins ended bytes (items ++ Given Quit ∷ []) others
  pub no_quit : NoQuit items
  pub replies : Replies setting (items ++ Given Quit ∷ []) (first_known start.files) gained answers last
  pub leaves : Leaves start written (output_of answers) last.files gained end

-- all answers but the last are written, and a front of that one
abbrev pub InPart : List Answer → List ℕ → Type 0
InPart [] output = output ≡ []
InPart (answer ∷ []) output = (unwritten : List ℕ) × (bytes_of answer ≡ output ++ unwritten)
InPart (answer ∷ next ∷ later) output = (others : List ℕ) × (output ≡ bytes_of answer ++ others) × InPart (next ∷ later) others

-- the first items of these bytes are answered, the last of them in part, and none before that one is a `quit`
pub record AnsweredInPart (setting : Setting) (ended : Bool) (bytes : List ℕ) (start : Outside) (written : List ℕ) (end : Outside) : Type 0 where
  pub items : List Item
  pub others : List ℕ
  pub gained : Gained
  pub answers : List Answer
  pub last : Known
  pub output : List ℕ
  pub read : Begins ended bytes items others
  pub no_quit : NoQuit (take (length items - 1) items)
  pub replies : Replies setting items (first_known start.files) gained answers last
  pub part : InPart answers output
  pub leaves : Leaves start written output last.files gained end

-- ## The last read

-- no whole item of these bytes is a `quit`
pub record HoldsNoQuit (bytes : List ℕ) : Type 0 where
  pub items : List Item
  pub rest : List ℕ
  pub read : Items false bytes items rest
  pub no_quit : NoQuit items

-- What was taken before the last read holds no whole `quit`: nothing is read behind one. A read takes no more than a block.
pub record IsLastRead (taken : List ℕ) : Type 0 where
  pub before : List ℕ
  pub piece : List ℕ
  pub are : taken ≡ before ++ piece
  pub one : length piece ≤ block_bytes_limit
  pub none : HoldsNoQuit before

-- these bytes were taken, and no more than a script may have; where the source is at its end, they are all
pub record Took (input taken : List ℕ) (ended : Bool) (end : Outside) : Type 0 where
  pub back : List ℕ
  pub are : input ≡ taken ++ back
  pub rest : end.left ≡ Some back
  pub whole : ended ≡ true → back ≡ []
  pub short : length taken ≤ script_bytes_limit

-- ## Ends

-- the source was read to its end, and all is answered
pub record EndsAtEnd (setting : Setting) (input : List ℕ) (start : Outside) (written : List ℕ) (end : Outside) : Type 0 where
  pub none_left : end.left ≡ Some []
  pub short : length input ≤ script_bytes_limit
  pub answered : Answered setting true input start written end

-- a `quit` was read, all up to it is answered, and nothing was read behind it
pub record EndsAtQuit (setting : Setting) (input : List ℕ) (start : Outside) (written : List ℕ) (end : Outside) : Type 0 where
  pub ended : Bool
  pub taken : List ℕ
  pub took : Took input taken ended end
  pub last : IsLastRead taken
  pub answered : AnsweredToQuit setting ended taken start written end

-- Done
abbrev pub EndsWell : Setting → List ℕ → Outside → List ℕ → Outside → Type 0
EndsWell setting input start written end = EndsAtEnd setting input start written end ⊎ EndsAtQuit setting input start written end

-- a fault of the source: what was taken is answered, and holds no whole `quit`
pub record EndsWithFault (setting : Setting) (input : List ℕ) (start : Outside) (written : List ℕ) (end : Outside) : Type 0 where
  pub taken : List ℕ
  pub took : Took input taken false end
  pub answered : Answered setting false taken start written end

-- a script that is too long: the bytes up to the limit are answered and hold no whole `quit`, and one more was taken
pub record EndsTooLong (setting : Setting) (input : List ℕ) (start : Outside) (written : List ℕ) (end : Outside) : Type 0 where
  pub taken : List ℕ
  pub more : ℕ
  pub back : List ℕ
  pub are : input ≡ taken ++ more ∷ back
  pub rest : end.left ≡ Some back
  pub full : length taken ≡ script_bytes_limit
  pub answered : Answered setting false taken start written end

-- a fault of the sink, or memory that ran out: the first items of what was taken are answered, the last of them in part, and nothing was read behind a `quit`
pub record EndsInPart (setting : Setting) (input : List ℕ) (start : Outside) (written : List ℕ) (end : Outside) : Type 0 where
  pub ended : Bool
  pub taken : List ℕ
  pub took : Took input taken ended end
  pub last : IsLastRead taken
  pub answered : AnsweredInPart setting ended taken start written end

-- ## The one answer

-- These answers are those that the items have from the first world on over these files, and no others are.
pub record AreTheAnswers (setting : Setting) (items : List Item) (files : Files) (answers : List Answer) : Type 0 where
  pub last : World
  pub are : AreAnswers setting items (record { held = first_held; files = files }) answers last
  pub one : (others : List Answer) (other : World) → AreAnswers setting items (record { held = first_held; files = files }) others other → others ≡ answers

-- What was taken are these items and a rest that is none, or they end with the first `quit`. What was written are answers to them. Where none of these tells that
-- memory ran out, and no pattern that is asked for nests too deep, they are the one answer of the script.
pub record AnswersScript (setting : Setting) (input written : List ℕ) (files : Files) (end : Outside) : Type 0 where
  pub ended : Bool
  pub taken : List ℕ
  pub took : Took input taken ended end
  pub items : List Item
  pub rest : List ℕ
  pub answers : List Answer
  pub read : Items ended taken items rest ⊎ ((first : List Item) × (items ≡ first ++ Given Quit ∷ []) × NoQuit first × Begins ended taken items rest)
  pub held : end.written ≡ Some (written ++ output_of answers)
  pub one : NoneStarved answers → NoneDeep setting items (record { held = first_held; files = files }) → AreTheAnswers setting items files answers
