-- What a session's replies mean.
use Rattle.std.proofs.Common.{◌≡◌, ◌⊎◌, inl, inr, ℕ, List, [], ◌∷◌, ◌++◌, Option, None, Some, option_map, refl, sym, ◌∙◌, ap, append-nil, IsTrue, false}
use Rattle.mt_shelf_spec.specs.Files.{Files, no_files}
use Rattle.mt_script_spec.specs.Commands.{Command}
use Rattle.mt_session_spec.specs.World.{Held, World}
use Rattle.mt_session_spec.specs.Settings.{Setting}
use Rattle.mt_session_spec.specs.Gains.{Gained, none_gained}
use Rattle.mt_session_spec.specs.Refusals.{Refusal, refusal_line, failure_line, no_memory_line}
use Rattle.mt_session_spec.specs.Checks.{Check, When, Passes, FirstStands, NoneStands}
use Rattle.mt_session_spec.specs.Answers as answers
use Rattle.mt_session_spec.specs.Meaning.{Meaning}
use Rattle.mt_session_spec.specs.Steps.{StepBy, Meant, Excepted, Declined}
use Rattle.mt_session_spec.specs.Replies.{Known, known_after}
use Rattle.mt_session_spec.specs.Runs.{Outside}
use Rattle.mt_answer.specs.declared.reply.Reply.{Reply}
use Rattle.mt_answer.specs.declared.reply.Reply.TheVariants.{NoMemory}
use Rattle.mt_answer.specs.Replies.{SaysOf, SaysNoMemory, Given}
use Rattle.mt_shell.specs.declared.fetch.Fetched.{Fetched}
use Rattle.mt_shell.specs.Sights.{Sees}
use Rattle.mt_shell.specs.Outsides.{known, gains, beside}
use Rattle.mt_shell.specs.Fetches.{Finds, gained_of}
use Rattle.mt_shell.specs.Answers.{Answers, AnswersAlone, AnswersBeside, Stepped, over}

pub not_true : IsTrue false → ⊥
not_true h = cc

-- ## Checks

pub no_cause : {cause : Type 0} {refusal : Refusal} → (cause → ⊥) → Passes (When cause refusal)
no_cause none given w = none w.there

-- the first stands behind a front that passes
pub first_behind : (front own : List Check) (refusal : Refusal) → NoneStands front → FirstStands own refusal → FirstStands (front ++ own) refusal
first_behind [] own refusal none f = f
first_behind (check ∷ front) own refusal none f = inr (none.0, first_behind front own refusal none.1 f)

pub none_both : (front own : List Check) → NoneStands front → NoneStands own → NoneStands (front ++ own)
none_both [] own none n = n
none_both (check ∷ front) own none n = (none.0, none_both front own none.1 n)

-- ## Replies

-- the reply is an answer of this meaning
abbrev pub StepsBy : Meaning → World → Gained → Reply → World → Type 0
StepsBy meant world gained reply new = SaysOf (λ answer. StepBy meant world gained new answer) reply

-- memory ran out
pub starved : (meant : Meaning) (world : World) (gained : Gained) → meant.Excepts gained world (answers.Refused no_memory_line) → StepsBy meant world gained NoMemory world
starved meant world gained e = record { answer = answers.Refused no_memory_line; says = SaysNoMemory; holds = Excepted world (answers.Refused no_memory_line) e }

-- it is this answer, which is meant, or memory ran out
pub given : (meant : Meaning) (world : World) (gained : Gained) (expected : answers.Answer) (reply : Reply) → StepBy meant world gained world expected → meant.Excepts gained world (answers.Refused no_memory_line) →
    Given expected reply → StepsBy meant world gained reply world
given meant world gained expected reply s e g = record { answer = g.answer; says = g.says; holds = by g.answer g.holds }
  where
    by : (answer : answers.Answer) → (answer ≡ expected) ⊎ (answer ≡ answers.Refused no_memory_line) → StepBy meant world gained world answer
    by answer (inl is) = rw is s
    by answer (inr is) = rw is (Excepted world (answers.Refused no_memory_line) e)

-- the command is declined by this refusal
pub declined : (meant : Meaning) (world : World) (gained : Gained) (refusal : Refusal) (reply : Reply) → FirstStands meant.checks refusal → meant.Excepts gained world (answers.Refused no_memory_line) →
    Given (answers.Refused (refusal_line refusal)) reply → StepsBy meant world gained reply world
declined meant world gained refusal reply f e g =
    given meant world gained (answers.Refused (refusal_line refusal)) reply (Meant world (answers.Refused (refusal_line refusal)) (Declined refusal f)) e g

-- the file could not be read
pub kept_from : (meant : Meaning) (world : World) (gained : Gained) (file : List ℕ) (reply : Reply) → meant.Excepts gained world (answers.Refused (failure_line file)) →
    meant.Excepts gained world (answers.Refused no_memory_line) → Given (answers.Refused (failure_line file)) reply → StepsBy meant world gained reply world
kept_from meant world gained file reply f e g = given meant world gained (answers.Refused (failure_line file)) reply (Excepted world (answers.Refused (failure_line file)) f) e g

-- ## Over a shelf

abbrev known_as : Held → Option Files → Known
known_as held files = record { held = held; files = files }

-- what is known behind a command that leaves the files as they were
pub same_known : (known : Known) (held : Held) (files : Files) → ((all : Files) → known.files ≡ Some all → files ≡ all) → known_as held known.files ≡ known_after known (over held files)
same_known known held files agrees = ap (λ (fs : Option Files). known_as held fs) (same_files known.files agrees)
  where
    same_files : (told : Option Files) → ((all : Files) → told ≡ Some all → files ≡ all) → told ≡ option_map (λ before. files) told
    same_files None agrees = refl
    same_files (Some all) agrees = ap Some (sym (agrees all refl))

pub steps : (setting : Setting) (held new : Held) (command : Command) (reply : Reply) (gained : Gained) (files : Files) (start end : Outside) → ((all : Files) → start.files ≡ Some all → files ≡ all) → end ≡ gains start gained →
    Answers setting (over held files) command gained reply (over new files) → Stepped setting held command reply new start end
steps setting held new command reply gained files start end agrees e a =
    let same : end.files ≡ start.files = ap (λ (o : Outside). o.files) e in
    record {
      gained = gained;
      answer = a.answer;
      says = a.says;
      step = record {
        world = over held files;
        may_be = record { held = refl; files = agrees };
        new = over new files;
        step = a.holds;
        behind = ap (λ (fs : Option Files). known_as new fs) same ∙ same_known (known held start) new files agrees;
      };
      outside = e;
    }

-- the files that are told, or none
abbrev pub some_files : Option Files → Files
some_files None = no_files
some_files (Some files) = files

pub some_agree : (files : Option Files) (all : Files) → files ≡ Some all → some_files files ≡ all
some_agree None all e = cc
some_agree (Some files) all e = cc

pub nothing_more : (start : Outside) → start ≡ gains start none_gained
nothing_more start = rw (append-nil start.failed, append-nil start.refused) refl

-- a command that looks at no file and asks no shop
pub steps_alone : (setting : Setting) (held new : Held) (command : Command) (reply : Reply) (start : Outside) → AnswersAlone setting held command reply new → Stepped setting held command reply new start start
steps_alone setting held new command reply start a =
    steps setting held new command reply none_gained (some_files start.files) start start (some_agree start.files) (nothing_more start) (a (some_files start.files))

-- one that asks the shop
pub steps_beside : (setting : Setting) (held new : Held) (command : Command) (reply : Reply) (start : Outside) (before after : List (List ℕ)) → AnswersBeside setting held command reply new before after →
    Stepped setting held command reply new (beside start before) (beside start after)
steps_beside setting held new command reply start before after a =
    steps setting held new command reply (record { failed = []; refused = a.refused }) (some_files start.files) (beside start before) (beside start after) (some_agree start.files)
    (rw (append-nil start.failed, a.more) refl) (a.answers (some_files start.files))

-- what is gained beside a shop
gains_beside : (start end : Outside) (file : List ℕ) (fetched : Fetched) (refused : List (List ℕ)) → end ≡ gains start (gained_of file fetched) → beside end refused ≡ gains (beside start refused) (gained_of file fetched)
gains_beside start end file fetched refused e = rw (e, append-nil refused) refl

-- one that looks at one file
pub steps_after : (setting : Setting) (held new : Held) (command : Command) (reply : Reply) (file : List ℕ) (fetched : Fetched) (start end : Outside) → Sees start.files (λ files. Finds files file fetched) →
    end ≡ gains start (gained_of file fetched) →
    ((files : Files) → Finds files file fetched → Answers setting (over held files) command (gained_of file fetched) reply (over new files)) → (refused : List (List ℕ)) →
    Stepped setting held command reply new (beside start refused) (beside end refused)
steps_after setting held new command reply file fetched start end s e a refused =
    steps setting held new command reply (gained_of file fetched) s.value (beside start refused) (beside end refused) s.agrees (gains_beside start end file fetched refused e) (a s.value s.holds)
