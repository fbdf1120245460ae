-- One command: from what each owes to the laws.
use Rattle.std.proofs.Common.{◌≡◌, ℕ, ◌≤◌, inl, inr, List, [], ◌∷◌, refl, ap, arith}
use Rattle.std.specs.List.{count_by}
use Rattle.std.specs.Str.{bytes_eq}
use Rattle.mt_script_spec.specs.Commands.{Command}
use Rattle.mt_script_spec.specs.Script.{Given}
use Rattle.mt_session_spec.specs.World.{World, ValidHeld}
use Rattle.mt_session_spec.specs.Settings.{Setting}
use Rattle.mt_session_spec.specs.Gains.{Gained, none_gained}
use Rattle.mt_session_spec.specs.Refusals.{refusal_line, no_memory_line}
use Rattle.mt_session_spec.specs.Meaning.{Meaning}
use Rattle.mt_session_spec.specs.Meanings.{meaning}
use Rattle.mt_session_spec.specs.Answers.{Answer, Refused}
use Rattle.mt_session_spec.specs.Steps.{FineBy, Declined, Accepted, StepBy, Meant, Excepted, Fine, Step}
use Rattle.mt_session_spec.specs.Replies.{AsksDeep}
use Rattle.mt_session_spec.specs.Laws.{SomeMeaning, OneMeaning, StepsKeepValid, RefusedKeep, told_failures}
use Rattle.mt_session_laws.specs.Lawful.{HasSome, HasOne, KeepsValid, IsFair, TellsGained}
use Rattle.mt_session_laws.proofs.Checks.{first_or_none, one_first, not_both}
use Rattle.mt_session_laws.proofs.Failures.{one_untold, no_failure}
use Rattle.mt_session_laws.proofs.Somes.{QueryReadings, has_some}
use Rattle.mt_session_laws.proofs.Ones.{Readings, has_one}
use Rattle.mt_session_laws.proofs.Keeps.{Validities, keeps_valid, is_fair, tells_gained}

some_fine : (meant : Meaning) (world : World) → HasSome meant → ((new : World) (answer : Answer) → FineBy meant world new answer → ⊥) → ⊥
some_fine meant world some k = first_or_none meant.checks (λ d. elim d [
  | inl found ↦ k world (Refused (refusal_line found.0)) (Declined found.0 found.1)
  | inr none ↦ some none (λ new answer a. k new answer (Accepted new answer none a))
])

pub some_meaning : QueryReadings → SomeMeaning
some_meaning laws setting world given valid said k = some_fine (meaning setting world given) world (has_some laws setting world given) k

one_fine : (meant : Meaning) (world : World) → HasOne meant → (new other : World) (answer another : Answer) → FineBy meant world new answer → FineBy meant world other another → (new ≡ other) × (answer ≡ another)
one_fine meant world one new other answer another (Declined a f) (Declined b g) = (refl, ap (λ r. Refused (refusal_line r)) (one_first meant.checks one.checks a b f g))
one_fine meant world one new other answer another (Declined a f) (Accepted n m none c) = absurd (not_both meant.checks a f none)
one_fine meant world one new other answer another (Accepted n m none c) (Declined a f) = absurd (not_both meant.checks a f none)
one_fine meant world one new other answer another (Accepted n m none c) (Accepted o p some d) = one.one n o m p c d

pub one_meaning : Readings → OneMeaning
one_meaning laws setting world given valid said new other answer another f g = one_fine (meaning setting world given) world (has_one laws setting world given valid) new other answer another f g

keeps : (meant : Meaning) (world : World) (gained : Gained) → ValidHeld world.held → KeepsValid meant → (new : World) (answer : Answer) → StepBy meant world gained new answer → ValidHeld new.held
keeps meant world gained valid k new answer (Meant n a (Declined refusal first)) = valid
keeps meant world gained valid k new answer (Meant n a (Accepted m b none c)) = k.accepted none m b c
keeps meant world gained valid k new answer (Excepted n a e) = k.excepted gained n a e

pub steps_keep : Validities → StepsKeepValid
steps_keep laws setting world given gained valid said new answer s = keeps (meaning setting world given) world gained valid (keeps_valid laws setting world given valid said) new answer s

fair_keeps : (meant : Meaning) (world : World) (Nests : Type 0) (gained : Gained) → IsFair meant world Nests → (new : World) (answer : Answer) (line : List ℕ) → answer ≡ Refused line → StepBy meant world gained new answer → new.held ≡ world.held
fair_keeps meant world Nests gained fair new answer line e (Meant n a (Declined refusal first)) = refl
fair_keeps meant world Nests gained fair new answer line e (Meant n a (Accepted m b none c)) = absurd (fair.accepted m line (rw e at c))
fair_keeps meant world Nests gained fair new answer line e (Excepted n a x) = fair.kept gained n a x

pub refused_keep : RefusedKeep
refused_keep setting world given gained valid said new line s = fair_keeps (meaning setting world given) world (AsksDeep world (Given given)) gained (is_fair setting world given) new (Refused line) line refl s

-- a step in which nothing was gained, memory lasted and no pattern nests too deep
starved_not : (meant : Meaning) (world : World) (Nests : Type 0) → IsFair meant world Nests → (Nests → ⊥) → (gained : Gained) (new : World) (answer : Answer) → gained ≡ none_gained → (answer ≡ Refused no_memory_line → ⊥) → StepBy meant world gained new answer → FineBy meant world new answer
starved_not meant world Nests fair none gained new answer e ne (Meant n a f) = f
starved_not meant world Nests fair none gained new answer e ne (Excepted n a x) = absurd (ne (fair.starved none n a (rw e at x)))

pub fine_step : (setting : Setting) (world : World) (given : Command) (gained : Gained) (new : World) (answer : Answer) → (AsksDeep world (Given given) → ⊥) → gained ≡ none_gained → (answer ≡ Refused no_memory_line → ⊥) →
    Step setting world given gained new answer → Fine setting world given new answer
fine_step setting world given gained new answer none e ne s = starved_not (meaning setting world given) world (AsksDeep world (Given given)) (is_fair setting world given) none gained new answer e ne s

-- the failures that a step tells
step_told : (meant : Meaning) (world : World) (gained : Gained) → TellsGained meant → (new : World) (answer : Answer) (file : List ℕ) → StepBy meant world gained new answer →
    told_failures file (answer ∷ []) ≤ count_by (λ name. bytes_eq name file) gained.failed
step_told meant world gained t new answer file (Meant n a (Declined refusal first)) = let none = one_untold (refusal_line refusal) file (no_failure refusal file) in omega (arith, none)
step_told meant world gained t new answer file (Meant n a (Accepted m b pass c)) = let none = t.accepted m b file c in omega (arith, none)
step_told meant world gained t new answer file (Excepted n a x) = t.excepted gained n a file x

pub told_step : (setting : Setting) (world : World) (given : Command) (gained : Gained) (new : World) (answer : Answer) (file : List ℕ) → Step setting world given gained new answer →
    told_failures file (answer ∷ []) ≤ count_by (λ name. bytes_eq name file) gained.failed
told_step setting world given gained new answer file s = step_told (meaning setting world given) world gained (tells_gained setting world given) new answer file s
