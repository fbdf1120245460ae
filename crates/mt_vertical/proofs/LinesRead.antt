-- What was read of lines that an iterator yields, and what is left to it.
use Rattle.std.proofs.Common.{◌≡◌, ℕ, ◌+◌, List, [], ◌∷◌, Option, None, Some, option_map, Result, Err, ◌<◌, length, length-append, refl, sym, ap, subst, arith}
use Rattle.std.specs.Iterator.{AlwaysYields}
use Rattle.std.specs.Str.Iter.{lines_rest, lines_steps}
use Rattle.std.specs.Str.Lines.{lines}
use Rattle.std.proofs.lemmas.Iterator.Splits.{YieldsList-from_lines}
use Rattle.mt_text_spec.specs.Registries.{Registry}
use Rattle.mt_vertical.specs.Readers.{State, HasReadLine, IsRead, Refuses}
use Rattle.mt_vertical.specs.Causes.{text_cause_of}
use Rattle.mt_vertical.specs.declared.error.BadLine.{BadLine}
use Rattle.mt_vertical.specs.declared.error.TextCause.{TextCause as RustCause}
use Rattle.mt_vertical.specs.declared.error.TextError.{TextError}
use Rattle.mt_vertical.specs.declared.error.TextError.TheVariants.{Bad}
use Rattle.mt_file_spec.specs.Vertical.{TextCause, FirstTextFault, text_lines}
use Rattle.mt_vertical.proofs.SoFar.{HasRead, fault_is, line_read}

-- so much of all lines is read, and these calls give the others
pub record ReadsOn {S A : Type 0} (steps : S → Option A → S → Type 0) (view : A → List ℕ) (registry : Registry) (all : List (List ℕ)) (rest : S) (number : ℕ) (state : State) : Type 0 where
  pub left : List (List ℕ)
  pub yields : AlwaysYields steps view rest left
  pub read : HasRead registry all left number state

-- where a cause is told the line has it first
pub line_refused : (registry : Registry) (state : State) (line : List ℕ) (new : State) (found : Option RustCause) (cause : RustCause) → found ≡ Some cause → IsRead registry state line new (option_map text_cause_of found) →
    Refuses registry state line (text_cause_of cause)
line_refused registry state line new found cause e h = let P : Option RustCause → Type 0 = λ f. IsRead registry state line new (option_map text_cause_of f) in subst P e h

-- the bad line that is told
pub told_bad : {T : Type 0} (a b : BadLine) → ◌≡◌ {A = Result T TextError} (Err (Bad a)) (Err (Bad b)) → a ≡ b
told_bad a b e = cc

pub before_lines : {rest : _} (registry : Registry) (text : List ℕ) (state : State) → lines_rest rest ≡ text → HasRead registry (lines text) (lines text) 0 state →
    ReadsOn lines_steps (λ line. line.now) registry (lines text) rest 0 state
before_lines registry text state e h = record { left = lines text; yields = (YieldsList-from_lines text e).runs; read = h }

module _ {S A : Type 0} (steps : S → Option A → S → Type 0) (view : A → List ℕ) (registry : Registry) (all : List (List ℕ)) (old rest : S) (number next : ℕ) (state : State) where
  pub one_line : (line : A) (new : State) → steps old (Some line) rest → next ≡ number + 1 → HasReadLine registry state (view line) new → ReadsOn steps view registry all old number state →
      ReadsOn steps view registry all rest next new
  one_line line new s e r h = by h.left h.yields h.read
    where
      by : (left : List (List ℕ)) → AlwaysYields steps view old left → HasRead registry all left number state → ReadsOn steps view registry all rest next new
      by [] y read = absurd (y line rest s)
      by (first ∷ others) y read =
          let (is, more) = y.1 line rest s in
          record {
            left = others;
            yields = more;
            read = line_read registry all (first ∷ others) others first number next state new read refl e (subst (λ l. HasReadLine registry state l new) is r);
          }

  pub bad_line : (line : A) (bytes : List ℕ) (cause : TextCause) → steps old (Some line) rest → next ≡ number + 1 → Refuses registry state (view line) cause → text_lines bytes ≡ all → ReadsOn steps view registry all old number state →
      FirstTextFault registry bytes next cause
  bad_line line bytes cause s e r a h = by h.left h.yields h.read
    where
      by : (left : List (List ℕ)) → AlwaysYields steps view old left → HasRead registry all left number state → FirstTextFault registry bytes next cause
      by [] y read = absurd (y line rest s)
      by (first ∷ others) y read =
          let (is, more) = y.1 line rest s in
          fault_is registry bytes (first ∷ others) others first number next state cause (subst (λ ls. HasRead registry ls (first ∷ others) number state) (sym a) read) refl e (subst (λ l. Refuses registry state l cause) is r)

  pub line_within : (line : A) → steps old (Some line) rest → ReadsOn steps view registry all old number state → number < length all
  line_within line s h = by h.left h.yields h.read
    where
      by : (left : List (List ℕ)) → AlwaysYields steps view old left → HasRead registry all left number state → number < length all
      by [] y read = absurd (y line rest s)
      by (first ∷ others) y read = omega (arith, ap length read.are, read.count, length-append read.before (first ∷ others))

  pub all_lines : steps old None rest → ReadsOn steps view registry all old number state → HasRead registry all [] number state
  all_lines s h = by h.left h.yields h.read
    where
      by : (left : List (List ℕ)) → AlwaysYields steps view old left → HasRead registry all left number state → HasRead registry all [] number state
      by [] y read = read
      by (first ∷ others) y read = absurd (y.0 rest s)
