-- The places at distances that follow one another.
use Rattle.std.proofs.Common.{◌≡◌, ℕ, zero, suc, ◌+◌, ◌-◌, ◌<◌, ◌≤◌, ◌⊎◌, inl, inr, min, Bool, true, false, cond, nat_lt, ℤ, pos, negsuc, ◌+ℤ◌, List, [], ◌∷◌, ◌++◌, None, Some, refl, sym, ◌∙◌, ap, ap₂, arith}
use Rattle.std.specs.List.{cons_option, filter_map, range_with_len}
use Rattle.std.proofs.lemmas.Bool.{cases_lt}
use Rattle.std.proofs.lemmas.Bool.Decides.{nat_tests}
use Rattle.std.proofs.lemmas.Int.{ints}
use Rattle.std.proofs.lemmas.List.Elements.{filter_map-append}
use Rattle.mt_report_spec.specs.Near.{numbers_from, place_at, places_at}
use Rattle.mt_frequencies.specs.declared.distances.Distances.{Distances}
use Rattle.mt_frequencies.specs.Distances.{AreDistances, distances_before, distances_behind, distances_of}

pub less : (m n : ℕ) → m < n → nat_lt m n ≡ true
less m n l = grind (arith, nat_tests)

pub not_less : (m n : ℕ) → n ≤ m → nat_lt m n ≡ false
not_less m n l = grind (arith, nat_tests)

one_on : (n : ℕ) → pos n +ℤ pos 1 ≡ pos (n + 1)
one_on n = omega (arith, ints)

one_up : (n : ℕ) → negsuc (suc n) +ℤ pos 1 ≡ negsuc n
one_up n = omega (arith, ints)

-- a run of places, by its ends
abbrev run : (from to : ℕ) → List ℕ
run from to = range_with_len from (to - from)

same_run : (a b c d : ℕ) → a ≡ c → b ≡ d → run a b ≡ run c d
same_run a b c d e f = ap₂ run e f

empty_run : (a b : ℕ) → b ≤ a → [] ≡ run a b
empty_run a b l = let none : 0 ≡ b - a = omega arith in ap (range_with_len a) none

first_run : (a b : ℕ) → a < b → a ∷ run (a + 1) b ≡ run a b
first_run a b l = let one : suc (b - (a + 1)) ≡ b - a = omega arith in ap (range_with_len a) one

module _ (tokens first last : ℕ) where
  behind : (n count : ℕ) → filter_map (place_at tokens first last) (numbers_from (pos n) count) ≡ run (min (last + n) tokens) (min (last + n + count) tokens)
  behind n zero = empty_run (min (last + n) tokens) (min (last + n + 0) tokens) (omega arith)
  behind n (suc count) =
      ap (λ (d : ℤ). cons_option (place_at tokens first last (pos n)) (filter_map (place_at tokens first last) (numbers_from d count))) (one_on n)
      ∙ ap (cons_option (place_at tokens first last (pos n))) (behind (n + 1) count)
      ∙ by (cases_lt (last + n) tokens)
    where
      by : (last + n < tokens) ⊎ (tokens ≤ last + n) → cons_option (cond (nat_lt (last + n) tokens) (Some (last + n)) None) (run (min (last + (n + 1)) tokens) (min (last + (n + 1) + count) tokens)) ≡ run (min (last + n) tokens) (min (last + n + suc count) tokens)
      by (inl l) =
          ap (λ (b : Bool). cons_option (cond b (Some (last + n)) None) (run (min (last + (n + 1)) tokens) (min (last + (n + 1) + count) tokens))) (less (last + n) tokens l)
          ∙ ap (λ (ps : List ℕ). (last + n) ∷ ps) (same_run (min (last + (n + 1)) tokens) (min (last + (n + 1) + count) tokens) (last + n + 1) (min (last + n + suc count) tokens) (omega arith) (omega arith))
          ∙ first_run (last + n) (min (last + n + suc count) tokens) (omega arith)
          ∙ same_run (last + n) (min (last + n + suc count) tokens) (min (last + n) tokens) (min (last + n + suc count) tokens) (omega arith) refl
      by (inr l) =
          ap (λ (b : Bool). cons_option (cond b (Some (last + n)) None) (run (min (last + (n + 1)) tokens) (min (last + (n + 1) + count) tokens))) (not_less (last + n) tokens l)
          ∙ same_run (min (last + (n + 1)) tokens) (min (last + (n + 1) + count) tokens) (min (last + n) tokens) (min (last + n + suc count) tokens) (omega arith) (omega arith)

  before : (n count : ℕ) → count ≤ n + 1 → filter_map (place_at tokens first last) (numbers_from (negsuc n) count) ≡ run (first - (n + 1)) (first - (n + 1 - count))
  before n zero l = empty_run (first - (n + 1)) (first - (n + 1 - 0)) (omega arith)
  before zero (suc count) l = by (cases_lt 0 first)
    where
      none : count ≡ 0
      none = omega arith

      by : (0 < first) ⊎ (first ≤ 0) → cons_option (cond (nat_lt 0 first) (Some (first - 1)) None) (filter_map (place_at tokens first last) (numbers_from (negsuc 0 +ℤ pos 1) count)) ≡ run (first - 1) (first - (1 - suc count))
      by (inl m) =
          ap (λ (b : Bool). cons_option (cond b (Some (first - 1)) None) (filter_map (place_at tokens first last) (numbers_from (negsuc 0 +ℤ pos 1) count))) (less 0 first m)
          ∙ ap (λ (k : ℕ). (first - 1) ∷ filter_map (place_at tokens first last) (numbers_from (negsuc 0 +ℤ pos 1) k)) none
          ∙ ap (λ (ps : List ℕ). (first - 1) ∷ ps) (empty_run (first - 1 + 1) (first - (1 - suc count)) (omega arith))
          ∙ first_run (first - 1) (first - (1 - suc count)) (omega arith)
      by (inr m) =
          ap (λ (b : Bool). cons_option (cond b (Some (first - 1)) None) (filter_map (place_at tokens first last) (numbers_from (negsuc 0 +ℤ pos 1) count))) (not_less 0 first m)
          ∙ ap (λ (k : ℕ). filter_map (place_at tokens first last) (numbers_from (negsuc 0 +ℤ pos 1) k)) none
          ∙ empty_run (first - 1) (first - (1 - suc count)) (omega arith)
  before (suc n) (suc count) l =
      ap (λ (d : ℤ). cons_option (place_at tokens first last (negsuc (suc n))) (filter_map (place_at tokens first last) (numbers_from d count))) (one_up n)
      ∙ ap (cons_option (place_at tokens first last (negsuc (suc n)))) (before n count (omega arith))
      ∙ by (cases_lt (suc n) first)
    where
      by : (suc n < first) ⊎ (first ≤ suc n) → cons_option (cond (nat_lt (suc n) first) (Some (first - (suc n + 1))) None) (run (first - (n + 1)) (first - (n + 1 - count))) ≡ run (first - (suc n + 1)) (first - (suc n + 1 - suc count))
      by (inl m) =
          ap (λ (b : Bool). cons_option (cond b (Some (first - (suc n + 1))) None) (run (first - (n + 1)) (first - (n + 1 - count)))) (less (suc n) first m)
          ∙ ap (λ (ps : List ℕ). (first - (suc n + 1)) ∷ ps) (same_run (first - (n + 1)) (first - (n + 1 - count)) (first - (suc n + 1) + 1) (first - (suc n + 1 - suc count)) (omega arith) (omega arith))
          ∙ first_run (first - (suc n + 1)) (first - (suc n + 1 - suc count)) (omega arith)
      by (inr m) =
          ap (λ (b : Bool). cons_option (cond b (Some (first - (suc n + 1))) None) (run (first - (n + 1)) (first - (n + 1 - count)))) (not_less (suc n) first m)
          ∙ same_run (first - (n + 1)) (first - (n + 1 - count)) (first - (suc n + 1)) (first - (suc n + 1 - suc count)) (omega arith) (omega arith)

  left : (from to : ℕ) → 1 ≤ from → from ≤ to → filter_map (place_at tokens first last) (distances_before from to) ≡ run (first - (to - 1)) (first - (from - 1))
  left from to some order = by (cases_lt from to)
    where
      by : (from < to) ⊎ (to ≤ from) → filter_map (place_at tokens first last) (distances_before from to) ≡ run (first - (to - 1)) (first - (from - 1))
      by (inl l) = before (to - 2) (to - from) (omega arith) ∙ same_run (first - (to - 2 + 1)) (first - (to - 2 + 1 - (to - from))) (first - (to - 1)) (first - (from - 1)) (omega arith) (omega arith)
      by (inr l) =
          let none : to - from ≡ 0 = omega arith in
          ap (λ (k : ℕ). filter_map (place_at tokens first last) (numbers_from (negsuc (to - 2)) k)) none ∙ empty_run (first - (to - 1)) (first - (from - 1)) (omega arith)

  right : (from to : ℕ) → from ≤ to → filter_map (place_at tokens first last) (distances_behind from to) ≡ run (min (last + from) tokens) (min (last + to) tokens)
  right from to order = behind from (to - from) ∙ same_run (min (last + from) tokens) (min (last + from + (to - from)) tokens) (min (last + from) tokens) (min (last + to) tokens) refl (omega arith)

  pub placed : (all : Distances) → AreDistances all → (a b c d : ℕ) → a ≡ first - (all.before_to - 1) → b ≡ first - (all.before_from - 1) → c ≡ min (last + all.behind_from) tokens → d ≡ min (last + all.behind_to) tokens →
      places_at tokens first last (distances_of all) ≡ range_with_len a (b - a) ++ range_with_len c (d - c)
  placed all are a b c d is_a is_b is_c is_d =
      filter_map-append (place_at tokens first last) (distances_before all.before_from all.before_to) (distances_behind all.behind_from all.behind_to)
      ∙ ap₂ ◌++◌ (left all.before_from all.before_to are.left are.before ∙ sym (same_run a b (first - (all.before_to - 1)) (first - (all.before_from - 1)) is_a is_b))
      (right all.behind_from all.behind_to are.behind ∙ sym (same_run c d (min (last + all.behind_from) tokens) (min (last + all.behind_to) tokens) is_c is_d))
