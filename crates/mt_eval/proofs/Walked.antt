-- Walks over positions.
use Rattle.std.proofs.Common.{◌≡◌, ℕ, zero, suc, ◌+◌, ◌<◌, ◌≤◌, ◌⊎◌, inl, inr, List, [], ◌∷◌, length, Option, None, Some, MatchOption, is_some, refl, sym, ap, subst, arith}
use Rattle.std.specs.Prelude.{if◌then◌else◌}
use Rattle.std.specs.List.{AllPairs, Contains}
use Rattle.std.specs.List.Sorted.{IsStrictlyIncreasing}
use Rattle.std.proofs.lemmas.List.Kept.{AllPairs-from_increasing}
use Rattle.mt_eval.specs.Walks.{Ascend, IsLeft, due, due_of, left_of}

-- ---- members

pub none_in : {X : Type 0} (x : X) → Contains [] x → ⊥
none_in x (k, l, e) = omega (arith, l)

pub first_in : (p : ℕ) (ps : List ℕ) → Contains (p ∷ ps) p
first_in p ps = (0, omega arith, refl)

pub later_in : (p : ℕ) (ps : List ℕ) (x : ℕ) → Contains ps x → Contains (p ∷ ps) x
later_in p ps x (k, l, e) = (suc k, omega (arith, l), e)

pub first_or_later : (p : ℕ) (ps : List ℕ) (x : ℕ) → Contains (p ∷ ps) x → (x ≡ p) ⊎ Contains ps x
first_or_later p ps x (zero, l, e) = inl (sym e)
first_or_later p ps x (suc k, l, e) = inr (k, omega (arith, l), e)

-- ---- ascending

from_pairs : (ps : List ℕ) → AllPairs (λ x y. x < y) ps → Ascend ps
from_pairs [] pairs = tt
from_pairs (p ∷ ps) pairs = (
  λ later c. subst (λ (x : ℕ). p < x) c.2 (pairs 0 (suc c.0) later (omega arith) (omega (arith, c.1))),
  from_pairs ps (λ i j d l h. pairs (suc i) (suc j) d (omega (arith, l)) (omega (arith, h))),
)

pub ascends : (ps : List ℕ) → IsStrictlyIncreasing ps → Ascend ps
ascends ps up = from_pairs ps (AllPairs-from_increasing ps up)

-- ---- what is left

pub all_left : (positions : List ℕ) → IsStrictlyIncreasing positions → IsLeft positions 0 positions
all_left positions up = record { ascending = ascends positions up; low = λ p c. omega arith; only = λ p c. c; each = λ p l c. c }

pub passed : (positions : List ℕ) (bound place : ℕ) (rest : List ℕ) → IsLeft positions bound (place ∷ rest) → IsLeft positions (place + 1) rest
passed positions bound place rest h = record {
  ascending = h.ascending.1;
  low = λ p c. let l = h.ascending.0 p c in omega (arith, l);
  only = λ p c. h.only p (later_in place rest p c);
  each = λ p l c. elim (first_or_later place rest p (h.each p (let low = h.low place (first_in place rest) in omega (arith, low, l)) c)) [
    | inl e ↦ absurd (omega (arith, e, l))
    | inr later ↦ later
  ];
}

-- nothing that is left lies before a later bound
pub from_bound : (positions : List ℕ) (bound least : ℕ) (next : Option ℕ) (rest : List ℕ) → bound ≤ least → ((place : ℕ) → next ≡ Some place → least ≤ place) → IsLeft positions bound (left_of next rest) → IsLeft positions least (left_of next rest)
from_bound positions bound least None rest l none h = record {
  ascending = h.ascending;
  low = λ p c. absurd (none_in p c);
  only = h.only;
  each = λ p g c. h.each p (omega (arith, l, g)) c;
}
from_bound positions bound least (Some place) rest l none h = record {
  ascending = h.ascending;
  low = λ p c. let far = none place refl in elim (first_or_later place rest p c) [ inl e ↦ omega (arith, e, far) | inr later ↦ let behind = h.ascending.0 p later in omega (arith, behind, far) ];
  only = h.only;
  each = λ p g c. h.each p (omega (arith, l, g)) c;
}

-- none is left below the position at hand
pub none_below : (positions : List ℕ) (bound end : ℕ) (next : Option ℕ) (rest : List ℕ) (place : ℕ) → IsLeft positions bound (left_of next rest) → ((p : ℕ) → next ≡ Some p → end ≤ p) → bound ≤ place → place < end → Contains positions place → ⊥
none_below positions bound end next rest place h none low high c = by next (h.each place low c) h none
  where
    by : (next : Option ℕ) → Contains (left_of next rest) place → IsLeft positions bound (left_of next rest) → ((p : ℕ) → next ≡ Some p → end ≤ p) → ⊥
    by None there h none = none_in place there
    by (Some p) there h none = let far = none p refl in elim (first_or_later p rest place there) [ inl e ↦ omega (arith, e, far, high) | inr later ↦ let behind = h.ascending.0 place later in omega (arith, behind, far, high) ]

-- and none before it
pub none_between : (positions : List ℕ) (bound place : ℕ) (rest : List ℕ) (p : ℕ) → IsLeft positions bound (place ∷ rest) → bound ≤ p → p < place → Contains positions p → ⊥
none_between positions bound place rest p h low early c = elim (first_or_later place rest p (h.each p low c)) [
  | inl e ↦ omega (arith, e, early)
  | inr later ↦ let behind = h.ascending.0 p later in omega (arith, behind, early)
]

pub some_left : (next : Option ℕ) (place : ℕ) (rest : List ℕ) → next ≡ Some place → left_of next rest ≡ place ∷ rest
some_left next place rest e = ap (λ (n : Option ℕ). left_of n rest) e

-- ---- steps

one_more : (looks many : ℕ) → due_of looks (suc many) ≡ 1 + looks + due_of looks many
one_more looks many = omega arith

-- a position is read
pub reading : (looks steps taken : ℕ) (old : List ℕ) (given : Option ℕ) (rest : List ℕ) → MatchOption given ((old ≡ []) × (rest ≡ [])) (λ p. old ≡ p ∷ rest) → taken ≡ steps + (if is_some given then 1 else 0) →
    taken + due looks given rest ≤ steps + due_of looks (length old)
reading looks steps taken old None rest e t = omega (arith, t)
reading looks steps taken old (Some p) rest e t =
    let long : length old ≡ suc (length rest) = ap length e in
    let more = one_more looks (length rest) in
    let same : due_of looks (length old) ≡ due_of looks (suc (length rest)) = ap (due_of looks) long in
    omega (arith, t, more, same)

pub due_some : (looks : ℕ) (next : Option ℕ) (place : ℕ) (rest : List ℕ) → next ≡ Some place → due looks next rest ≡ looks + due_of looks (length rest)
due_some looks next place rest e = ap (λ (n : Option ℕ). due looks n rest) e
