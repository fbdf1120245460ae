-- Lists of marked numbers.
use Rattle.std.proofs.Common.{◌≡◌, ℕ, zero, suc, ◌+◌, ◌<◌, ◌≤◌, ◌⊎◌, inl, inr, Bool, true, false, ◌||◌, ◌==◌, cond, Decides, List, [], ◌∷◌, length, refl, sym, ◌∙◌, ap, subst, arith}
use Rattle.std.specs.List.{AllPairs, Contains}
use Rattle.std.specs.List.Sorted.{IsStrictlyIncreasing}
use Rattle.std.specs.Cmp.{unsigned_Decides}
use Rattle.std.proofs.lemmas.Bool.{cases_eq}
use Rattle.std.proofs.lemmas.List.Kept.{AllPairs-from_increasing}
use Rattle.mt_tally.specs.Counts.{Differ, marked_from, CountsBelow, IsAmong}
use Rattle.mt_tally.proofs.Among.{to_among, from_among}
use Rattle.mt_tally.proofs.Marked.{one_if, one_mark, no_marks}
use Rattle.mt_tally.proofs.Pairing.{no_longer}

-- ## The list of the numbers that are marked

abbrev pub marked : (marks : ℕ → Bool) → (first many : ℕ) → List ℕ
marked marks first zero = []
marked marks first (suc more) = cond (marks first) (first ∷ marked marks (first + 1) more) (marked marks (first + 1) more)

here_or_later : (b : Bool) (first p : ℕ) (rest : List ℕ) → IsAmong p (cond b (first ∷ rest) rest) → ((b ≡ true) × (p ≡ first)) ⊎ IsAmong p rest
here_or_later true first p rest (inl e) = inl (refl, e)
here_or_later true first p rest (inr m) = inr m
here_or_later false first p rest m = inr m

here : (b : Bool) (first : ℕ) (rest : List ℕ) → b ≡ true → IsAmong first (cond b (first ∷ rest) rest)
here true first rest e = inl refl
here false first rest e = cc

later : (b : Bool) (first p : ℕ) (rest : List ℕ) → IsAmong p rest → IsAmong p (cond b (first ∷ rest) rest)
later true first p rest m = inr m
later false first p rest m = m

long : (b : Bool) (first : ℕ) (rest : List ℕ) → length (cond b (first ∷ rest) rest) ≡ one_if b + length rest
long true first rest = omega arith
long false first rest = omega arith

-- a member is one of the numbers, and is marked
pub record IsMarked (marks : ℕ → Bool) (first many p : ℕ) : Type 0 where
  pub low : first ≤ p
  pub high : p < first + many
  pub mark : marks p ≡ true

pub only_marked : (marks : ℕ → Bool) (first many p : ℕ) → IsAmong p (marked marks first many) → IsMarked marks first many p
only_marked marks first zero p m = absurd m
only_marked marks first (suc more) p m = elim (here_or_later (marks first) first p (marked marks (first + 1) more) m) [
  | inl e ↦ let at = e.1 in record { low = omega (arith, at); high = omega (arith, at); mark = ap marks at ∙ e.0 }
  | inr n ↦ let is = only_marked marks (first + 1) more p n in let low = is.low in let high = is.high in record { low = omega (arith, low); high = omega (arith, high); mark = is.mark }
]

pub each_marked : (marks : ℕ → Bool) (first many p : ℕ) → IsMarked marks first many p → IsAmong p (marked marks first many)
each_marked marks first zero p is = let low = is.low in let high = is.high in absurd (omega (arith, low, high))
each_marked marks first (suc more) p is = elim (cases_eq p first) [
  | inl e ↦ subst (λ (q : ℕ). IsAmong q (marked marks first (suc more))) (sym e) (here (marks first) first (marked marks (first + 1) more) (ap marks (sym e) ∙ is.mark))
  | inr ne ↦ let low = is.low in let high = is.high in
      later (marks first) first p (marked marks (first + 1) more) (each_marked marks (first + 1) more p (record { low = omega (arith, low, ne); high = omega (arith, high); mark = is.mark }))
]

differ_here : (b : Bool) (first : ℕ) (rest : List ℕ) → ((p : ℕ) → IsAmong p rest → first < p) → Differ rest → Differ (cond b (first ∷ rest) rest)
differ_here true first rest above d = (λ z m e. let l = above z m in omega (arith, l, e), d)
differ_here false first rest above d = d

pub marked_differ : (marks : ℕ → Bool) (first many : ℕ) → Differ (marked marks first many)
marked_differ marks first zero = tt
marked_differ marks first (suc more) =
    differ_here (marks first) first (marked marks (first + 1) more) (λ p m. let low = (only_marked marks (first + 1) more p m).low in omega (arith, low)) (marked_differ marks (first + 1) more)

pub so_many : (marks : ℕ → Bool) (first many : ℕ) → length (marked marks first many) ≡ marked_from marks first many
so_many marks first zero = sym (no_marks marks first)
so_many marks first (suc more) =
    let one = one_mark marks first more in
    let rest = so_many marks (first + 1) more in
    let both = long (marks first) first (marked marks (first + 1) more) in
    omega (arith, one, rest, both)

-- ## How many there are in an ascending list

apart : (ps : List ℕ) → AllPairs (λ x y. x < y) ps → Differ ps
apart [] pairs = tt
apart (p ∷ ps) pairs = (
  λ z m e. let c = from_among ps z m in let l = pairs 0 (suc c.0) z (omega arith) (omega (arith, c.1)) in let less : p < z = subst (λ (x : ℕ). p < x) c.2 l in omega (arith, less, e),
  apart ps (λ i j d l h. pairs (suc i) (suc j) d (omega (arith, l)) (omega (arith, h))),
)

abbrev pub is_in : List ℕ → ℕ → Bool
is_in [] p = false
is_in (q ∷ qs) p = (p == q) || is_in qs p

first_or_rest : (a b : Bool) (P Q : Type 0) → Decides a P → Decides b Q → Decides (a || b) (P ⊎ Q)
first_or_rest true b P Q d f = (λ e. inl (d.0 refl), λ h. refl)
first_or_rest false b P Q d f = (λ e. inr (f.0 e), λ h. elim h [ inl p ↦ let g = d.1 p in cc | inr q ↦ f.1 q ])

pub in_told : (ps : List ℕ) (p : ℕ) → Decides (is_in ps p) (IsAmong p ps)
in_told [] p = (λ e. let f : ⊥ = cc in absurd f, λ m. absurd m)
in_told (q ∷ qs) p = first_or_rest (p == q) (is_in qs p) (p ≡ q) (IsAmong p qs) (unsigned_Decides p q) (in_told qs p)

-- an ascending list has just the numbers below a limit that have a property
pub record ListsBelow (limit : ℕ) (P : ℕ → Type 0) (ps : List ℕ) : Type 0 where
  pub ascending : IsStrictlyIncreasing ps
  pub only : (p : ℕ) → Contains ps p → (p < limit) × P p
  pub each : (p : ℕ) → p < limit → P p → Contains ps p

pub listed : (limit : ℕ) (P : ℕ → Type 0) (ps : List ℕ) → ListsBelow limit P ps → CountsBelow limit P (length ps)
listed limit P ps all =
    let marks : ℕ → Bool = is_in ps in
    let up = no_longer (λ (x y : ℕ). x ≡ y) ps (marked marks 0 limit) (apart ps (AllPairs-from_increasing ps all.ascending))
    (λ p m. let is = all.only p (from_among ps p m) in record { other = p; member = each_marked marks 0 limit p (record { low = omega arith; high = omega (arith, is.0); mark = (in_told ps p).1 m }); goes = refl })
    (λ x z y e f. e ∙ sym f) in
    let down = no_longer (λ (x y : ℕ). x ≡ y) (marked marks 0 limit) ps (marked_differ marks 0 limit)
    (λ p m. record { other = p; member = (in_told ps p).0 (only_marked marks 0 limit p m).mark; goes = refl })
    (λ x z y e f. e ∙ sym f) in
    let many = so_many marks 0 limit in
    record {
      marks = marks;
      tell = λ p l. (λ e. (all.only p (from_among ps p ((in_told ps p).0 e))).1, λ h. (in_told ps p).1 (to_among ps p (all.each p l h)));
      counted = omega (arith, up, down, many);
    }
