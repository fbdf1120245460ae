-- Sums over two lists of texts.
use Rattle.std.proofs.Common.{◌≡◌, ℕ, ◌+◌, ◌≤◌, List, [], ◌∷◌, ◌++◌, sym, subst, arith}
use Rattle.mt_text_spec.specs.Texts.{Text}
use Rattle.mt_count_spec.specs.Counts.{Summed, OverNone, OverOne}

pub summed_append : (Of : Text → ℕ → Type 0) (corpus others : List Text) (m n : ℕ) → Summed Of corpus m → Summed Of others n → Summed Of (corpus ++ others) (m + n)
summed_append Of [] others m n OverNone k = subst (λ (c : ℕ). Summed Of others c) (omega arith) k
summed_append Of (text ∷ corpus) others m n (OverOne t c here rest h r) k =
    subst (λ (c : ℕ). Summed Of (text ∷ (corpus ++ others)) c) (omega arith) (OverOne text (corpus ++ others) here (rest + n) h (summed_append Of corpus others rest n r k))

-- the number that is their sum
pub summed_both : (Of : Text → ℕ → Type 0) (corpus others : List Text) (m n sum : ℕ) → sum ≡ m + n → Summed Of corpus m → Summed Of others n → Summed Of (corpus ++ others) sum
summed_both Of corpus others m n sum e h k = subst (λ (c : ℕ). Summed Of (corpus ++ others) c) (sym e) (summed_append Of corpus others m n h k)

-- a sum over two lists of texts, parted
pub record Parted (Of : Text → ℕ → Type 0) (corpus others : List Text) (sum : ℕ) : Type 0 where
  pub here : ℕ
  pub there : ℕ
  pub first : Summed Of corpus here
  pub second : Summed Of others there
  pub is : sum ≡ here + there

pub summed_parted : (Of : Text → ℕ → Type 0) (corpus others : List Text) (sum : ℕ) → Summed Of (corpus ++ others) sum → Parted Of corpus others sum
summed_parted Of [] others sum h = record { here = 0; there = sum; first = OverNone; second = h; is = omega arith }
summed_parted Of (text ∷ corpus) others sum (OverOne t c here rest h r) =
    let parts = summed_parted Of corpus others rest r in
    let is = parts.is in
    record { here = here + parts.here; there = parts.there; first = OverOne text corpus here parts.here h parts.first; second = parts.second; is = omega (arith, is) }

-- what is left when the first part is known
pub summed_left : (Of : Text → ℕ → Type 0) (corpus others : List Text) (a b sum : ℕ) → ((m n : ℕ) → Summed Of corpus m → Summed Of corpus n → m ≡ n) → sum ≡ a + b → Summed Of (corpus ++ others) sum → Summed Of corpus a → Summed Of others b
summed_left Of corpus others a b sum one e whole first =
    let parts = summed_parted Of corpus others sum whole in
    let same = one a parts.here first parts.first in
    let is = parts.is in
    subst (λ (n : ℕ). Summed Of others n) (omega (arith, same, is, e)) parts.second

-- a sum over three lists of texts, parted
pub record PartedInThree (Of : Text → ℕ → Type 0) (before texts behind : List Text) (sum : ℕ) : Type 0 where
  pub front : ℕ
  pub here : ℕ
  pub back : ℕ
  pub first : Summed Of before front
  pub second : Summed Of texts here
  pub third : Summed Of behind back
  pub is : sum ≡ front + (here + back)

in_three : (Of : Text → ℕ → Type 0) (before texts behind : List Text) (sum : ℕ) → Summed Of (before ++ texts ++ behind) sum → PartedInThree Of before texts behind sum
in_three Of before texts behind sum h =
    let outer = summed_parted Of (before ++ texts) behind sum h in
    let inner = summed_parted Of before texts outer.here outer.first in
    let first = outer.is in
    let second = inner.is in
    record { front = inner.here; here = inner.there; back = outer.there; first = inner.first; second = inner.second; third = outer.second; is = omega (arith, first, second) }

-- a part is no more than the whole
pub part_within : (Of : Text → ℕ → Type 0) (before texts behind : List Text) (part sum : ℕ) → ((m n : ℕ) → Summed Of texts m → Summed Of texts n → m ≡ n) → Summed Of (before ++ texts ++ behind) sum → Summed Of texts part → part ≤ sum
part_within Of before texts behind part sum one whole first =
    let parts = in_three Of before texts behind sum whole in
    let same = one part parts.here first parts.second in
    let is = parts.is in
    omega (arith, same, is)

-- what is left when a part is taken away
pub rest_left : (Of : Text → ℕ → Type 0) (before texts behind : List Text) (part rest sum : ℕ) → ((m n : ℕ) → Summed Of texts m → Summed Of texts n → m ≡ n) → sum ≡ part + rest → Summed Of (before ++ texts ++ behind) sum → Summed Of texts part →
    Summed Of (before ++ behind) rest
rest_left Of before texts behind part rest sum one e whole first =
    let parts = in_three Of before texts behind sum whole in
    let same = one part parts.here first parts.second in
    let is = parts.is in
    subst (λ (n : ℕ). Summed Of (before ++ behind) n) (omega (arith, same, is, e)) (summed_append Of before behind parts.front parts.back parts.first parts.third)
