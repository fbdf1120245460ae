-- Two lists of the same things, each once, are of one length.
use Rattle.std.proofs.Common.{◌≡◌, ◌≢◌, ℕ, ◌+◌, ◌≤◌, ◌⊎◌, inl, inr, zero, suc, List, [], ◌∷◌, ◌++◌, length, length-append, arith, refl, sym, ◌∙◌, ap, subst}
use Rattle.std.specs.List.{Contains}
use Rattle.mt_text_spec.specs.Texts.{Text}
use Rattle.mt_count_spec.specs.Counts.{EachOnce, Number, Summed, OverNone, OverOne}

abbrev Member : {X : Type 0} → X → List X → Type 0
Member x [] = ⊥
Member x (y ∷ ys) = (x ≡ y) ⊎ Member x ys

to_member : {X : Type 0} (xs : List X) (x : X) → Contains xs x → Member x xs
to_member [] x (k, l, e) = absurd (omega (arith, l))
to_member (y ∷ ys) x (zero, l, e) = inl (sym e)
to_member (y ∷ ys) x (suc k, l, e) = inr (to_member ys x (k, omega (arith, l), e))

from_member : {X : Type 0} (xs : List X) (x : X) → Member x xs → Contains xs x
from_member [] x m = absurd m
from_member (y ∷ ys) x (inl e) = (0, omega arith, sym e)
from_member (y ∷ ys) x (inr m) = let (k, l, e) = from_member ys x m in (suc k, omega (arith, l), e)

-- a list, cut at one of its items
record Cut {X : Type 0} (x : X) (ys : List X) : Type 0 where
  pub front : List X
  pub back : List X
  pub are : ys ≡ front ++ x ∷ back

cut : {X : Type 0} (x : X) (ys : List X) → Member x ys → Cut x ys
cut x [] m = absurd m
cut x (y ∷ ys) (inl e) = record { front = []; back = ys; are = ap (λ z. z ∷ ys) (sym e) }
cut x (y ∷ ys) (inr m) = let c = cut x ys m in record { front = y ∷ c.front; back = c.back; are = ap (λ zs. y ∷ zs) c.are }

-- without that item the others are still there
others : {X : Type 0} (x z : X) (front back : List X) → z ≢ x → Member z (front ++ x ∷ back) → Member z (front ++ back)
others x z [] back ne (inl e) = absurd (ne e)
others x z [] back ne (inr m) = m
others x z (y ∷ front) back ne (inl e) = inl e
others x z (y ∷ front) back ne (inr m) = inr (others x z front back ne m)

no_longer : {X : Type 0} (xs ys : List X) → EachOnce xs → ((x : X) → Member x xs → Member x ys) → length xs ≤ length ys
no_longer [] ys once h = omega arith
no_longer {X} (x ∷ xs) ys once h =
    let c = cut x ys (h x (inl refl)) in
    let rest : length xs ≤ length (c.front ++ c.back) =
    no_longer xs (c.front ++ c.back) once.1
    (λ z m. others x z c.front c.back (λ e. once.0 (subst (λ w. Contains xs w) e (from_member xs z m))) (subst (λ (all : List X). Member z all) c.are (h z (inr m)))) in
    let whole : length ys ≡ length c.front + suc (length c.back) = ap (λ (all : List X). length all) c.are ∙ length-append c.front (x ∷ c.back) in
    let parts : length (c.front ++ c.back) ≡ length c.front + length c.back = length-append c.front c.back in
    omega (arith, rest, whole, parts)

one_number : {X : Type 0} (P : X → Type 0) (a b : ℕ) → Number P a → Number P b → a ≡ b
one_number P a b h k =
    let low = no_longer h.all k.all h.once (λ x m. to_member k.all x (k.each x (h.only x (from_member h.all x m)))) in
    let high = no_longer k.all h.all k.once (λ x m. to_member h.all x (h.each x (k.only x (from_member k.all x m)))) in
    let there = h.are in
    let here = k.are in
    omega (arith, low, high, there, here)

one_sum : (Of : Text → ℕ → Type 0) → ((text : Text) (a b : ℕ) → Of text a → Of text b → a ≡ b) → (corpus : List Text) (a b : ℕ) → Summed Of corpus a → Summed Of corpus b → a ≡ b
one_sum Of one [] a b OverNone OverNone = refl
one_sum Of one (text ∷ corpus) a b (OverOne t c here rest h r) (OverOne t' c' here' rest' h' r') =
    ap (λ (n : ℕ). n + rest) (one text here here' h h') ∙ ap (λ (n : ℕ). here' + n) (one_sum Of one corpus rest rest' r r')

pub sums_are_one : {X : Type 0} (P : Text → X → Type 0) (corpus : List Text) (a b : ℕ) → Summed (λ text here. Number (P text) here) corpus a → Summed (λ text here. Number (P text) here) corpus b → a ≡ b
sums_are_one P corpus a b h k = one_sum (λ text here. Number (P text) here) (λ text m n. one_number (P text) m n) corpus a b h k
