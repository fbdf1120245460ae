-- Sets that are filled number by number.
use Rattle.std.proofs.Common.{◌≡◌, ℕ, ◌+◌, ◌*◌, ◌/◌, ◌%◌, ◌<◌, ◌≤◌, ◌⊎◌, Bool, true, false, List, length, get_or, set, replicate, refl, sym, ◌∙◌, ap, subst, inl, inr, arith, length-set}
use Rattle.std.specs.Int.{bit_at}
use Rattle.std.proofs.lemmas.Bool.{cases_eq, cases_lt}
use Rattle.std.proofs.lemmas.List.{get_or_past, get_or-set_same, get_or-set_other, get_or-replicate, length-replicate}
use Rattle.std.proofs.lemmas.Nat.Bits.{bit_at-zero}
use Rattle.mt_places.specs.Places.{In, bit, room, HasJust}
use Rattle.mt_prepare.specs.TestRows.{AreSought}

past : (s : List ℕ) (k : ℕ) → 64 * length s ≤ k → bit s k ≡ 0
unfolding bit
past s k h =
    let p : length s ≤ k / 64 = omega arith in
    ap (λ w. bit_at w (k % 64)) (get_or_past s (k / 64) 0 p) ∙ bit_at-zero (k % 64)

-- what is in a set lies in its room
pub in_room : (s : List ℕ) (k : ℕ) → In s k → k < room s
in_room s k h = elim (cases_lt k (64 * length s)) [ inl lt ↦ lt | inr over ↦ let z : bit s k ≡ 0 = past s k over in absurd (omega arith) ]

pub nothing_yet : (T : ℕ → Type 0) (set : List ℕ) → ((k : ℕ) → In set k → ⊥) → HasJust (λ k. (k < 0) × T k) set
nothing_yet T set none = record { sound = λ k i. absurd (none k i); complete = λ k p lt. absurd (omega (arith, p.0)) }

pub with_this : (T : ℕ → Type 0) (old new : List ℕ) (at : ℕ) → HasJust (λ k. (k < at) × T k) old → HasJust (λ k. In old k ⊎ (k ≡ at)) new → length new ≡ length old → T at
    → HasJust (λ k. (k < at + 1) × T k) new
with_this T old new at was now same t = record {
  sound = λ k i. elim (now.sound k i) [
    | inl o ↦ let p = was.sound k o in (omega (arith, p.0), p.1)
    | inr e ↦ (omega (arith, e), subst T (sym e) t)
  ];
  complete = λ k p lt. elim (cases_eq k at) [
    | inl e ↦ now.complete k (inr e) lt
    | inr other ↦ now.complete k (inl (was.complete k (omega (arith, p.0, other), p.1) (omega (arith, lt, same)))) lt
  ];
}

pub without_this : (T : ℕ → Type 0) (set : List ℕ) (at : ℕ) → HasJust (λ k. (k < at) × T k) set → (T at → ⊥) → HasJust (λ k. (k < at + 1) × T k) set
without_this T set at was never = record {
  sound = λ k i. let p = was.sound k i in (omega (arith, p.0), p.1);
  complete = λ k p lt. elim (cases_eq k at) [
    | inl e ↦ absurd (never (subst T e p.1))
    | inr other ↦ was.complete k (omega (arith, p.0, other), p.1) lt
  ];
}

-- the same said otherwise
pub renamed : (P Q : ℕ → Type 0) (set : List ℕ) → HasJust P set → ((k : ℕ) → P k → Q k) → ((k : ℕ) → Q k → P k) → HasJust Q set
renamed P Q set just on back = record { sound = λ k i. on k (just.sound k i); complete = λ k q lt. just.complete k (back k q) lt }

-- ## Lists that say of each number whether it is sought

-- the numbers below `done` are asked, and what the list says is so
pub record SaysBelow (T : ℕ → Type 0) (count done : ℕ) (list : List Bool) : Type 0 where
  pub size : length list ≡ count
  pub sound : (k : ℕ) → get_or list k false ≡ true → T k
  pub complete : (k : ℕ) → k < done → T k → get_or list k false ≡ true

said_false : (count k : ℕ) → get_or (replicate count false) k false ≡ false
said_false count k = elim (cases_lt k count) [
  | inl lt ↦ get_or-replicate count k false false lt
  | inr past ↦ get_or_past (replicate count false) k false (omega (arith, past, length-replicate count false))
]

false_true : false ≡ true → ⊥
false_true e = cc

pub nothing_said : (T : ℕ → Type 0) (count : ℕ) (list : List Bool) → list ≡ replicate count false → SaysBelow T count 0 list
nothing_said T count list e = record {
  size = ap length e ∙ length-replicate count false;
  sound = λ k t. absurd (false_true (sym (ap (λ s. get_or s k false) e ∙ said_false count k) ∙ t));
  complete = λ k lt t. absurd (omega (arith, lt));
}

decided : (b : Bool) → (T : Type 0) → (b ≡ false → T → ⊥) → T → b ≡ true
decided true T off t = refl
decided false T off t = absurd (off refl t)

pub one_said : (T : ℕ → Type 0) (count at : ℕ) (list : List Bool) (b : Bool) → at < count → (b ≡ true → T at) → (b ≡ false → T at → ⊥) → SaysBelow T count at list
    → SaysBelow T count (at + 1) (set list at b)
one_said T count at list b within on off was = record {
  size = length-set list at b ∙ was.size;
  sound = λ k t. elim (cases_eq k at) [
    | inl e ↦ subst T (sym e) (on (sym (get_or-set_same list at b false (omega (arith, within, was.size))) ∙ ap (λ j. get_or (set list at b) j false) (sym e) ∙ t))
    | inr other ↦ was.sound k (sym (get_or-set_other list at k b false other) ∙ t)
  ];
  complete = λ k lt t. elim (cases_eq k at) [
    | inl e ↦ ap (λ j. get_or (set list at b) j false) e ∙ get_or-set_same list at b false (omega (arith, within, was.size)) ∙ decided b (T at) off (subst T e t)
    | inr other ↦ get_or-set_other list at k b false other ∙ was.complete k (omega (arith, lt, other)) t
  ];
}

pub all_said : (T : ℕ → Type 0) (count done : ℕ) (list : List Bool) → count ≤ done → SaysBelow T count done list → AreSought T count list
all_said T count done list le was = record { size = was.size; sound = was.sound; complete = λ k lt t. was.complete k (omega (arith, lt, le)) t }
