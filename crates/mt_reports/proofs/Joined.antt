-- Values joined one after another, and what a list keeps of its front.
use Rattle.std.proofs.Common.{◌≡◌, ℕ, suc, ◌+◌, ◌-◌, ◌<◌, ◌≤◌, List, [], ◌∷◌, ◌++◌, length, take, map, append_assoc, Result, Ok, Err, refl, sym, ◌∙◌, ap, arith}
use Rattle.std.specs.Result.{OnErr, OnOk}
use Rattle.std.specs.List.{join_with_byte, range_with_len}
use Rattle.std.proofs.lemmas.List.{take-take, take_at, length-take}
use Rattle.std.proofs.lemmas.List.FromFn.{map-range_with_len_more}
use Rattle.mt_report_spec.specs.Lines.{values_text}

-- one piece more behind another
joined_more : (c : ℕ) (x : List ℕ) (xs : List (List ℕ)) (y : List ℕ) → join_with_byte c ((x ∷ xs) ++ y ∷ []) ≡ join_with_byte c (x ∷ xs) ++ c ∷ y
joined_more c x [] y = refl
joined_more c x (z ∷ xs) y = ap (λ rest. x ++ (c ∷ rest)) (joined_more c z xs y) ∙ sym (append_assoc x (c ∷ join_with_byte c (z ∷ xs)) (c ∷ y))

-- one value more behind a first one
pub values_more : (values : ℕ → List ℕ) (from to : ℕ) → from < to → values_text values from (to + 1) ≡ values_text values from to ++ 32 ∷ values to
values_more values from to l =
    let n = to - from - 1 in
    let now : to - from ≡ suc n = omega arith in
    let then : to + 1 - from ≡ to - from + 1 = omega arith in
    ap (λ k. join_with_byte 32 (map values (range_with_len from k))) then
    ∙ ap (join_with_byte 32) (map-range_with_len_more values from (to - from) to (omega arith))
    ∙ ap (λ k. join_with_byte 32 (map values (range_with_len from k) ++ values to ∷ [])) now
    ∙ joined_more 32 (values from) (map values (range_with_len (from + 1) n)) (values to)
    ∙ ap (λ k. join_with_byte 32 (map values (range_with_len from k)) ++ 32 ∷ values to) (sym now)

-- the first value
pub values_one : (values : ℕ → List ℕ) (from : ℕ) → values_text values from (from + 1) ≡ values from
values_one values from = let one : from + 1 - from ≡ 1 = omega arith in ap (λ k. join_with_byte 32 (map values (range_with_len from k))) one

-- no value
pub values_none : (values : ℕ → List ℕ) (from : ℕ) → values_text values from from ≡ []
values_none values from = let none : from - from ≡ 0 = omega arith in ap (λ k. join_with_byte 32 (map values (range_with_len from k))) none

-- what has grown keeps its front
pub grown : (old more new : List ℕ) → new ≡ old ++ more → take (length old) new ≡ old
grown old more new is = ap (take (length old)) is ∙ take_at old more (length old) refl

-- and so does what has grown again
pub kept : (old mid new : List ℕ) → take (length old) mid ≡ old → take (length mid) new ≡ mid → take (length old) new ≡ old
kept old mid new first then = sym (take-take (length old) (length mid) new (shorter old mid first)) ∙ ap (take (length old)) then ∙ first
  where
    shorter : (old mid : List ℕ) → take (length old) mid ≡ old → length old ≤ length mid
    shorter old mid first = omega (arith, ap length first, length-take (length old) mid)

pub on_err : {T E P : Type 0} (r : Result T E) → P → OnErr r P
on_err (Ok x) p = tt
on_err (Err e) p = p

pub on_ok : {T E P Q : Type 0} (r : Result T E) → (P → Q) → OnOk r P → OnOk r Q
on_ok (Ok x) then p = then p
on_ok (Err e) then p = tt

-- the parts of a line and its line feed
pub put_together : (out name a b c d e o₁ o₂ o₃ o₄ o₅ o₆ o₇ : List ℕ) → o₁ ≡ out ++ name → o₂ ≡ o₁ ++ a → o₃ ≡ o₂ ++ b → o₄ ≡ o₃ ++ c → o₅ ≡ o₄ ++ d → o₆ ≡ o₅ ++ e → o₇ ≡ o₆ ++ 10 ∷ [] →
    o₇ ≡ out ++ (name ++ a ++ b ++ c ++ d ++ e ++ 10 ∷ [])
put_together out name a b c d e o₁ o₂ o₃ o₄ o₅ o₆ o₇ e₁ e₂ e₃ e₄ e₅ e₆ e₇ =
    let parts : o₇ ≡ ((((((out ++ name) ++ a) ++ b) ++ c) ++ d) ++ e) ++ 10 ∷ [] = cc in
    parts ∙ simp append_assoc

-- values behind a tab, where numbers are known by other names
pub values_at : (value : ℕ → List ℕ) (mid new : List ℕ) (first first' from from' to to' : ℕ) → new ≡ mid ++ 9 ∷ values_text (λ place. value (first + place)) from to → first ≡ first' → from ≡ from' → to ≡ to' →
    new ≡ mid ++ 9 ∷ values_text (λ place. value (first' + place)) from' to'
values_at value mid new first first' from from' to to' is same_first same_from same_to =
    is ∙ ap (λ (n : ℕ). mid ++ 9 ∷ values_text (λ place. value (n + place)) from to) same_first
    ∙ ap (λ (n : ℕ). mid ++ 9 ∷ values_text (λ place. value (first' + place)) n to) same_from
    ∙ ap (λ (n : ℕ). mid ++ 9 ∷ values_text (λ place. value (first' + place)) from' n) same_to
