-- What is in a set.
use Rattle.std.proofs.Common.{◌≡◌, ℕ, ◌*◌, ◌/◌, ◌%◌, ◌<◌, ◌≤◌, List, length, inl, inr, ◌∙◌, ap, arith}
use Rattle.std.specs.Int.{bit_at}
use Rattle.std.proofs.lemmas.List.{get_or_past}
use Rattle.std.proofs.lemmas.Bool.{cases_lt}
use Rattle.std.proofs.lemmas.Nat.Bits.{bit_at-zero}
use Rattle.mt_places.specs.Places.{In, bit, room}

past : (s : List ℕ) (k : ℕ) → 64 * length s ≤ k → bit s k ≡ 0
unfolding bit
past s k h =
    let p : length s ≤ k / 64 = omega arith in
    ap (λ w. bit_at w (k % 64)) (get_or_past s (k / 64) 0 p) ∙ bit_at-zero (k % 64)

-- what is in a set lies in its room
pub in_room : (s : List ℕ) (k : ℕ) → In s k → k < room s
in_room s k h = elim (cases_lt k (64 * length s)) [ inl lt ↦ lt | inr over ↦ let z : bit s k ≡ 0 = past s k over in absurd (omega arith) ]
