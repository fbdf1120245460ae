-- Sums and products that stop at a greatest number, and the least and the first of places.
use Rattle.std.proofs.Common.{ℕ, ◌+◌, ◌*◌, ◌-◌, ◌^◌, ◌≡◌, ◌<◌, ◌≤◌, ◌⊎◌, inl, inr, None, Some, Option, refl, ap, arith}
use Rattle.std.specs.Prelude.{max, nat_lt}
use Rattle.std.proofs.Math.Nat.{le-mul_of_pos_right}
use Rattle.std.proofs.lemmas.Bool.{cases_lt}
use Rattle.std.proofs.lemmas.Bool.Decides.{nat_tests}
use Rattle.mt_query_spec.specs.Meaning.{first_of, least_of}
use Rattle.mt_query_laws.specs.Parts.{capped}

pub cap_more : (a : ℕ) → capped (capped a + 1) ≡ capped (1 + a)
cap_more a = omega arith

pub cap_two : (a b : ℕ) → capped (capped (capped a + capped b) + 1) ≡ capped (1 + (a + b))
cap_two a b = omega arith

pub cap_sum : (a b : ℕ) → capped (capped a + capped b) ≡ capped (a + b)
cap_sum a b = omega arith

pub cap_three : (a b c : ℕ) → capped (capped a + capped (capped b + capped c)) ≡ capped (a + (b + c))
cap_three a b c = omega arith

greater : (a b : ℕ) → 1 ≤ b → a ≤ a * b
greater a b h = le-mul_of_pos_right a h

pub cap_times : (a b : ℕ) → capped (capped a * max 1 b) ≡ capped (a * max 1 b)
cap_times a b = go (max 1 b) (omega arith) (cases_lt a (2 ^ 32))
  where
    go : (m : ℕ) → 1 ≤ m → (a < 2 ^ 32) ⊎ (2 ^ 32 ≤ a) → capped (capped a * m) ≡ capped (a * m)
    go m h (inl low) = let e : capped a ≡ a = omega arith in rw e refl
    go m h (inr high) =
        let e : capped a ≡ 2 ^ 32 - 1 = omega arith in
        let f : 2 ^ 32 - 1 ≤ (2 ^ 32 - 1) * m = greater (2 ^ 32 - 1) m h in
        let g : a ≤ a * m = greater a m h in
        rw e (omega arith)

pub cap_below : (n k : ℕ) → k < 2 ^ 32 - 1 → nat_lt k (capped n) ≡ nat_lt k n
cap_below n k h = grind (arith, nat_tests)

pub first_of_none : (a : Option ℕ) → first_of a None ≡ a
first_of_none None = refl
first_of_none (Some x) = refl

pub first_of_three : (a b c : Option ℕ) → first_of (first_of a b) c ≡ first_of a (first_of b c)
first_of_three None b c = refl
first_of_three (Some x) b c = refl

pub least_of_none : (a : Option ℕ) → least_of a None ≡ a
least_of_none None = refl
least_of_none (Some x) = refl

pub least_of_three : (a b c : Option ℕ) → least_of (least_of a b) c ≡ least_of a (least_of b c)
least_of_three None b c = refl
least_of_three (Some x) None c = refl
least_of_three (Some x) (Some y) None = least_of_none _
least_of_three (Some x) (Some y) (Some z) = ap Some (omega arith)
