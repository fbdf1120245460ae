-- Counts of calls that rise step by step.
use Rattle.std.proofs.Common.{◌≡◌, ℕ, ◌+◌, ◌≤◌, Result, Ok, Err, OnErr, ◌∙◌, ap, arith}
use Rattle.mt_mapper.specs.Calls.{counted, CountedAtMost}

-- no call leaves a count as it is
pub counted_none : (calls : ℕ) → counted calls 0 ≡ calls
counted_none calls = grind arith

-- calls, and then more calls
pub counted_more : (calls first second : ℕ) → counted (counted calls first) second ≡ counted calls (first + second)
counted_more calls first second = grind arith

-- what holds whatever the answer holds at an `Err`
always : {T E : Type 0} → (r : Result T E) → {P : Type 0} → P → OnErr r P
always (Ok _) p = tt
always (Err _) p = p

-- one call more, half-way
pub halfway : {T E : Type 0} → (r : Result T E) (calls most done now new : ℕ) → now ≡ counted calls done → new ≡ counted now 1 → done + 1 ≤ most →
    OnErr r (CountedAtMost calls most new)
halfway r calls most done now new before more few = always r (record { more = done + 1; few = few; are = more ∙ ap (λ n. counted n 1) before ∙ counted_more calls done 1 })
