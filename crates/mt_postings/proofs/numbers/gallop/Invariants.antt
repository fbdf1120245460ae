use Rattle.std.proofs.Common.{ℕ, ◌≡◌, ◌+◌, ◌-◌, ◌^◌, ◌<◌, ◌≤◌, length, get_or}
use Rattle.mt_postings.proofs.numbers.gallop.Given as goal

abbrev pub invariant-loop-low : goal.invariant-loop-low
invariant-loop-low g l = record {
  within : l.low ≤ length l.positions;
  below : (k : ℕ) → k < l.low → get_or l.positions k 0 < l.least;
  power : (n : ℕ) × (2 ^ n ≡ l.low + 1) × (l.steps ≡ l.initial.steps + n);
}

abbrev pub decreases-loop-low : goal.decreases-loop-low
decreases-loop-low g l = length l.initial.positions - l.low
