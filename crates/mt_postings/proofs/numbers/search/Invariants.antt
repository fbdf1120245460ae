use Rattle.std.proofs.Common.{ℕ, ◌+◌, ◌-◌, ◌*◌, ◌^◌, ◌<◌, ◌≤◌, length, get_or}
use Rattle.mt_postings.proofs.numbers.search.Given as goal

abbrev pub invariant-loop-from : goal.invariant-loop-from
invariant-loop-from g l = record {
  order : l.from ≤ l.to;
  within : l.to ≤ length l.positions;
  below : (k : ℕ) → k < l.from → get_or l.positions k 0 < l.least;
  stop : l.to < length l.positions → l.least ≤ get_or l.positions l.to 0;
  grown : l.initial.steps ≤ l.steps;
  size : 2 ^ (l.steps - l.initial.steps) * (l.to - l.from) ≤ l.high - l.low;
  looks : 2 ^ (l.steps - l.initial.steps) ≤ 2 * (l.high - l.low) + 1;
}

abbrev pub decreases-loop-from : goal.decreases-loop-from
decreases-loop-from g l = l.to - l.from
