use Rattle.std.proofs.Common.{ℕ, ◌≡◌, ◌+◌, ◌<◌, ◌≤◌, drop, get_or}
use Rattle.mt_postings.proofs.places.Places.scan.Given as goal

abbrev pub invariant-loop : goal.invariant-loop
invariant-loop g l = record {
  left : l.self ≡ drop l.counter l.initial.self;
  below : (j : ℕ) → j < l.counter → get_or l.initial.self j 0 < l.least;
  grown : l.initial.steps ≤ l.steps;
  few : l.steps ≤ l.initial.steps + l.counter;
}
