-- The numbers so far are 0, 1, 2 and so on.
use Rattle.std.proofs.Common.{◌≡◌, ℕ, ◌<◌, get_or}
use Rattle.mt_search.proofs.placing.are_from_zero.Given as goal

abbrev pub invariant-loop-place : goal.invariant-loop-place
invariant-loop-place l = (k : ℕ) → k < l.place → get_or l.numbers k 0 ≡ k
