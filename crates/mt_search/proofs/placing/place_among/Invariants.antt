-- The number stands at no place so far.
use Rattle.std.proofs.Common.{◌≤◌}
use Rattle.mt_search.proofs.Places.{place_of}
use Rattle.mt_search.proofs.placing.place_among.Given as goal

abbrev pub invariant-loop-place : goal.invariant-loop-place
invariant-loop-place l = l.place ≤ place_of l.numbers l.number
