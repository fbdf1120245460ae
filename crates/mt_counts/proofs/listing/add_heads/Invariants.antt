-- The names at so many places are added.
use Rattle.std.proofs.Common.{◌≡◌, ◌++◌, map, take}
use Rattle.mt_counts.specs.Listed.{head_at}
use Rattle.mt_counts.proofs.listing.add_heads.Given as goal

abbrev pub invariant-loop-place : goal.invariant-loop-place
invariant-loop-place l = l.heads ≡ l.initial.heads ++ map (head_at l.names l.tally l.unary) (take l.place-index l.places)
