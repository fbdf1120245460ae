-- The ends are those of the texts so far, and the last of them is known.
use Rattle.std.proofs.Common.{◌≡◌, take, map, sum}
use Rattle.mt_segment.specs.Ends.{AreFirstEnds}
use Rattle.mt_segment.proofs.building.inner_ends.Given as goal

abbrev pub invariant-loop-number : goal.invariant-loop-number
invariant-loop-number l = record { ends : AreFirstEnds l.texts l.ends.items l.number; end : l.end ≡ sum (map (λ head. head.1) (take l.number l.texts)) }
