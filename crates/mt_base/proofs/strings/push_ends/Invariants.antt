-- The ends so far are added, each from where the others lie.
use Rattle.std.proofs.Common.{◌≡◌, ◌+◌, ◌++◌, map, take}
use Rattle.mt_base.proofs.strings.push_ends.Given as goal

abbrev pub invariant-loop-end : goal.invariant-loop-end
invariant-loop-end l = l.ends.items ≡ l.initial.ends.items ++ map (λ end. l.from + end) (take l.end-index l.others)
