use Rattle.std.proofs.Common.{◌≡◌, ◌+◌, ◌-◌, ◌≤◌, ◌++◌, length, vec_len, map, take}
use Rattle.std.specs.Vec.{vec_capacity}
use Rattle.mt_postings.proofs.postings.push_shifted.Given as goal

abbrev pub invariant-loop-position : goal.invariant-loop-position
invariant-loop-position l = record {
  room : vec_len l.all + (length l.part - l.position-index) ≤ vec_capacity l.all;
  pushed : l.all.items ≡ l.initial.all.items ++ map (λ p. p + l.shift) (take l.position-index l.part);
}
