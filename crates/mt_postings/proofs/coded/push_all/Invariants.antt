use Rattle.std.proofs.Common.{◌≡◌, ◌+◌, ◌≤◌, ◌++◌, length, vec_len}
use Rattle.std.specs.Vec.{vec_capacity}
use Rattle.mt_postings.proofs.coded.push_all.Given as goal

abbrev pub invariant-loop-position : goal.invariant-loop-position
invariant-loop-position l = record {
  room : vec_len l.all + length l.places ≤ vec_capacity l.all;
  pushed : l.all.items ++ l.places ≡ l.initial.all.items ++ l.initial.places;
}

abbrev pub decreases-loop-position : goal.decreases-loop-position
decreases-loop-position l = length l.places
