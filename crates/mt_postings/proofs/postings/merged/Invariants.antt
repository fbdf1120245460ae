use Rattle.std.proofs.Common.{◌+◌, ◌-◌, ◌≤◌, length, vec_len}
use Rattle.std.specs.Vec.{vec_capacity}
use Rattle.mt_postings.proofs.Merging.{Merged}
use Rattle.mt_postings.proofs.postings.merged.Given as goal

abbrev pub invariant-loop-i : goal.invariant-loop-i
invariant-loop-i l = record {
  left_within : l.i ≤ length l.left;
  right_within : l.j ≤ length l.right;
  count : vec_len l.all ≤ l.i + l.j;
  room : length l.left + length l.right ≤ vec_capacity l.all;
  merged : Merged l.all.items l.left l.right l.i l.j;
}

abbrev pub decreases-loop-i : goal.decreases-loop-i
decreases-loop-i l = (length l.left - l.i) + (length l.right - l.j)
