-- The rows that begin before `from` were appended, and there is room for `left` more.
use Rattle.std.proofs.Common.{◌≡◌, ◌+◌, ◌-◌, ◌*◌, length}
use Rattle.mt_rows.specs.Appends.{Appends}
use Rattle.mt_shapes.proofs.OneByOne.{Below, IsInstance}
use Rattle.mt_shapes.proofs.instances.rows_of_begins.Given as goal

abbrev pub invariant-loop-at : goal.invariant-loop-at
invariant-loop-at g l =
    record {
      count : length l.out + l.left ≡ length l.initial.out + l.room;
      added : Appends (Below (IsInstance (g.V.View.seen l.view) l.tag l.text) l.from) l.room l.initial.out l.out;
    }

abbrev pub decreases-loop-at : goal.decreases-loop-at
decreases-loop-at g l = 64 * length l.begins - l.from
