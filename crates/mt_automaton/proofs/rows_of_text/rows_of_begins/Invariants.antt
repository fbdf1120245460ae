-- The rows that begin before `from` were appended, and there is room for `left` more.
use Rattle.std.proofs.Common.{◌≡◌, ◌+◌, ◌-◌, ◌*◌, length}
use Rattle.mt_rows.specs.Appends.{Appends}
use Rattle.mt_automaton.specs.LabelledParts.{labelled_meant}
use Rattle.mt_automaton.specs.RowsFrom.{BeginsBelow}
use Rattle.mt_automaton.proofs.rows_of_text.rows_of_begins.Given as goal

abbrev pub invariant-loop-at : goal.invariant-loop-at
invariant-loop-at g l =
    let v = g.V.View.seen l.view in
    record {
      count : length l.out + l.left ≡ length l.initial.out + l.room;
      added : Appends (BeginsBelow v.text (labelled_meant v l.part) l.text l.from) l.room l.initial.out l.out;
    }

abbrev pub decreases-loop-at : goal.decreases-loop-at
decreases-loop-at g l = 64 * length l.begins - l.from
