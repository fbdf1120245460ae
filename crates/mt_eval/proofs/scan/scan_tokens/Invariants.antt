-- The rows of the places that were looked at are added.
use Rattle.std.proofs.Common.{◌≡◌, ◌≤◌, List, ◌++◌, length}
use Rattle.mt_text_spec.specs.Texts.{Row}
use Rattle.mt_text_spec.specs.Orders.{row_cmp}
use Rattle.mt_match_spec.specs.Rows.{ListsAll}
use Rattle.mt_cql.specs.Shape.{shape}
use Rattle.mt_eval.specs.Sequences.{IsRowBelow}
use Rattle.mt_eval.proofs.scan.scan_tokens.Given as goal

abbrev pub invariant-loop-place : goal.invariant-loop-place
invariant-loop-place g l =
    record {
      low : l.first ≤ l.place;
      rows : List Row;
      are : ListsAll row_cmp (IsRowBelow l.segment (shape l.sequence.expr.now) l.text l.sequence.by l.place) rows;
      appended : l.out ≡ l.initial.out ++ rows;
      within : length rows ≤ l.room;
      rises : l.initial.steps ≤ l.steps;
    }
