-- The rows of the begins so far are added.
use Rattle.std.proofs.Common.{◌≡◌, ◌≤◌, List, ◌++◌, length}
use Rattle.mt_text_spec.specs.Texts.{Row}
use Rattle.mt_text_spec.specs.Orders.{row_cmp}
use Rattle.mt_match_spec.specs.Rows.{ListsAll}
use Rattle.mt_cql.specs.Shape.{shape}
use Rattle.mt_eval_spec.specs.Told.{told}
use Rattle.mt_automaton.specs.RowsFrom.{BeginsBelow}
use Rattle.mt_eval.proofs.gapped.scan_gapped.Given as goal

abbrev pub invariant-loop-begin : goal.invariant-loop-begin
invariant-loop-begin g l =
    record {
      rows : List Row;
      are : ListsAll row_cmp (λ row. BeginsBelow (told l.segment l.text) (shape l.gapped.expr.now) l.text l.begin row) rows;
      appended : l.out ≡ l.initial.out ++ rows;
      within : length rows ≤ l.room;
      rises : l.initial.steps ≤ l.steps;
    }
