-- The rows whose gap has fewer tokens are added.
use Rattle.std.proofs.Common.{◌≡◌, ◌+◌, ◌≤◌, List, ◌++◌, length}
use Rattle.mt_text_spec.specs.Texts.{Row}
use Rattle.mt_text_spec.specs.Orders.{row_cmp}
use Rattle.mt_match_spec.specs.Rows.{ListsAll}
use Rattle.mt_cql.specs.Shape.{shape}
use Rattle.mt_eval.specs.Gapped.{IsRowShort}
use Rattle.mt_eval.proofs.gapped.add_turns.Given as goal

abbrev pub invariant-loop-turns : goal.invariant-loop-turns
invariant-loop-turns g l =
    record {
      rows : List Row;
      are : ListsAll row_cmp (λ row. IsRowShort l.segment (shape l.gapped.expr.now) l.text l.begin (length l.gapped.before.now + l.turns + length l.gapped.after.now) row) rows;
      appended : l.out ≡ l.initial.out ++ rows;
      within : length rows ≤ l.room;
      rises : l.initial.steps ≤ l.steps;
    }
