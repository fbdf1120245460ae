-- So many different spans are counted, and the others stand behind.
use Rattle.std.proofs.Common.{◌≡◌, ◌≤◌, ◌+◌, length, drop}
use Rattle.std.specs.List.{dedup}
use Rattle.mt_rows.proofs.SpansOf.{span_list}
use Rattle.mt_totals.proofs.SpanCounts.{same, behind}
use Rattle.mt_totals.proofs.spans.span_count.Given as goal

abbrev pub invariant-loop-i : goal.invariant-loop-i
invariant-loop-i l = record {
  counted : l.count + behind l.last (drop l.i (span_list l.rows)) ≡ length (dedup same (span_list l.rows)) + 1;
  few : l.count ≤ l.i;
}
