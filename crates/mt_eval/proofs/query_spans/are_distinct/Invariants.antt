-- The spans before this row differ from the ones behind them.
use Rattle.std.proofs.Common.{ℕ, suc, ◌<◌}
use Rattle.mt_rows.proofs.SpansOf.{span_list}
use Rattle.mt_eval.proofs.Distinct.{DifferAt}
use Rattle.mt_eval.proofs.query_spans.are_distinct.Given as goal

abbrev pub invariant-loop-i : goal.invariant-loop-i
invariant-loop-i l = (k : ℕ) → suc k < l.i → DifferAt (span_list l.rows) k
