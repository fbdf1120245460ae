use Rattle.std.proofs.Common.{sym, ◌∙◌}
use Rattle.mt_cql.specs.Shape.{kind_shape}
use Rattle.mt_match_spec.specs.Kept.{Passes}
use Rattle.mt_rows.specs.Rows.{IsSpanIn}
use Rattle.mt_eval.proofs.Filtered.{none_left, pass_alike, on_ok}
use Rattle.mt_eval.proofs.run.pass_by.Goals as goal

pub returns-then-is_empty : goal.returns-then-is_empty
returns-then-is_empty c = none_left (Passes (kind_shape c.args.kind) (IsSpanIn c.args.own)) c.args.rows.now (sym c.is_empty.ensures ∙ c.if-is_empty.true)

pub returns : goal.returns
returns c =
    on_ok c.filter.result _ _
    (pass_alike (kind_shape c.args.kind) c.args.own c.in_ok-operand.operand c.args.rows.now c.filter.new.rows c.in_ok-operand.ensures)
    (rw c.as_slice.ensures at c.filter.ensures)
