use Rattle.std.proofs.Common.{sym, ◌∙◌}
use Rattle.std.specs.List.{Contains}
use Rattle.mt_cql.specs.Shape.{kind_shape}
use Rattle.mt_match_spec.specs.Kept.{Passes}
use Rattle.mt_eval.proofs.Filtered.{none_left}
use Rattle.mt_eval.proofs.run.filter.Goals as goal

pub returns-then-is_empty : goal.returns-then-is_empty
returns-then-is_empty c = none_left (Passes (kind_shape c.args.kind) (Contains c.args.operand.now)) c.args.rows.now (sym c.is_empty.ensures ∙ c.if-is_empty.true)

pub returns-in-Within : goal.returns-in-Within
returns-in-Within c = rw c.in-Within.is c.keep_within.ensures.ok

pub returns-in-NotWithin : goal.returns-in-NotWithin
returns-in-NotWithin c = rw c.in-NotWithin.is c.keep_within-in-NotWithin.ensures.ok

pub returns-in-Containing : goal.returns-in-Containing
returns-in-Containing c = rw c.in-Containing.is c.keep_containing.ensures.ok

pub returns-in-NotContaining : goal.returns-in-NotContaining
returns-in-NotContaining c = rw c.in-NotContaining.is c.keep_containing-in-NotContaining.ensures.ok
