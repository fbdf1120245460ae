-- The instances of the kinds so far.
use Rattle.std.proofs.Common.{◌≡◌}
use Rattle.mt_vertical_tables.specs.Outlines.{kind_by_kind}
use Rattle.mt_vertical_tables.proofs.outline.instances.Given as goal

abbrev pub invariant-loop-kind : goal.invariant-loop-kind
invariant-loop-kind l = l.all ≡ kind_by_kind l.kind l.structs
