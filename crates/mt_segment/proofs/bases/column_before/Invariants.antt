-- The base attributes so far are counted.
use Rattle.std.proofs.Common.{◌≡◌}
use Rattle.mt_text_spec.specs.Registries.{column_of}
use Rattle.mt_segment.proofs.bases.column_before.Given as goal

abbrev pub invariant-loop-before : goal.invariant-loop-before
invariant-loop-before l = l.column ≡ column_of l.attrs l.before
