-- The tables of the base attributes so far are made, and the next of them has the next column.
use Rattle.std.proofs.Common.{◌≡◌}
use Rattle.mt_text_spec.specs.Registries.{column_of}
use Rattle.mt_segment.specs.Building.{HaveBases}
use Rattle.mt_segment.proofs.bases.tables_in_turn.Given as goal

abbrev pub invariant-loop-attr : goal.invariant-loop-attr
invariant-loop-attr l = record { tables : HaveBases l.attrs l.texts l.tables.items l.attr-index; column : l.column ≡ column_of l.attrs l.attr-index }
