-- The bytes so far are packed.
use Rattle.std.proofs.Common.{◌≡◌, ◌*◌, ◌^◌, ◌<◌, take}
use Rattle.mt_vertical_tables.specs.Packing.{digits_behind}
use Rattle.mt_vertical_tables.proofs.known.packed.Given as goal

abbrev pub invariant-loop-place : goal.invariant-loop-place
invariant-loop-place l = record { key : l.key ≡ digits_behind 1 (take l.place l.value); low : l.key < 2 * 256 ^ l.place }
