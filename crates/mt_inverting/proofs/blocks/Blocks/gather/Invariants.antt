-- The places in the runs so far are listed.
use Rattle.std.proofs.Common.{◌*◌, take}
use Rattle.mt_segment_spec.specs.Tables.{ArePlacesOf}
use Rattle.mt_inverting.proofs.blocks.Blocks.gather.Given as goal

abbrev pub invariant-loop-k : goal.invariant-loop-k
invariant-loop-k l = ArePlacesOf l.number (take (65536 * l.k) l.self.numbers) l.places.items
