-- So many notes are taken.
use Rattle.std.proofs.Common.{◌≡◌, map, take}
use Rattle.mt_counts.specs.Notes.{renumbered}
use Rattle.mt_counts.proofs.blocks.Block.take.Given as goal

abbrev pub invariant-loop-k : goal.invariant-loop-k
invariant-loop-k l = l.self.notes.items ≡ map (renumbered l.names l.words) (take l.k l.notes)
