-- So many notes are taken away.
use Rattle.std.proofs.Common.{take}
use Rattle.mt_counts.specs.Counted.{IsSum, IsWithin}
use Rattle.mt_counts.specs.Notes.{noted}
use Rattle.mt_counts.specs.Tables.{AreInside, counted}
use Rattle.mt_counts.proofs.tables.Tables.lower_all.Given as goal

abbrev pub invariant-loop-k : goal.invariant-loop-k
invariant-loop-k l = record {
  inside : AreInside l.self;
  taken : IsWithin (noted l.names l.words l.notes) (counted l.fn.self) → IsSum (noted l.names l.words (take l.k l.notes)) (counted l.self) (counted l.fn.self);
}
