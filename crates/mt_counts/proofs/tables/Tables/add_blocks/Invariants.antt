-- So many notes are counted.
use Rattle.std.proofs.Common.{◌-◌, ◌≤◌, length, take}
use Rattle.mt_counts.specs.Counted.{IsSum}
use Rattle.mt_counts.specs.Names.{AreRenumbered}
use Rattle.mt_counts.specs.Notes.{noted}
use Rattle.mt_counts.specs.Tables.{AreInside, HasRoomFor, counted}
use Rattle.mt_counts.proofs.tables.Tables.add_blocks.Given as goal

abbrev pub invariant-loop-done : goal.invariant-loop-done
invariant-loop-done l = record {
  within : l.done ≤ length l.notes;
  inside : AreInside l.self;
  room : HasRoomFor l.self (length l.notes - l.done);
  names : AreRenumbered l.names l.self.names l.room.names.items;
  words : AreRenumbered l.words l.self.words l.room.words.items;
  sum : IsSum (counted l.fn.self) (noted l.names l.words (take l.done l.notes)) (counted l.self);
}

abbrev pub decreases-loop-done : goal.decreases-loop-done
decreases-loop-done l = length l.notes - l.done
