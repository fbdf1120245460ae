-- What so many notes count under is listed.
use Rattle.std.proofs.Common.{◌≡◌, take}
use Rattle.mt_counts.specs.Notes.{alone_of, columns_of, rows_of}
use Rattle.mt_counts.proofs.blocks.list_notes.Given as goal

abbrev pub invariant-loop-k : goal.invariant-loop-k
invariant-loop-k l = record {
  rows : l.rows.items ≡ rows_of (take l.k l.notes);
  columns : l.columns.items ≡ columns_of (take l.k l.notes);
  alone : l.alone.items ≡ alone_of (take l.k l.notes);
}
