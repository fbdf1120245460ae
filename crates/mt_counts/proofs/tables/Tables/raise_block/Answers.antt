use Rattle.std.proofs.Common.{◌^◌, length, arith}
use Rattle.mt_counts.specs.Notes.{alone_of, columns_of, pairs_of, rows_of}
use Rattle.mt_counts.proofs.Counting.{alone_few, columns_few, pairs_few, placed_as, places_within, raised_sum, room_for_places, rows_few}
use Rattle.mt_counts.proofs.Taking.{left_inside}
use Rattle.mt_counts.proofs.tables.Tables.raise_block.Goals as goal

pub raise_each-requires-clause-within : goal.raise_each-requires-clause-within
raise_each-requires-clause-within c = places_within c.args.self.now.rows (rows_of c.args.block.now.notes.items) c.as_slice.result.now (placed_as c.args.self.now.rows (rows_of c.args.block.now.notes.items) c.args.block.now.rows.items c.as_slice.result.now c.as_slice.ensures.value c.requires.placed.rows)

pub raise_each-requires-clause-few : goal.raise_each-requires-clause-few
raise_each-requires-clause-few c = room_for_places c.args.self.now.rows (rows_of c.args.block.now.notes.items) c.as_slice.result.now (length c.args.block.now.notes.items) (2 ^ 64) (placed_as c.args.self.now.rows (rows_of c.args.block.now.notes.items) c.args.block.now.rows.items c.as_slice.result.now c.as_slice.ensures.value c.requires.placed.rows) (rows_few c.args.block.now.notes.items) c.requires.room.rows

pub raise_each-requires-2-clause-within : goal.raise_each-requires-2-clause-within
raise_each-requires-2-clause-within c = places_within c.args.self.now.both (pairs_of c.args.block.now.rows.items (columns_of c.args.block.now.notes.items)) c.as_slice-2.result.now (placed_as c.args.self.now.both (pairs_of c.args.block.now.rows.items (columns_of c.args.block.now.notes.items)) c.args.block.now.both.items c.as_slice-2.result.now c.as_slice-2.ensures.value c.requires.placed.both)

pub raise_each-requires-2-clause-few : goal.raise_each-requires-2-clause-few
raise_each-requires-2-clause-few c = room_for_places c.args.self.now.both (pairs_of c.args.block.now.rows.items (columns_of c.args.block.now.notes.items)) c.as_slice-2.result.now (length c.args.block.now.notes.items) (2 ^ 64) (placed_as c.args.self.now.both (pairs_of c.args.block.now.rows.items (columns_of c.args.block.now.notes.items)) c.args.block.now.both.items c.as_slice-2.result.now c.as_slice-2.ensures.value c.requires.placed.both) (omega (arith, pairs_few c.args.block.now.rows.items (columns_of c.args.block.now.notes.items), columns_few c.args.block.now.notes.items)) c.requires.room.both

pub raise_each-requires-3-clause-within : goal.raise_each-requires-3-clause-within
raise_each-requires-3-clause-within c = places_within c.args.self.now.columns (columns_of c.args.block.now.notes.items) c.as_slice-3.result.now (placed_as c.args.self.now.columns (columns_of c.args.block.now.notes.items) c.args.block.now.columns.items c.as_slice-3.result.now c.as_slice-3.ensures.value c.requires.placed.columns)

pub raise_each-requires-3-clause-few : goal.raise_each-requires-3-clause-few
raise_each-requires-3-clause-few c = room_for_places c.args.self.now.columns (columns_of c.args.block.now.notes.items) c.as_slice-3.result.now (length c.args.block.now.notes.items) (2 ^ 64) (placed_as c.args.self.now.columns (columns_of c.args.block.now.notes.items) c.args.block.now.columns.items c.as_slice-3.result.now c.as_slice-3.ensures.value c.requires.placed.columns) (columns_few c.args.block.now.notes.items) c.requires.room.columns

pub raise_each-requires-4-clause-within : goal.raise_each-requires-4-clause-within
raise_each-requires-4-clause-within c = places_within c.args.self.now.alone (alone_of c.args.block.now.notes.items) c.as_slice-4.result.now (placed_as c.args.self.now.alone (alone_of c.args.block.now.notes.items) c.args.block.now.alone.items c.as_slice-4.result.now c.as_slice-4.ensures.value c.requires.placed.alone)

pub raise_each-requires-4-clause-few : goal.raise_each-requires-4-clause-few
raise_each-requires-4-clause-few c = room_for_places c.args.self.now.alone (alone_of c.args.block.now.notes.items) c.as_slice-4.result.now (length c.args.block.now.notes.items) (2 ^ 64) (placed_as c.args.self.now.alone (alone_of c.args.block.now.notes.items) c.args.block.now.alone.items c.as_slice-4.result.now c.as_slice-4.ensures.value c.requires.placed.alone) (alone_few c.args.block.now.notes.items) c.requires.room.alone

pub returns-clause-inside : goal.returns-clause-inside
returns-clause-inside c =
    left_inside c.args.self.now c.raise_each.new.self c.raise_each-2.new.self c.raise_each-3.new.self c.raise_each-4.new.self c.raise_each.ensures.keys c.raise_each-2.ensures.keys c.raise_each-3.ensures.keys c.raise_each-4.ensures.keys c.requires.inside

pub returns-clause-sum : goal.returns-clause-sum
returns-clause-sum c =
    raised_sum c.args.self.now c.raise_each.new.self c.raise_each-2.new.self c.raise_each-3.new.self c.raise_each-4.new.self c.raise_each.ensures.keys c.args.block.now.notes.items c.args.block.now.rows.items c.requires.placed.rows
    (c.raise_each.ensures.added (rows_of c.args.block.now.notes.items) (placed_as c.args.self.now.rows (rows_of c.args.block.now.notes.items) c.args.block.now.rows.items c.as_slice.result.now c.as_slice.ensures.value c.requires.placed.rows))
    (c.raise_each-2.ensures.added (pairs_of c.args.block.now.rows.items (columns_of c.args.block.now.notes.items)) (placed_as c.args.self.now.both (pairs_of c.args.block.now.rows.items (columns_of c.args.block.now.notes.items)) c.args.block.now.both.items c.as_slice-2.result.now c.as_slice-2.ensures.value c.requires.placed.both))
    (c.raise_each-3.ensures.added (columns_of c.args.block.now.notes.items) (placed_as c.args.self.now.columns (columns_of c.args.block.now.notes.items) c.args.block.now.columns.items c.as_slice-3.result.now c.as_slice-3.ensures.value c.requires.placed.columns))
    (c.raise_each-4.ensures.added (alone_of c.args.block.now.notes.items) (placed_as c.args.self.now.alone (alone_of c.args.block.now.notes.items) c.args.block.now.alone.items c.as_slice-4.result.now c.as_slice-4.ensures.value c.requires.placed.alone))
