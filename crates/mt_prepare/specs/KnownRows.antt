-- Rows of a segment that were found before.
use Rattle.std.specs.List.{All}
use Rattle.mt_segment_spec.specs.Tables.{Tables, token_count}
use Rattle.mt_prepare.specs.TestRows.{IsRow, NumberIsIn}
use Rattle.mt_prepare.specs.declared.known_rows.KnownRow.{KnownRow}
use Rattle.mt_prepare.specs.declared.known_rows.KnownRows.{KnownRows}

-- each of them has just the places of the segment where the number of the attribute's value is in the set that it is kept for
abbrev pub AreKnownIn : Tables → KnownRows → Type 0
AreKnownIn tables known = All (λ (kept : KnownRow). IsRow (token_count tables) (NumberIsIn tables kept.attr kept.numbers) kept.row) known.rows.items
