-- One column of a line.
use Rattle.std.specs.Prelude.{ℕ, List, slice_index_or}
use Rattle.mt_file_spec.specs.Tags.{missing}
use Rattle.mt_file_spec.specs.VerticalLines.{columns}

-- the column with this number, counted from 0; one that is not there has a value too
abbrev pub column_in : ℕ → List ℕ → List ℕ
column_in column line = slice_index_or (columns line) column missing
