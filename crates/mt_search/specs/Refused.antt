-- What an error says of a query's patterns, and of what a shop had refused before and has refused since.
use Rattle.std.specs.Prelude.{ℕ, ◌≡◌, List}
use Rattle.std.specs.List.{All}
use Rattle.mt_prepare.specs.Built.{Blames, IsWhole}
use Rattle.mt_search.specs.declared.error.RowsError.{RowsError}
use Rattle.mt_search.specs.declared.error.RowsError.TheVariants.{Pattern, TooManyRows, NoMemory}

-- An error of patterns says which text was not built. Where there are too many rows, or no memory once the patterns are built, no shop has refused a text, and with
-- too many rows each text is a pattern of whole values.
abbrev pub RefusesBy : (texts old new : List (List ℕ)) → RowsError → Type 0
RefusesBy texts old new (Pattern error) = Blames 1 texts old new error
RefusesBy texts old new TooManyRows = (new ≡ old) × All IsWhole texts
RefusesBy texts old new NoMemory = new ≡ old
