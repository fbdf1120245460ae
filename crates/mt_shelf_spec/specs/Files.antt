-- The files of a folder, as the map from their names to what they hold.
use Rattle.std.specs.Prelude.{ℕ, ◌≡◌, ◌≢◌, List, Option, None, Some}
use Rattle.std.specs.Map.{update}
use Rattle.std.specs.Str.{bytes_eq}

-- what stands under each name: the bytes of its file, or `None` where there is no such file
abbrev pub Files : Type 0
Files = List ℕ → Option (List ℕ)

-- an empty folder
abbrev pub no_files : Files
no_files = λ name. None

-- the files with these bytes under this name, and what was under each other name
unfoldable pub with_file : Files → List ℕ → List ℕ → Files
with_file files name bytes = update bytes_eq files name (Some bytes)

-- what is under each name but this one is as before
abbrev pub IsSameBut : List ℕ → Files → Files → Type 0
IsSameBut name old new = (other : List ℕ) → other ≢ name → new other ≡ old other
