-- What the calls of a shelf do, by the file of their name: its bytes, or none where there is no such file.
use Rattle.std.specs.Prelude.{ℕ, ◌≡◌, ◌<◌, ◌≤◌, List, length, Option, None, Some}
use Rattle.mt_shelf_spec.specs.Files.{Files, IsSameBut}
use Rattle.mt_outside.specs.declared.shelf.Loaded.{Loaded}
use Rattle.mt_outside.specs.declared.shelf.Loaded.TheVariants.{Whole, Absent, TooLong}

-- What a load answers: the whole file into `out`, that there is none, or that it is longer than the limit.
abbrev pub Finds : Option (List ℕ) → ℕ → List ℕ → Loaded → Type 0
Finds file limit out Whole = (file ≡ Some out) × (length out ≤ limit)
Finds file limit out Absent = file ≡ None
Finds file limit out TooLong = (bytes : List ℕ) × (file ≡ Some bytes) × (limit < length bytes)

-- A store that did not happen, or not whole: nothing is known of its file, and the others are as before.
pub record LosesOne (name : List ℕ) (old : Files) (new : Option Files) : Type 0 where
  pub files : Files
  pub told : new ≡ Some files
  pub others : IsSameBut name old files
