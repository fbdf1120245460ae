-- What a command finds of the file that it names.
use Rattle.std.specs.Prelude.{ℕ, ◌≡◌, ◌<◌, ◌≤◌, List, [], ◌∷◌, length, None, Some}
use Rattle.mt_shelf_spec.specs.Files.{Files}
use Rattle.mt_session_spec.specs.Refusals.{NoSuchFile, FileTooLong}
use Rattle.mt_session_spec.specs.Checks.{Check, When}

-- the most bytes of a file that a command reads whole
abbrev pub file_bytes_limit : ℕ
file_bytes_limit = 67108864

-- there is no such file
abbrev pub IsAbsent : Files → List ℕ → Type 0
IsAbsent files name = files name ≡ None

-- the file has more bytes than are read
pub record IsTooLong (files : Files) (name : List ℕ) : Type 0 where
  pub bytes : List ℕ
  pub found : files name ≡ Some bytes
  pub long : file_bytes_limit < length bytes

-- the file has these bytes, and they are few enough
pub record IsFile (files : Files) (name bytes : List ℕ) : Type 0 where
  pub found : files name ≡ Some bytes
  pub short : length bytes ≤ file_bytes_limit

-- the checks of a file that is loaded
abbrev pub file_checks : Files → List ℕ → List Check
file_checks files name = When (IsAbsent files name) (NoSuchFile name) ∷ When (IsTooLong files name) (FileTooLong name) ∷ []
