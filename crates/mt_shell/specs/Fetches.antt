-- What a command finds of the file that it names.
use Rattle.std.specs.Prelude.{ℕ, List, [], ◌∷◌}
use Rattle.mt_shelf_spec.specs.Files.{Files}
use Rattle.mt_session_spec.specs.Gains.{Gained}
use Rattle.mt_session_spec.specs.Files.{IsAbsent, IsTooLong, IsFile}
use Rattle.mt_shell.specs.declared.fetch.Fetched.{Fetched}
use Rattle.mt_shell.specs.declared.fetch.Fetched.TheVariants.{Whole, Absent, TooLong, Failed, NoMemory}

-- among these files it finds this
abbrev pub Finds : Files → List ℕ → Fetched → Type 0
Finds files file (Whole bytes) = IsFile files file bytes
Finds files file Absent = IsAbsent files file
Finds files file TooLong = IsTooLong files file
Finds files file Failed = Unit {0}
Finds files file NoMemory = Unit {0}

-- the names at which calls failed
abbrev pub failures : List ℕ → Fetched → List (List ℕ)
failures file (Whole bytes) = []
failures file Absent = []
failures file TooLong = []
failures file Failed = file ∷ []
failures file NoMemory = []

-- what the objects outside gained by the call
abbrev pub gained_of : List ℕ → Fetched → Gained
gained_of file fetched = record { failed = failures file fetched; refused = [] }
