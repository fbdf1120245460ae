-- Sources, sinks and shelves in memory, whose calls are numbered from 1.
use Rattle.std.specs.Prelude.{ℕ, ◌+◌, List, [], ◌∷◌, if◌then◌else◌, min}
use Rattle.std.specs.Map.{lookup}
use Rattle.std.specs.Str.{bytes_eq}
use Rattle.mt_shelf_spec.specs.Files.{Files}

-- The last number of a call: 2^32 - 1. It is the number of each call from that one on.
abbrev pub last_call : ℕ
last_call = 4294967295

-- The number of the next call after so many calls.
abbrev pub next_call : ℕ → ℕ
next_call calls = min (calls + 1) last_call

-- A source: its bytes that are left, how many calls it had (up to the last number), the numbers of the calls that fail, and how many failed.
pub record Reading : Type 0 where
  pub left : List ℕ
  pub calls : ℕ
  pub fails : List ℕ
  pub faults : ℕ

-- A sink: the bytes that it took, how many calls it had (up to the last number), the numbers of the calls that fail, and how many failed.
pub record Writing : Type 0 where
  pub held : List ℕ
  pub calls : ℕ
  pub fails : List ℕ
  pub faults : ℕ

-- A shelf: its files by name, in the order in which they came, how many calls it had (up to the last number), the numbers of the calls that fail, and the names
-- at which calls failed, in order.
pub record Shelving : Type 0 where
  pub entries : List (List ℕ × List ℕ)
  pub calls : ℕ
  pub fails : List ℕ
  pub failed : List (List ℕ)

-- The files that these entries are.
abbrev pub files_of : List (List ℕ × List ℕ) → Files
files_of entries = λ name. lookup (bytes_eq name) entries

-- The entries with a file of this name: in the place of the one that is there, or behind the others.
abbrev pub put_file : List (List ℕ × List ℕ) → List ℕ → List ℕ → List (List ℕ × List ℕ)
put_file [] name bytes = (name, bytes) ∷ []
put_file (entry ∷ entries) name bytes = if bytes_eq name entry.0 then (entry.0, bytes) ∷ entries else entry ∷ put_file entries name bytes
