-- What entries stand for.
use Rattle.std.specs.Prelude.{ℕ, ◌<◌, List, Option, None, Some}
use Rattle.std.specs.List.{All}
use Rattle.mt_count_spec.specs.Instances.{Instance, AtTwo, AtOne}
use Rattle.mt_counts.specs.Tables.{text_at}
use Rattle.mt_counts.specs.declared.note.Note.{Note}

-- an instance by its final name, at one place or at two
abbrev pub instance_at : (name : List ℕ) (first : ℕ) → Option ℕ → Instance
instance_at name first None = AtOne name first
instance_at name first (Some second) = AtTwo name first second

-- the instance of an entry, where names have these numbers
abbrev pub instance_of : List (List ℕ) → Note → Instance
instance_of names entry = instance_at (text_at names entry.name) entry.first entry.second

-- the name of each entry has a number below this
abbrev pub AreNamed : (names : ℕ) → List Note → Type 0
AreNamed names entries = All (λ entry. entry.name < names) entries
