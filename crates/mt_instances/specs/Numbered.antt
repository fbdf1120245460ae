-- Entries by the numbers that their names and values have in the counts.
use Rattle.std.specs.Prelude.{ℕ, ◌≡◌, ◌<◌, List, Option, None, Some, length, slice_get, ⊤}
use Rattle.mt_counts.specs.Names.{Begins}
use Rattle.mt_counts.specs.Counted.{HaveSame}
use Rattle.mt_counts.specs.Building.{Building}
use Rattle.mt_counts.specs.Tables.{text_at}
use Rattle.mt_counts.specs.declared.note.Note.{Note}
use Rattle.mt_instances.specs.Gains.{LiesIn}
use Rattle.mt_instances.specs.Entries.{instance_of}

-- an entry has one of so many names, and stands at some of so many places
pub record IsEntryIn (names : List (List ℕ)) (places : ℕ) (entry : Note) : Type 0 where
  pub named : entry.name < length names
  pub lies : LiesIn places (instance_of names entry)

-- two numbers that go together, or none at all
abbrev pub GoTogether : (ℕ → ℕ → Type 0) → Option ℕ → Option ℕ → Type 0
GoTogether R None None = ⊤
GoTogether R None (Some there) = ⊥
GoTogether R (Some here) None = ⊥
GoTogether R (Some here) (Some there) = R here there

-- names and words were added to those of counts, and what is counted is the same
pub record Learns (old new : Building) : Type 0 where
  pub names : Begins old.names new.names
  pub words : Begins old.words new.words
  pub counted : HaveSame old.counted new.counted

-- a value has this number in the counts
abbrev pub IsWord : (counting : Building) (values : ℕ → List ℕ) (place number : ℕ) → Type 0
IsWord counting values place number = slice_get counting.words number ≡ Some (values place)

-- in the place of an entry's numbers are those that its name and the values at its places have in the counts
pub record IsNumbered (counting : Building) (names : List (List ℕ)) (values : ℕ → List ℕ) (entry note : Note) : Type 0 where
  pub name : slice_get counting.names note.name ≡ Some (text_at names entry.name)
  pub first : IsWord counting values entry.first note.first
  pub second : GoTogether (IsWord counting values) entry.second note.second
