-- Instances by numbers of names and words, and what they count.
use Rattle.std.specs.Prelude.{ℕ, ◌<◌, List, [], ◌∷◌, Option, None, Some, IfSome, length, flat_map, option_map, slice_index}
use Rattle.std.specs.List.{AllZip}
use Rattle.mt_counts.specs.Counted.{Counted}
use Rattle.mt_counts.specs.Tables.{text_at}
use Rattle.mt_counts.specs.Tallies.{IsAt}
use Rattle.mt_counts.specs.declared.note.Note.{Note}
use Rattle.mt_counts.specs.declared.blocks.Block.{Block}
use Rattle.mt_counts.specs.declared.tables.Tables.{Tables}

-- the numbers of a note are those of a name and of words
pub record IsNoteIn (names words : List (List ℕ)) (note : Note) : Type 0 where
  pub name : note.name < length names
  pub first : note.first < length words
  pub second : IfSome note.second (λ second. second < length words)

-- one count for a key that a second word tells, where there is one
abbrev pub with_two : {K : Type 0} → Option ℕ → (ℕ → K) → List (K × ℕ)
with_two None key = []
with_two (Some second) key = (key second, 1) ∷ []

-- one count for a key, where there is no second word
abbrev pub with_one : {K : Type 0} → Option ℕ → K → List (K × ℕ)
with_one None key = (key, 1) ∷ []
with_one (Some second) key = []

-- each note counted once
abbrev pub noted : (names words : List (List ℕ)) → List Note → Counted
noted names words notes = record {
  both = flat_map (λ note. with_two note.second (λ second. (text_at names note.name, text_at words note.first, text_at words second))) notes;
  first = flat_map (λ note. with_two note.second (λ second. (text_at names note.name, text_at words note.first))) notes;
  second = flat_map (λ note. with_two note.second (λ second. (text_at names note.name, text_at words second))) notes;
  alone = flat_map (λ note. with_one note.second (text_at names note.name, text_at words note.first)) notes;
}

-- one count of a name with two words, and one of a unary name with its word
abbrev pub two_counted : (name first second : List ℕ) → Counted
two_counted name first second = record { both = ((name, first, second), 1) ∷ []; first = ((name, first), 1) ∷ []; second = ((name, second), 1) ∷ []; alone = [] }

abbrev pub one_counted : (name word : List ℕ) → Counted
one_counted name word = record { both = []; first = []; second = []; alone = ((name, word), 1) ∷ [] }

-- the key that a second word tells, where there is one
abbrev pub key_of_two : Option ℕ → (ℕ → ℕ × ℕ) → List (ℕ × ℕ)
key_of_two None key = []
key_of_two (Some second) key = key second ∷ []

-- a key, where there is no second word
abbrev pub key_of_one : Option ℕ → ℕ × ℕ → List (ℕ × ℕ)
key_of_one None key = key ∷ []
key_of_one (Some second) key = []

-- the rows of notes with two words, their second words with the names, and the words of the others with the names
abbrev pub rows_of : List Note → List (ℕ × ℕ)
rows_of notes = flat_map (λ note. key_of_two note.second (λ second. (note.first, note.name))) notes

abbrev pub columns_of : List Note → List (ℕ × ℕ)
columns_of notes = flat_map (λ note. key_of_two note.second (λ second. (second, note.name))) notes

abbrev pub alone_of : List Note → List (ℕ × ℕ)
alone_of notes = flat_map (λ note. key_of_one note.second (note.first, note.name)) notes

-- the numbers of rows with the words of as many columns
abbrev pub pairs_of : (rows : List ℕ) (columns : List (ℕ × ℕ)) → List (ℕ × ℕ)
pairs_of [] columns = []
pairs_of (row ∷ rows) [] = []
pairs_of (row ∷ rows) (column ∷ columns) = (row, column.0) ∷ pairs_of rows columns

-- a note by other numbers of names and words
abbrev pub renumbered : (names words : List ℕ) → Note → Note
renumbered names words note = record { name = slice_index names note.name; first = slice_index words note.first; second = option_map (λ second. slice_index words second) note.second }

-- the pairs of all notes of a block stand at their places
pub record ArePlaced (t : Tables) (block : Block) : Type 0 where
  pub rows : AllZip (IsAt t.rows) (rows_of block.notes.items) block.rows.items
  pub both : AllZip (IsAt t.both) (pairs_of block.rows.items (columns_of block.notes.items)) block.both.items
  pub columns : AllZip (IsAt t.columns) (columns_of block.notes.items) block.columns.items
  pub alone : AllZip (IsAt t.alone) (alone_of block.notes.items) block.alone.items
