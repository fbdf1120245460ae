-- Tables of counts by numbers, and what they stand for.
use Rattle.std.specs.Prelude.{ℕ, ◌+◌, ◌^◌, ◌<◌, List, [], length, map, slice_index_or}
use Rattle.std.specs.Map.{keys_of}
use Rattle.mt_counts.specs.Names.{Begins}
use Rattle.mt_counts.specs.Tallies.{Grows, HasKeysBelow}
use Rattle.mt_counts.specs.Totals.{total_of_all}
use Rattle.mt_counts.specs.Counted.{Counted}
use Rattle.mt_counts.specs.declared.tables.Tables.{Tables}

-- the text with this number
abbrev pub text_at : List (List ℕ) → ℕ → List ℕ
text_at texts number = slice_index_or texts number []

-- a row is a word and a name, and it has a number
abbrev pub row_at : List (ℕ × ℕ) → ℕ → ℕ × ℕ
row_at rows number = slice_index_or rows number (0, 0)

-- the name and the words of a pair of a row and a second word
abbrev pub three_of : (names words : List (List ℕ)) (rows : List (ℕ × ℕ)) → ℕ × ℕ → List ℕ × List ℕ × List ℕ
three_of names words rows key = (text_at names (row_at rows key.0).1, text_at words (row_at rows key.0).0, text_at words key.1)

-- of a pair of a word and a name
abbrev pub named_word : (names words : List (List ℕ)) → ℕ × ℕ → List ℕ × List ℕ
named_word names words key = (text_at names key.1, text_at words key.0)

-- counts of pairs of a word and a name, under their texts
abbrev pub by_name : (names words : List (List ℕ)) → List ((ℕ × ℕ) × ℕ) → List ((List ℕ × List ℕ) × ℕ)
by_name names words entries = map (λ e. (named_word names words e.0, e.1)) entries

-- counts of pairs of a row and a second word, under their texts
abbrev pub by_row : (names words : List (List ℕ)) (rows : List (ℕ × ℕ)) → List ((ℕ × ℕ) × ℕ) → List ((List ℕ × List ℕ × List ℕ) × ℕ)
by_row names words rows entries = map (λ e. (three_of names words rows e.0, e.1)) entries

-- what the tables count
abbrev pub counted : Tables → Counted
counted t = record {
  both = by_row t.names t.words (keys_of t.rows) t.both;
  first = by_name t.names t.words t.rows;
  second = by_name t.names t.words t.columns;
  alone = by_name t.names t.words t.alone;
}

-- each number is that of a name, of a word or of a row
pub record AreInside (t : Tables) : Type 0 where
  pub rows : HasKeysBelow (length t.words) (length t.names) t.rows
  pub both : HasKeysBelow (length t.rows) (length t.words) t.both
  pub columns : HasKeysBelow (length t.words) (length t.names) t.columns
  pub alone : HasKeysBelow (length t.words) (length t.names) t.alone

-- names, words and pairs without a count were added
pub record AreGrown (old new : Tables) : Type 0 where
  pub names : Begins old.names new.names
  pub words : Begins old.words new.words
  pub rows : Grows old.rows new.rows
  pub both : Grows old.both new.both
  pub columns : Grows old.columns new.columns
  pub alone : Grows old.alone new.alone
  pub inside : AreInside old → AreInside new

-- so many more can be counted in each table
pub record HasRoomFor (t : Tables) (more : ℕ) : Type 0 where
  pub rows : total_of_all t.rows + more < 2 ^ 64
  pub both : total_of_all t.both + more < 2 ^ 64
  pub columns : total_of_all t.columns + more < 2 ^ 64
  pub alone : total_of_all t.alone + more < 2 ^ 64
