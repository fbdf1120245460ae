-- What stands together, by numbers of words and of contexts.
use Rattle.std.specs.Prelude.{ℕ, ◌≡◌, ◌+◌, ◌<◌, List, [], ◌∷◌, map, slice_get, Some, if◌then◌else◌}
use Rattle.std.specs.List.{Contains}
use Rattle.std.specs.Map.{keys_of}
use Rattle.mt_counts.specs.Names.{AreDistinct}
use Rattle.mt_counts.specs.Totals.{is_key, count_at}
use Rattle.mt_counts.specs.Counted.{Counted, f, f_first, f_second}
use Rattle.mt_counts.specs.Tables.{named_word, row_at}
use Rattle.mt_counts.specs.Listed.{entry_at}
use Rattle.mt_counts.specs.declared.tables.Tables.{Tables}
use Rattle.mt_counts.specs.declared.numbered.Entry.{Entry}

-- The first words and the contexts by their numbers, a context being a name and the second word under it; and how often two words stand together, by these numbers.
pub record Numbering : Type 0 where
  pub words : List (List ℕ)
  pub contexts : List (List ℕ × List ℕ)
  pub entries : List Entry

-- an entry tells of a name with two words; its context has a number where the second word counts under the name
pub record IsEntryOf (counted : Counted) (numbering : Numbering) (entry : Entry) : Type 0 where
  pub name : List ℕ
  pub word : List ℕ
  pub second : List ℕ
  pub word_is : slice_get numbering.words entry.word ≡ Some word
  pub context_is : 0 < entry.right → slice_get numbering.contexts entry.context ≡ Some (name, second)
  pub both_is : entry.both ≡ f counted name word second
  pub left_is : entry.left ≡ f_first counted name word
  pub right_is : entry.right ≡ f_second counted name second

-- a name with two words has an entry
pub record HasEntry (numbering : Numbering) (name word second : List ℕ) : Type 0 where
  pub entry : Entry
  pub there : Contains numbering.entries entry
  pub some : 0 < entry.right
  pub word_is : slice_get numbering.words entry.word ≡ Some word
  pub context_is : slice_get numbering.contexts entry.context ≡ Some (name, second)

-- The counts of two words, by numbers: no word and no context has two numbers, and no two entries are of one word and one context.
pub record IsNumberingOf (counted : Counted) (numbering : Numbering) : Type 0 where
  pub words_once : AreDistinct numbering.words
  pub contexts_once : (context : List ℕ × List ℕ) (i j : ℕ) → slice_get numbering.contexts i ≡ Some context → slice_get numbering.contexts j ≡ Some context → i ≡ j
  pub told : (entry : Entry) → Contains numbering.entries entry → IsEntryOf counted numbering entry
  pub each : (name word second : List ℕ) → 0 < f counted name word second → 0 < f_second counted name second → HasEntry numbering name word second
  pub once : (i j : ℕ) (one other : Entry) → slice_get numbering.entries i ≡ Some one → slice_get numbering.entries j ≡ Some other → one.word ≡ other.word → one.context ≡ other.context →
      0 < one.right → 0 < other.right → i ≡ j

-- the place of a key, or their number where it has none
abbrev pub place_of : List ((ℕ × ℕ) × ℕ) → ℕ × ℕ → ℕ
place_of [] key = 0
place_of (e ∷ es) key = if is_key key e.0 then 0 else 1 + place_of es key

-- a pair of a row and a second word, by the numbers of its first word and its context
abbrev pub entry_of : Tables → (ℕ × ℕ) × ℕ → Entry
entry_of t e =
    let row = row_at (keys_of t.rows) e.0.0 in
    record { word = row.0; context = place_of t.columns (e.0.1, row.1); both = e.1; left = (entry_at t.rows e.0.0).1; right = count_at t.columns (e.0.1, row.1) }

-- all pairs of the tables
abbrev pub numbering_of : Tables → Numbering
numbering_of t = record { words = t.words; contexts = map (λ e. named_word t.names t.words e.0) t.columns; entries = map (entry_of t) t.both }
