-- What stands with a word.
use Rattle.std.specs.Prelude.{ℕ, ◌≡◌, ◌<◌, Bool, List, slice_index_or, if◌then◌else◌}
use Rattle.std.specs.Ordering.{nat_cmp}
use Rattle.std.specs.Cmp.Lexicographic.{slice_cmp}
use Rattle.std.specs.List.{Contains}
use Rattle.std.specs.List.Sorted.{IsStrictlySortedBy}
use Rattle.mt_counts.specs.Totals.{count_at}
use Rattle.mt_counts.specs.Counted.{Counted, f, f_first, f_second, f1}
use Rattle.mt_counts.specs.Tables.{text_at}
use Rattle.mt_counts.specs.declared.listing.Head.{Head}
use Rattle.mt_counts.specs.declared.pairs.Pair.{Pair}

-- how often a word stands under a name
abbrev pub head_count : Counted → (name word : List ℕ) → (unary : Bool) → ℕ
head_count counted name word unary = if unary then f1 counted name word else f_first counted name word

-- a name under which the word stands, with how often it does
pub record IsHead (counted : Counted) (word : List ℕ) (head : Head) : Type 0 where
  pub some : 0 < head.count
  pub is : head.count ≡ head_count counted head.name word head.unary

-- the entry at a place
abbrev pub entry_at : List ((ℕ × ℕ) × ℕ) → ℕ → (ℕ × ℕ) × ℕ
entry_at entries place = slice_index_or entries place ((0, 0), 0)

-- the name at a place
abbrev pub head_at : (names : List (List ℕ)) (entries : List ((ℕ × ℕ) × ℕ)) (unary : Bool) (place : ℕ) → Head
head_at names entries unary place = record { name = text_at names (entry_at entries place).0.1; unary = unary; count = (entry_at entries place).1 }

-- a second word that stands under a name with the first one, with how often it does, and how often it does with any first word
pub record IsPair (counted : Counted) (name word : List ℕ) (pair : Pair) : Type 0 where
  pub some : 0 < pair.both
  pub both_is : pair.both ≡ f counted name word pair.word
  pub right_is : pair.right ≡ f_second counted name pair.word

-- the pair at a place, under the name with this number
abbrev pub pair_at : (words : List (List ℕ)) (both columns : List ((ℕ × ℕ) × ℕ)) (name place : ℕ) → Pair
pair_at words both columns name place =
    record { word = text_at words (entry_at both place).0.1; both = (entry_at both place).1; right = count_at columns ((entry_at both place).0.1, name) }

-- the word stands somewhere as a first one
pub record StandsFirst (counted : Counted) (word : List ℕ) : Type 0 where
  pub name : List ℕ
  pub some : 0 < f_first counted name word

-- all words that do, ascending by their bytes, each once
pub record AreFirstWords (counted : Counted) (words : List (List ℕ)) : Type 0 where
  pub ascending : IsStrictlySortedBy (slice_cmp nat_cmp) words
  pub only : (word : List ℕ) → Contains words word → StandsFirst counted word
  pub each : (word : List ℕ) → StandsFirst counted word → Contains words word
