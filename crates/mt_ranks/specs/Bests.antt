-- The best of those that were seen.
use Rattle.std.specs.Prelude.{◌≡◌, ℕ, Bool, false, List, ◌++◌, length, min}
use Rattle.std.specs.Ordering.{is_lt}
use Rattle.std.specs.List.{IsDistinct, AllByRecursion}
use Rattle.std.specs.List.Sorted.{IsPermutation}
use Rattle.std.specs.Str.{bytes_eq}
use Rattle.mt_word_sketch_spec.specs.Order.{Weighed, weighed_cmp}

-- no word is there twice
abbrev pub AreDistinct : List Weighed → Type 0
AreDistinct words = IsDistinct (λ a b. bytes_eq a.word b.word) words

-- one is listed before another
abbrev pub comes_before : Weighed → Weighed → Bool
comes_before a b = is_lt (weighed_cmp a b)

-- the first so many in some order: of the others, none comes before one of them
pub record IsBest (max : ℕ) (seen kept : List Weighed) : Type 0 where
  pub rest : List Weighed
  pub same : IsPermutation seen (kept ++ rest)
  pub count : length kept ≡ min max (length seen)
  pub above : AllByRecursion (λ a. AllByRecursion (λ b. comes_before b a ≡ false) rest) kept

-- at most so many words, and which they are
pub record Choice : Type 0 where
  pub max : ℕ
  pub words : List Weighed
