-- In what order words are listed: by exact fractions, the greatest first.
use Rattle.std.specs.Prelude.{ℕ, ◌≡◌, ◌*◌, List, ◌++◌, take, codes}
use Rattle.std.specs.Fmt.{decimal}
use Rattle.std.specs.declared.cmp.Ordering.{Ordering}
use Rattle.std.specs.Ordering.{nat_cmp, ordering_then}
use Rattle.std.specs.Cmp.Lexicographic.{slice_cmp}
use Rattle.mt_match_spec.specs.Rows.{ListsAll}

-- a word, and the fraction by which it is ranked: a part of a whole
pub record Ranked : Type 0 where
  pub word : List ℕ
  pub part : ℕ
  pub whole : ℕ

-- The greatest fraction first, compared exactly, and words of one fraction by their bytes.
abbrev pub rank_cmp : Ranked → Ranked → Ordering
rank_cmp one other = ordering_then (nat_cmp (other.part * one.whole) (one.part * other.whole)) (slice_cmp nat_cmp one.word other.word)

-- the first so many of all things that P holds of, in the order of their ranks
pub record FirstRanked {X : Type 0} (rank : X → Ranked) (P : X → Type 0) (max : ℕ) (shown : List X) : Type 0 where
  pub all : List X
  pub are : ListsAll (λ one other. rank_cmp (rank one) (rank other)) P all
  pub first : shown ≡ take max all

-- the first line of a list: how many lines follow
abbrev pub number_line : ℕ → List ℕ
number_line count = codes "= " ++ decimal count
