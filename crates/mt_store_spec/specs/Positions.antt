-- Posting lists, and their codes.
use Rattle.std.specs.Prelude.{ℕ, ◌≡◌, ◌+◌, ◌-◌, ◌*◌, ◌<◌, ◌⊎◌, ◌↔◌, nat_lt, if◌then◌else◌, Bool, false, List, [], ◌∷◌, ◌++◌, length, replicate}
use Rattle.std.specs.List.{All, Contains}
use Rattle.std.specs.List.Sorted.{IsStrictlyIncreasing}
use Rattle.mt_store_spec.specs.Codes.{log2, delta, bits, IsTooLarge, IsCut}

-- ascending, and none greater than 2^32 − 2
pub record ArePositions (positions : List ℕ) : Type 0 where
  pub ascending : IsStrictlyIncreasing positions
  pub in_range : All (λ p. p < 4294967295) positions

-- the list from its first position on that is at least `least`
abbrev pub from_least : ℕ → List ℕ → List ℕ
from_least least [] = []
from_least least (p ∷ ps) = if nat_lt p least then from_least least ps else p ∷ ps

-- the positions of a list from one on and before another, moved so that the first of this range becomes `place`
abbrev pub moved : ℕ → ℕ → ℕ → List ℕ → List ℕ
moved from to place [] = []
moved from to place (p ∷ ps) =
    if nat_lt p from then moved from to place ps else (if nat_lt p to then (p - from + place) ∷ moved from to place ps else moved from to place ps)

-- how many positions of a list of this length are looked at in a search: as many as 2·len + 1 has binary digits, and 128
abbrev pub most_looks : ℕ → ℕ
most_looks len = log2 (2 * len + 1) + 1 + 128

-- the least position that may follow these, where `least` may be the first
abbrev pub next_least : ℕ → List ℕ → ℕ
next_least least [] = least
next_least least (p ∷ ps) = next_least (p + 1) ps

-- The codes of positions of which `least` may be the first: delta of each one's distance from the one before it, one after another.
-- The first counts from −1, so that 0 has a code.
abbrev pub codes : ℕ → List ℕ → List Bool
codes least [] = []
codes least (p ∷ ps) = delta (p + 1 - least) ++ codes (p + 1) ps

-- the bytes are the codes of the positions, and then fewer than eight zeros
pub record IsCode (bytes : List ℕ) (positions : List ℕ) : Type 0 where
  pub valid : ArePositions positions
  pub padding : ℕ
  pub short : padding < 8
  pub spelt : bits bytes ≡ codes 0 positions ++ replicate padding false

-- bits begin with the codes of these positions, which end at a bit, and this is left
pub record BeginsWith (all : List Bool) (positions : List ℕ) (bit : ℕ) (left : List Bool) : Type 0 where
  pub valid : ArePositions positions
  pub place : bit ≡ length (codes 0 positions)
  pub spelt : all ≡ codes 0 positions ++ left

-- a number is coded here, and so great that the position passes 2^32 − 2
pub record IsPast (least : ℕ) (left : List Bool) : Type 0 where
  pub gap : ℕ
  pub rest : List Bool
  pub passes : 4294967295 < least + gap
  pub code : left ≡ delta gap ++ rest

-- One of the first `count` codes is too large, or the position that it gives: the code that begins at this bit.
pub record IsTooLargeAt (count : ℕ) (all : List Bool) (bit : ℕ) : Type 0 where
  pub before : List ℕ
  pub left : List Bool
  pub begins : BeginsWith all before bit left
  pub fewer : length before < count
  pub large : IsTooLarge left ⊎ IsPast (next_least 0 before) left

-- The bits end inside one of the first `count` codes, the one that begins at this bit.
pub record IsCutAt (count : ℕ) (all : List Bool) (bit : ℕ) : Type 0 where
  pub before : List ℕ
  pub left : List Bool
  pub begins : BeginsWith all before bit left
  pub fewer : length before < count
  pub cut : IsCut left

-- The `count` codes end at this bit, and what is left is not fewer than eight zeros.
pub record IsPaddingAt (count : ℕ) (all : List Bool) (bit : ℕ) : Type 0 where
  pub before : List ℕ
  pub left : List Bool
  pub begins : BeginsWith all before bit left
  pub number : length before ≡ count
  pub wrong : (n : ℕ) → n < 8 → left ≡ replicate n false → ⊥

-- bytes are the code of at most one list of so many positions
abbrev pub HaveOneList : Type 0
HaveOneList = (bytes a b : List ℕ) → IsCode bytes a → IsCode bytes b → length a ≡ length b → a ≡ b

-- and a list has one code
abbrev pub HasOneCode : Type 0
HasOneCode = (positions a b : List ℕ) → All (λ x. x < 256) a → All (λ x. x < 256) b → IsCode a positions → IsCode b positions → a ≡ b

-- two lists of the same positions are one
abbrev pub AreToldByMembers : Type 0
AreToldByMembers = (a b : List ℕ) → ArePositions a → ArePositions b → ((p : ℕ) → Contains a p ↔ Contains b p) → a ≡ b
