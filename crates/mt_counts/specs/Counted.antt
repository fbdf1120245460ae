-- What is counted: how often a name stands with words, by the texts of names and words.
use Rattle.std.specs.Prelude.{ℕ, ◌≡◌, ◌+◌, ◌≤◌, Bool, ◌&&◌, List}
use Rattle.std.specs.Str.{bytes_eq}
use Rattle.mt_counts.specs.Totals.{total}

-- Counts by name and words: of a name with a first and a second word, with a first word and any second one, with a second word and any first one, and of the name of
-- a unary relation with its word. A key may stand there with the count 0.
pub record Counted : Type 0 where
  pub both : List ((List ℕ × List ℕ × List ℕ) × ℕ)
  pub first : List ((List ℕ × List ℕ) × ℕ)
  pub second : List ((List ℕ × List ℕ) × ℕ)
  pub alone : List ((List ℕ × List ℕ) × ℕ)

-- a key has these parts
abbrev pub is_three : (name x y : List ℕ) → List ℕ × List ℕ × List ℕ → Bool
is_three name x y key = (bytes_eq name key.0 && bytes_eq x key.1) && bytes_eq y key.2

-- whether a key is that of a name and two words
abbrev pub is_two : (name word : List ℕ) → List ℕ × List ℕ → Bool
is_two name word key = bytes_eq name key.0 && bytes_eq word key.1

-- how often the name has the first word x and the second word y
abbrev pub f : Counted → (name x y : List ℕ) → ℕ
f counted name x y = total (is_three name x y) counted.both

-- the first word x, and any second one
abbrev pub f_first : Counted → (name x : List ℕ) → ℕ
f_first counted name x = total (is_two name x) counted.first

-- any first word, and the second word y
abbrev pub f_second : Counted → (name y : List ℕ) → ℕ
f_second counted name y = total (is_two name y) counted.second

-- how often the unary name has the word x
abbrev pub f1 : Counted → (name x : List ℕ) → ℕ
f1 counted name x = total (is_two name x) counted.alone

-- each count is that of a and that of b, added up; and so is what any keys have together
pub record IsSum (a b sum : Counted) : Type 0 where
  pub both : (p : List ℕ × List ℕ × List ℕ → Bool) → total p sum.both ≡ total p a.both + total p b.both
  pub first : (p : List ℕ × List ℕ → Bool) → total p sum.first ≡ total p a.first + total p b.first
  pub second : (p : List ℕ × List ℕ → Bool) → total p sum.second ≡ total p a.second + total p b.second
  pub alone : (p : List ℕ × List ℕ → Bool) → total p sum.alone ≡ total p a.alone + total p b.alone

-- both have the same counts
pub record HaveSame (a b : Counted) : Type 0 where
  pub both : (p : List ℕ × List ℕ × List ℕ → Bool) → total p b.both ≡ total p a.both
  pub first : (p : List ℕ × List ℕ → Bool) → total p b.first ≡ total p a.first
  pub second : (p : List ℕ × List ℕ → Bool) → total p b.second ≡ total p a.second
  pub alone : (p : List ℕ × List ℕ → Bool) → total p b.alone ≡ total p a.alone

-- no count of a is above that of b
pub record IsWithin (a b : Counted) : Type 0 where
  pub both : (name x y : List ℕ) → f a name x y ≤ f b name x y
  pub first : (name x : List ℕ) → f_first a name x ≤ f_first b name x
  pub second : (name y : List ℕ) → f_second a name y ≤ f_second b name y
  pub alone : (name x : List ℕ) → f1 a name x ≤ f1 b name x
