-- What is known of objects that may tell their bytes or files.
use Rattle.std.specs.Prelude.{ℕ, ◌≡◌, ◌≢◌, ◌≤◌, List, [], length, take, drop, Option, Some}

-- What holds of the bytes or files, where they are told.
abbrev pub Told : {X : Type 0} → Option X → (X → Type 0) → Type 0
Told {X} told P = (all : X) → told ≡ Some all → P all

-- So many of these bytes were put at the front of the buffer, and the others are left. It is 0 only at the end, or where the buffer is empty.
pub record Takes (all : List ℕ) (n : ℕ) (buf : List ℕ) (new : Option (List ℕ)) : Type 0 where
  pub count : n ≤ length all
  pub front : take n buf ≡ take n all
  pub rest : new ≡ Some (drop n all)
  pub end : n ≡ 0 → length buf ≢ 0 → all ≡ []
