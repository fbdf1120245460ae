-- A word of 64 bits that shows the next bits of many.
use Rattle.std.specs.Prelude.{ℕ, ◌≡◌, ◌<◌, ◌≤◌, ◌-◌, ◌/◌, ◌++◌, ◌^◌, Bool, false, List, length, take, replicate}
use Rattle.mt_store_spec.specs.Codes.{digits, delta}

-- The first 57 digits of the word are the next 57 bits. Where there are fewer, zeros stand for the others.
pub record Shows (word : ℕ) (left : List Bool) : Type 0 where
  pub fits : word < 2 ^ 64
  pub same : take 57 (digits 64 word) ≡ take 57 (left ++ replicate 64 false)

-- The first digits of the word are the next `count` bits, of which there are so many.
pub record Holds (count word : ℕ) (left : List Bool) : Type 0 where
  pub fits : word < 2 ^ 64
  pub few : count ≤ 57
  pub within : count ≤ length left
  pub same : take count (digits 64 word) ≡ take count left

-- The first digits of the word are the code of a number.
pub record Begins (word : ℕ) (n bits : ℕ) : Type 0 where
  pub positive : 1 ≤ n
  pub small : n < 4294967296
  pub code : delta n ≡ digits bits (word / 2 ^ (64 - bits))
