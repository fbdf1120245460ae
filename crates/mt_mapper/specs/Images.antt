-- What the mappers of this crate make of a value, and what they are called. Values are texts in UTF-8, and characters are Unicode's.
use Rattle.std.specs.Prelude.{ℕ, ◌-◌, List, ◌++◌, length, take, drop, chars, encode_utf8_all}
use Rattle.std.specs.Fmt.{decimal}
use Rattle.caseless.specs.Caseless.{default_case_fold}

-- the value with Unicode's full case folding
abbrev pub folded : List ℕ → List ℕ
folded value = encode_utf8_all (default_case_fold (chars value))

-- the first so many characters of the value, or all of them where there are fewer
abbrev pub prefix : ℕ → List ℕ → List ℕ
prefix count value = encode_utf8_all (take count (chars value))

-- the last so many characters of the value, or all of them where there are fewer
abbrev pub suffix : ℕ → List ℕ → List ℕ
suffix count value = encode_utf8_all (drop (length (chars value) - count) (chars value))

-- a word followed by a number in decimal, as in `prefix2`
abbrev pub numbered : List ℕ → ℕ → List ℕ
numbered word count = word ++ decimal count

-- A mapper that cuts values: how many characters it keeps, and how often it was called.
pub record Cutting : Type 0 where
  pub count : ℕ
  pub calls : ℕ
