-- A file that is read in blocks.
use Rattle.std.specs.Prelude.{ℕ, ◌≡◌, List, ◌++◌, length, Option}
use Rattle.std.specs.Io.KnownBytes.{Consumes, IsAtEnd}

-- One block was read behind what was there: so many bytes, which the reader lost where they are known. It is none only at the end.
pub record ReadsOn (old new : Option (List ℕ)) (n : ℕ) (front all : List ℕ) : Type 0 where
  pub block : List ℕ
  pub behind : all ≡ front ++ block
  pub count : length block ≡ n
  pub taken : Consumes old new block
  pub end : n ≡ 0 → IsAtEnd new
