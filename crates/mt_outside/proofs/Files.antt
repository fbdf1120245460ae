-- What stands under a name after a file came. For callers of a shelf.
use Rattle.std.proofs.Common.{◌≡◌, ℕ, List, Some, arith}
use Rattle.std.proofs.lemmas.Grind.{common_steps}
use Rattle.std.proofs.lemmas.Slice.Eq.{bytes_eq-Decides}
use Rattle.mt_shelf_spec.specs.Files.{Files, with_file, IsSameBut}

pub with_file-same : (files : Files) (name bytes : List ℕ) → with_file files name bytes name ≡ Some bytes
unfolding with_file
with_file-same files name bytes = grind (arith, common_steps, bytes_eq-Decides name name)

pub with_file-other : (files : Files) (name bytes : List ℕ) → IsSameBut name files (with_file files name bytes)
unfolding with_file
with_file-other files name bytes = λ other apart. grind (arith, common_steps, bytes_eq-Decides name other, apart)
