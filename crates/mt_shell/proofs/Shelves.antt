-- What files are found, and at which a call failed.
use Rattle.std.proofs.Common.{◌≡◌, ℕ, ◌<◌, ◌≤◌, List, [], ◌∷◌, length, None, Some, arith, refl, sym, ◌∙◌}
use Rattle.std.specs.List.{Contains}
use Rattle.mt_shelf_spec.specs.Files.{Files}
use Rattle.mt_session_spec.specs.Checks.{NoneStands}
use Rattle.mt_session_spec.specs.Files.{IsAbsent, IsTooLong, IsFile, file_checks, file_bytes_limit}
use Rattle.mt_shell.proofs.Meanings.{no_cause}

pub same_bytes : (files : Files) (file a b : List ℕ) → files file ≡ Some a → files file ≡ Some b → a ≡ b
same_bytes files file a b e f = let h : Some a ≡ Some b = sym e ∙ f in cc

pub not_absent : (files : Files) (file bytes : List ℕ) → files file ≡ Some bytes → IsAbsent files file → ⊥
not_absent files file bytes e n = let h : Some bytes ≡ None = sym e ∙ n in cc

pub not_long : (files : Files) (file bytes : List ℕ) → IsFile files file bytes → IsTooLong files file → ⊥
not_long files file bytes f l =
    let e = same_bytes files file bytes l.bytes f.found l.found in
    let long : file_bytes_limit < length bytes = rw e l.long in
    let short : length bytes ≤ file_bytes_limit = f.short in
    omega arith

-- a file that is there and not too long is loaded
pub file_is_there : (files : Files) (file bytes : List ℕ) → IsFile files file bytes → NoneStands (file_checks files file)
file_is_there files file bytes f = (no_cause (not_absent files file bytes f.found), (no_cause (not_long files file bytes f), tt))

-- the one file at which a call failed
pub at_file : (file : List ℕ) → Contains (file ∷ []) file
at_file file = (0, omega arith, refl)
