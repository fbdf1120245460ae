-- What is found of a file, where the shelf tells its files and where it does not.
use Rattle.std.proofs.Common.{◌≡◌, ℕ, ◌+◌, ◌<◌, ◌≤◌, List, length, Option, None, Some, arith, refl}
use Rattle.std.proofs.lemmas.List.{length-replicate}
use Rattle.std.specs.Prelude.{replicate}
use Rattle.mt_shelf_spec.specs.Files.{Files, no_files}
use Rattle.mt_outside.specs.Told.{Told}
use Rattle.mt_session_spec.specs.Files.{IsAbsent, IsTooLong, IsFile, file_bytes_limit}
use Rattle.mt_shell.specs.Sights.{Sees}

-- what holds of the files that are told, and of others
sees : (told : Option Files) (P : Files → Type 0) (other : Files) → Told told P → P other → Sees told P
sees None P other t p = record { value = other; agrees = λ all e. cc; holds = p }
sees (Some files) P other t p = record { value = files; agrees = λ all e. cc; holds = t files refl }

long_list : (n : ℕ) → (bytes : List ℕ) × (n < length bytes)
long_list n = (replicate (n + 1) 0, omega (arith, length-replicate {A = ℕ} (n + 1) 0))

pub sees_any : (told : Option Files) → Sees told (λ files. Unit {0})
sees_any told = sees told (λ files. Unit {0}) no_files (λ files e. tt) tt

pub sees_whole : (told : Option Files) (name out : List ℕ) → Told told (λ all. (all name ≡ Some out) × (length out ≤ file_bytes_limit)) → length out ≤ file_bytes_limit → Sees told (λ files. IsFile files name out)
sees_whole told name out t short = sees told (λ files. IsFile files name out) (λ other. Some out) (λ files e. let h = t files e in record { found = h.0; short = h.1 }) (record { found = refl; short = short })

pub sees_none : (told : Option Files) (name : List ℕ) → Told told (λ all. all name ≡ None) → Sees told (λ files. IsAbsent files name)
sees_none told name t = sees told (λ files. IsAbsent files name) no_files t refl

pub sees_long : (told : Option Files) (name : List ℕ) → Told told (λ all. (bytes : List ℕ) × (all name ≡ Some bytes) × (file_bytes_limit < length bytes)) → Sees told (λ files. IsTooLong files name)
sees_long told name t =
    let some = long_list file_bytes_limit in
    sees told (λ files. IsTooLong files name) (λ other. Some some.0) (λ files e. let h = t files e in record { bytes = h.0; found = h.1; long = h.2 })
    (record { bytes = some.0; found = refl; long = some.1 })
