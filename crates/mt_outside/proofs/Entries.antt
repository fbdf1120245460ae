-- Files in memory as entries, and as a map from names.
use Rattle.std.proofs.Common.{◌≡◌, ℕ, Bool, true, false, cond, List, [], ◌∷◌, map, Some, refl, ap, arith, String, string_bytes}
use mathlib.Core.Path.{fun_ext}
use Rattle.std.proofs.lemmas.Grind.{common_steps}
use Rattle.std.proofs.lemmas.Slice.Eq.{bytes_eq-Decides}
use Rattle.std.specs.String.{string_eq}
use Rattle.std.specs.Str.{bytes_eq}
use Rattle.std.specs.Map.{lookup}
use Rattle.indexmap.specs.IndexMap.{insert_entry}
use Rattle.mt_shelf_spec.specs.Files.{with_file}
use Rattle.mt_outside.specs.Memory.{files_of, put_file}

module _ {A : Type 0} where
  -- an entry by the bytes of its name
  abbrev pub seen : String A × List ℕ → List ℕ × List ℕ
  seen e = (string_bytes e.0, e.1)

  -- a look-up among the names
  pub found : (entries : List (String A × List ℕ)) (name : List ℕ) → lookup (λ k. bytes_eq name (string_bytes k)) entries ≡ files_of (map seen entries) name
  found [] name = refl
  found (e ∷ es) name = ap (λ rest. cond (bytes_eq name (string_bytes e.0)) (Some e.1) rest) (found es name)

  put_step : (same : Bool) (e : String A × List ℕ) (es : List (String A × List ℕ)) (key : String A) (bytes : List ℕ) → bytes_eq (string_bytes key) (string_bytes e.0) ≡ same →
      map seen (insert_entry string_eq es key bytes) ≡ put_file (map seen es) (string_bytes key) bytes →
      map seen (insert_entry string_eq (e ∷ es) key bytes) ≡ put_file (map seen (e ∷ es)) (string_bytes key) bytes
  put_step true e es key bytes is rest = rw (is) refl
  put_step false e es key bytes is rest = rw (is) (ap (λ entries. seen e ∷ entries) rest)

  put : (entries : List (String A × List ℕ)) (key : String A) (bytes : List ℕ) → map seen (insert_entry string_eq entries key bytes) ≡ put_file (map seen entries) (string_bytes key) bytes
  put [] key bytes = refl
  put (e ∷ es) key bytes = put_step (bytes_eq (string_bytes key) (string_bytes e.0)) e es key bytes refl (put es key bytes)

  -- a file more, or another in the place of one
  pub stored : (old new : List (String A × List ℕ)) (key : String A) (file name bytes : List ℕ) → new ≡ insert_entry string_eq old key file → string_bytes key ≡ name → file ≡ bytes →
      map seen new ≡ put_file (map seen old) name bytes
  stored old new key file name bytes is named holds = rw (is, ← named, ← holds) (put old key file)

-- a look-up after a file came: its bytes under its name, and else what was there
at : (same : Bool) (hits : Bool) (e : List ℕ × List ℕ) (es : List (List ℕ × List ℕ)) (name bytes other : List ℕ) → bytes_eq name e.0 ≡ same → bytes_eq other e.0 ≡ hits →
    lookup (bytes_eq other) (put_file es name bytes) ≡ cond (bytes_eq name other) (Some bytes) (lookup (bytes_eq other) es) →
    lookup (bytes_eq other) (put_file (e ∷ es) name bytes) ≡ cond (bytes_eq name other) (Some bytes) (lookup (bytes_eq other) (e ∷ es))
at true true e es name bytes other same hits rest = grind (arith, common_steps, bytes_eq-Decides name e.0, bytes_eq-Decides other e.0, bytes_eq-Decides name other)
at true false e es name bytes other same hits rest = grind (arith, common_steps, bytes_eq-Decides name e.0, bytes_eq-Decides other e.0, bytes_eq-Decides name other)
at false true e es name bytes other same hits rest = grind (arith, common_steps, bytes_eq-Decides name e.0, bytes_eq-Decides other e.0, bytes_eq-Decides name other)
at false false e es name bytes other same hits rest = grind (arith, common_steps, bytes_eq-Decides name e.0, bytes_eq-Decides other e.0, bytes_eq-Decides name other)

looked_up : (entries : List (List ℕ × List ℕ)) (name bytes other : List ℕ) →
    lookup (bytes_eq other) (put_file entries name bytes) ≡ cond (bytes_eq name other) (Some bytes) (lookup (bytes_eq other) entries)
looked_up [] name bytes other = grind (arith, common_steps, bytes_eq-Decides name other, bytes_eq-Decides other name)
looked_up (e ∷ es) name bytes other = at (bytes_eq name e.0) (bytes_eq other e.0) e es name bytes other refl refl (looked_up es name bytes other)

-- the files after a file came
pub files_with : (entries : List (List ℕ × List ℕ)) (name bytes : List ℕ) → files_of (put_file entries name bytes) ≡ with_file (files_of entries) name bytes
unfolding with_file
files_with entries name bytes = fun_ext (looked_up entries name bytes)
