-- A value that is sought among values of the same hash.
use Rattle.std.proofs.Common.{◌≡◌, ℕ, ◌-◌, ◌<◌, ◌≤◌, Bool, false, true≢false, List, [], ◌∷◌, ◌++◌, length, map, get_or, slice_get, Some, sym, ◌∙◌, ap, ap₂, arith, ◌⊎◌, inl, inr}
use Rattle.std.specs.List.{Contains}
use Rattle.std.specs.Str.{bytes_eq}
use Rattle.std.specs.Cmp.Lexicographic.{bytes_decides}
use Rattle.std.proofs.lemmas.Bool.{cases_lt}
use Rattle.std.proofs.lemmas.List.{get_or-map, length-map, map-append}
use Rattle.std.proofs.lemmas.Option.{slice_get-get_or, slice_get_within, get_or_from_slice_get}
use Rattle.mt_lexicon.specs.Hashed.{IsLast, HasHash, AreHashed, hash_of}

-- a value's hash is the one that is kept for its number
pub hash_at : (values : List (List ℕ)) (hashes : List ℕ) (k : ℕ) (value : List ℕ) → AreHashed values hashes → slice_get values k ≡ Some value → get_or hashes k 0 ≡ hash_of value
hash_at values hashes k value e at =
    ap (λ (h : List ℕ). get_or h k 0) e ∙ get_or-map hash_of values k value 0 (slice_get_within values k value at) ∙ ap hash_of (get_or_from_slice_get values k value value at)

-- the number before `below` has the hash, and the value is at no place from `below` on
pub record IsSought (values : List (List ℕ)) (hashes : List ℕ) (value : List ℕ) (below : ℕ) : Type 0 where
  pub bound : below ≤ length values
  pub here : 0 < below → get_or hashes (below - 1) 0 ≡ hash_of value
  pub none : (k : ℕ) → below ≤ k → k < length values → slice_get values k ≡ Some value → ⊥

pub sought_first : (values : List (List ℕ)) (hashes : List ℕ) (value : List ℕ) (hash below : ℕ) → AreHashed values hashes → hash ≡ hash_of value → IsLast (HasHash hashes hash) (length hashes) below → IsSought values hashes value below
sought_first values hashes value hash below e f h =
    let count : length hashes ≡ length values = ap length e ∙ length-map values hash_of in
    record {
      bound = omega (arith, count, h.bound);
      here = λ l. h.here l ∙ f;
      none = λ k l m at. h.none k l (omega (arith, count)) (hash_at values hashes k value e at ∙ sym f);
    }

pub sought_next : (values : List (List ℕ)) (hashes : List ℕ) (value : List ℕ) (below next : ℕ) → AreHashed values hashes → 0 < below → IsSought values hashes value below → (slice_get values (below - 1) ≡ Some value → ⊥) →
    IsLast (HasHash hashes (get_or hashes (below - 1) 0)) (below - 1) next → IsSought values hashes value next
sought_next values hashes value below next e some h other last = record {
  bound = omega (arith, h.bound, last.bound);
  here = λ l. last.here l ∙ h.here some;
  none = λ k l m at. by k l m at (cases_lt k (below - 1)) (cases_lt k below);
}
  where
    by : (k : ℕ) → next ≤ k → k < length values → slice_get values k ≡ Some value → (k < below - 1) ⊎ (below - 1 ≤ k) → (k < below) ⊎ (below ≤ k) → ⊥
    by k l m at (inl low) either = last.none k l low (hash_at values hashes k value e at ∙ sym (h.here some))
    by k l m at (inr high) (inr past) = h.none k past m at
    by k l m at (inr high) (inl low) = let f : k ≡ below - 1 = omega arith in other (sym (ap (slice_get values) f) ∙ at)

pub not_there : (values : List (List ℕ)) (hashes : List ℕ) (value : List ℕ) (below : ℕ) → IsSought values hashes value below → below ≡ 0 → Contains values value → ⊥
not_there values hashes value below h e (k, l, is) =
    h.none k (omega arith) l (slice_get-get_or values k value l ∙ ap Some is)

-- one value more
pub hashed_more : (values more : List (List ℕ)) (hashes all : List ℕ) (value : List ℕ) (hash : ℕ) → AreHashed values hashes → more ≡ values ++ value ∷ [] → all ≡ hashes ++ hash ∷ [] → hash ≡ hash_of value → AreHashed more all
hashed_more values more hashes all value hash e f g h =
    g ∙ ap₂ (λ (a : List ℕ) (b : ℕ). a ++ b ∷ []) e h ∙ sym (map-append hash_of values (value ∷ [])) ∙ sym (ap (map hash_of) f)

-- a value that is not equal to the one at a place is not there
pub not_equal : (values : List (List ℕ)) (k : ℕ) (found value : List ℕ) (equal : Bool) → slice_get values k ≡ Some found → equal ≡ bytes_eq found value → equal ≡ false → slice_get values k ≡ Some value → ⊥
not_equal values k found value equal at is other there =
    let e : found ≡ value = cc in
    true≢false (sym ((bytes_decides found value).1 e) ∙ sym is ∙ other)
