-- Entries that grow at their end, and keys that stay where counts change.
use Rattle.std.proofs.Common.{◌≡◌, ℕ, zero, suc, ◌+◌, ◌<◌, Option, Some, List, [], ◌∷◌, ◌++◌, length, slice_get, refl, sym, ap, ◌∙◌, arith, append_assoc, length-append}
use Rattle.std.specs.Map.{keys_of}
use Rattle.std.proofs.lemmas.List.{get_or_append_left}
use Rattle.std.proofs.lemmas.List.Elements.{All-append}
use Rattle.std.proofs.lemmas.Option.{slice_get_within, get_or_from_slice_get, slice_get-get_or}
use Rattle.mt_counts.specs.Tallies.{IsAt, Grows, IsRaised}

-- ---- entries that grow

pub grows_then : {K : Type 0} (a b c : List (K × ℕ)) → Grows a b → Grows b c → Grows a c
grows_then {K} a b c h g = record {
  more = h.more ++ g.more;
  are = g.are ∙ ap (λ (xs : List (K × ℕ)). xs ++ g.more) h.are ∙ append_assoc a h.more g.more;
  zeros = All-append (λ (e : K × ℕ). e.1 ≡ 0) h.more g.more h.zeros g.zeros;
}

pub grows_at : {K : Type 0} (old new : List (K × ℕ)) (key : K) (k : ℕ) → Grows old new → IsAt old key k → IsAt new key k
grows_at {K} old new key k h at =
    let within = slice_get_within old k (key, at.count) at.there in
    let more : k < length (old ++ h.more) = omega (arith, within, length-append old h.more) in
    record {
      count = at.count;
      there = ap (λ (xs : List (K × ℕ)). slice_get xs k) h.are ∙ slice_get-get_or (old ++ h.more) k (key, at.count) more ∙
          ap Some (get_or_append_left old h.more (key, at.count) k within ∙ get_or_from_slice_get old k (key, at.count) (key, at.count) at.there);
    }

-- what stands at a place is one key
pub same_key : {K : Type 0} (es : List (K × ℕ)) (a b : K) (k : ℕ) → IsAt es a k → IsAt es b k → a ≡ b
same_key {K} es a b k h g =
    let e : ◌≡◌ {A = Option (K × ℕ)} (Some (a, h.count)) (Some (b, g.count)) = sym h.there ∙ g.there in
    let is : ◌≡◌ {A = K × ℕ} (a, h.count) (b, g.count) = cc in
    ap (λ (x : K × ℕ). x.0) is

-- ---- counts that are raised

pub keys_raised : {K : Type 0} (low high : List (K × ℕ)) (place by : ℕ) → IsRaised low place by high → keys_of high ≡ keys_of low
keys_raised {K} low high place by r = ap (λ (es : List (K × ℕ)). keys_of es) r.high_is ∙ same r.front r.key (r.count + by) r.count r.back ∙ sym (ap (λ (es : List (K × ℕ)). keys_of es) r.low_is)
  where
    same : {K : Type 0} (front : List (K × ℕ)) (key : K) (m n : ℕ) (back : List (K × ℕ)) → keys_of (front ++ (key, m) ∷ back) ≡ keys_of (front ++ (key, n) ∷ back)
    same [] key m n back = refl
    same {K} (x ∷ front) key m n back = ap (λ (ks : List K). x.0 ∷ ks) (same front key m n back)

-- the key at a place is told by the keys alone
pub at_keys : {K : Type 0} (es others : List (K × ℕ)) (key : K) (k : ℕ) → keys_of others ≡ keys_of es → IsAt es key k → IsAt others key k
at_keys [] others key k e at = absurd (omega (arith, slice_get_within [] k (key, at.count) at.there))
at_keys (x ∷ es) [] key k e at = let f : ⊥ = cc in absurd f
at_keys {K} (x ∷ es) (y ∷ others) key zero e at =
    let first : y.0 ≡ x.0 = cc in
    let is : ◌≡◌ {A = K × ℕ} x (key, at.count) = cc in
    record { count = y.1; there = ap (λ (k : K). Some (k, y.1)) (first ∙ ap (λ (z : K × ℕ). z.0) is) }
at_keys {K} (x ∷ es) (y ∷ others) key (suc k) e at =
    let rest : keys_of others ≡ keys_of es = cc in
    let h = at_keys es others key k rest (record { count = at.count; there = at.there }) in
    record { count = h.count; there = h.there }
