-- Packed values are told apart, and entries stay right while values are added.
use Rattle.std.proofs.Common.{◌≡◌, ℕ, suc, ◌+◌, ◌*◌, ◌^◌, ◌<◌, ◌≤◌, Bool, true, false, if◌then◌else◌, List, [], ◌∷◌, ◌++◌, length, length-append, replicate, take, get_or, slice_get, Some, refl, sym, ◌∙◌, ap, ap₂, subst, arith, ◌⊎◌, inl, inr}
use Rattle.std.specs.List.{All, list_any}
use Rattle.std.specs.Str.{bytes_eq}
use Rattle.std.proofs.Math.Nat.{pow-suc, pow-le-pow_right, one-le-pow, mul-le-mul_left}
use Rattle.std.proofs.lemmas.Bool.{cases_lt}
use Rattle.std.proofs.lemmas.List.{take_more, take_all, get_or_append_left}
use Rattle.std.proofs.lemmas.List.Elements.{All-replicate}
use Rattle.std.proofs.lemmas.Option.{get_or_from_slice_get, slice_get_within, slice_get-get_or}
use Rattle.mt_store_spec.specs.Lexicons.{seen_with}
use Rattle.mt_vertical_tables.specs.Packing.{IsKnown, IsPacked, Tells, digits_behind, key_of}
use Rattle.mt_vertical_tables.specs.declared.known.Known.{Known}

abbrev AreBytes : List ℕ → Type 0
AreBytes value = (k : ℕ) → get_or value k 0 < 256

-- ---- a byte more

digits_push : (key : ℕ) (value : List ℕ) (byte : ℕ) → digits_behind key (value ++ byte ∷ []) ≡ digits_behind key value * 256 + byte
digits_push key [] byte = refl
digits_push key (first ∷ value) byte = digits_push (key * 256 + first) value byte

pub digits_more : (value : List ℕ) (place key byte : ℕ) → place < length value → key ≡ digits_behind 1 (take place value) → byte ≡ get_or value place 0 → key * 256 + byte ≡ digits_behind 1 (take (place + 1) value)
digits_more value place key byte l e f = ap₂ (λ (k b : ℕ). k * 256 + b) e f ∙ sym (digits_push 1 (take place value) (get_or value place 0)) ∙ ap (digits_behind 1) (sym (take_more value place 0 l))

pub all_digits : (value : List ℕ) (place key : ℕ) → AreBytes value → length value ≤ place → key ≡ digits_behind 1 (take place value) → IsPacked value key
all_digits value place key h l e = record { bytes = h; is = e ∙ ap (digits_behind 1) (take_all place value l) }

-- ---- values are told apart

same_digits : (one other : List ℕ) (j k : ℕ) → AreBytes one → AreBytes other → length one ≡ length other → digits_behind j one ≡ digits_behind k other → (j ≡ k) × (one ≡ other)
same_digits [] [] j k h g l e = (e, refl)
same_digits [] (y ∷ other) j k h g l e = absurd (omega (arith, l))
same_digits (x ∷ one) [] j k h g l e = absurd (omega (arith, l))
same_digits (x ∷ one) (y ∷ other) j k h g l e =
    let (m, same) = same_digits one other (j * 256 + x) (k * 256 + y) (λ i. h (suc i)) (λ i. g (suc i)) (omega (arith, l)) e in
    let low : x < 256 = h 0 in
    let low_too : y < 256 = g 0 in
    let front : j ≡ k = omega (arith, m, low, low_too) in
    let first : x ≡ y = omega (arith, m, low, low_too) in
    (front, ap₂ (λ (z : ℕ) (zs : List ℕ). z ∷ zs) first same)

at_least : (key : ℕ) (value : List ℕ) → 256 ^ length value * key ≤ digits_behind key value
at_least key [] = omega arith
at_least key (byte ∷ value) =
    let power : 256 ^ suc (length value) ≡ 256 ^ length value * 256 = pow-suc 256 (length value) in
    let rest : 256 ^ length value * (key * 256 + byte) ≤ digits_behind (key * 256 + byte) value = at_least (key * 256 + byte) value in
    let front : 256 ^ length value * (key * 256) ≤ 256 ^ length value * (key * 256 + byte) = mul-le-mul_left (256 ^ length value) (omega arith) in
    rw power (omega (arith, rest, front))

at_most : (key : ℕ) (value : List ℕ) → AreBytes value → digits_behind key value < 256 ^ length value * (key + 1)
at_most key [] h = omega arith
at_most key (byte ∷ value) h =
    let power : 256 ^ suc (length value) ≡ 256 ^ length value * 256 = pow-suc 256 (length value) in
    let low : byte < 256 = h 0 in
    let rest : digits_behind (key * 256 + byte) value < 256 ^ length value * (key * 256 + byte + 1) = at_most (key * 256 + byte) value (λ k. h (suc k)) in
    let whole : 256 ^ length value * (key * 256 + byte + 1) ≤ 256 ^ length value * (key * 256 + 256) = mul-le-mul_left (256 ^ length value) (omega arith) in
    rw power (omega (arith, rest, whole))

not_shorter : (one other : List ℕ) → AreBytes one → digits_behind 1 one ≡ digits_behind 1 other → length one < length other → ⊥
not_shorter one other h e l =
    let power : 256 ^ suc (length one) ≡ 256 ^ length one * 256 = pow-suc 256 (length one) in
    let longer : suc (length one) ≤ length other = omega arith in
    let above : 256 ^ suc (length one) ≤ 256 ^ length other = pow-le-pow_right {n = 256} (omega arith) longer in
    omega (arith, e, at_most 1 one h, at_least 1 other, power, above)

-- no two values are packed alike
pub told_apart : (one other : List ℕ) (key : ℕ) → IsPacked one key → IsPacked other key → one ≡ other
told_apart one other key p q = by (cases_lt (length one) (length other)) (cases_lt (length other) (length one))
  where
    e : digits_behind 1 one ≡ digits_behind 1 other
    e = sym p.is ∙ q.is

    by : (length one < length other) ⊎ (length other ≤ length one) → (length other < length one) ⊎ (length one ≤ length other) → one ≡ other
    by (inl l) m = absurd (not_shorter one other p.bytes e l)
    by (inr l) (inl m) = absurd (not_shorter other one q.bytes (sym e) m)
    by (inr l) (inr m) = (same_digits one other 1 1 p.bytes q.bytes (omega arith) e).1

has_key : (value : List ℕ) (key : ℕ) → IsPacked value key → 0 < key
has_key value key p =
    let some : 1 ≤ 256 ^ length value = one-le-pow (length value) 256 (omega arith) in
    omega (arith, p.is, at_least 1 value, some)

-- ---- entries

-- the entry at a place tells the number of the value that it packs
pub told : (seen : List (List ℕ)) (known : List Known) (d : Known) (place key : ℕ) (value : List ℕ) → All (IsKnown seen) known → IsPacked value key → place < length known → key_of (get_or known place d) ≡ key →
    slice_get seen (get_or known place d).number ≡ Some value
told seen known d place key value all packs l same =
    let mine : IsPacked value (key_of (get_or known place d)) = subst (IsPacked value) (sym same) packs in
    let t : Tells seen (get_or known place d) = all place d l (has_key value (key_of (get_or known place d)) mine) in
    t.at ∙ ap (λ (v : List ℕ). Some v) (told_apart t.value value (key_of (get_or known place d)) t.packs mine)

stays : (seen : List (List ℕ)) (value other : List ℕ) (n : ℕ) → slice_get seen n ≡ Some other → slice_get (seen_with seen value) n ≡ Some other
stays seen value other n at = by (list_any (bytes_eq value) seen)
  where
    within : n < length seen
    within = slice_get_within seen n other at

    by : (b : Bool) → slice_get (if b then seen else seen ++ value ∷ []) n ≡ Some other
    by true = at
    by false =
        slice_get-get_or (seen ++ value ∷ []) n [] (omega (arith, within, length-append seen (value ∷ [])))
        ∙ ap (λ (v : List ℕ). Some v) (get_or_append_left seen (value ∷ []) [] n within ∙ get_or_from_slice_get seen n other [] at)

-- entries are right when a value more was seen
pub known_more : (seen more : List (List ℕ)) (value : List ℕ) (known : List Known) → more ≡ seen_with seen value → All (IsKnown seen) known → All (IsKnown more) known
known_more seen more value known e all = λ place d l has_key.
    let t : Tells seen (get_or known place d) = all place d l has_key in
    record { value = t.value; packs = t.packs; at = subst (λ (vs : List (List ℕ)). slice_get vs (get_or known place d).number ≡ Some t.value) (sym e) (stays seen value t.value (get_or known place d).number t.at) }

pub tells : (seen : List (List ℕ)) (entry : Known) (value : List ℕ) (key number : ℕ) → key_of entry ≡ key → entry.number ≡ number → IsPacked value key → slice_get seen number ≡ Some value → IsKnown seen entry
tells seen entry value key number k n packs at = λ has_key. record {
  value = value;
  packs = subst (IsPacked value) (sym k) packs;
  at = subst (λ (m : ℕ). slice_get seen m ≡ Some value) (sym n) at;
}

-- entries without a key tell of none
pub none_known : (n : ℕ) (seen : List (List ℕ)) (known : List Known) → known ≡ replicate n (record { low = 0; high = 0; number = 0 }) → All (IsKnown seen) known
none_known n seen known e = subst (All (IsKnown seen)) (sym e) (All-replicate (IsKnown seen) n (record { low = 0; high = 0; number = 0 }) (λ has_key. absurd (omega (arith, has_key))))
