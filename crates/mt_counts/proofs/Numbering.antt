-- Texts found by their bytes, and lists of texts that grow at their end.
use Rattle.std.proofs.Common.{◌≡◌, ℕ, ◌+◌, ◌<◌, ◌≤◌, Bool, true, false, not, cond, nat_lt, Some, None, String, Global, string_bytes, List, map, ap₂, [], ◌∷◌, ◌++◌, length, get_or, slice_get, position, refl, sym, ap, ◌∙◌, arith, true≢false, append-nil, append_assoc, length-append, ◌⊎◌, inl, inr}
use Rattle.std.specs.List.{AllByRecursion, IsDistinct, prefix_len}
use Rattle.std.proofs.lemmas.Bool.{cases_order, cases_lt}
use Rattle.std.proofs.lemmas.List.{get_or_append_left, get_or_push, get_or-map, length-map}
use Rattle.std.proofs.lemmas.List.Quantifiers.{position-Some}
use Rattle.std.proofs.lemmas.List.Sums.{fails_before_first}
use Rattle.std.proofs.lemmas.Map.Keys.{apart_from_distinct}
use Rattle.std.proofs.lemmas.Option.{slice_get_within, get_or_from_slice_get, slice_get-get_or}
use Rattle.std.specs.Cmp.Lexicographic.{pointwise, bytes_decides}
use Rattle.std.specs.Prelude.{nat_eq}
use Rattle.mt_counts.specs.Names.{AreDistinct, Begins, AreRenumbered}
use Rattle.mt_counts.proofs.Entries.{none_cases}

exact : (value k : List ℕ) → pointwise nat_eq value k ≡ true → value ≡ k
exact value k h = (bytes_decides value k).0 h

same : (value : List ℕ) → pointwise nat_eq value value ≡ true
same value = (bytes_decides value value).1 refl

pub found_in : (value : List ℕ) (values : List (List ℕ)) (i : ℕ) → Some i ≡ position (pointwise nat_eq value) values → slice_get values i ≡ Some value
found_in value values i e =
    let there = position-Some (pointwise nat_eq value) values i value (sym e) in
    slice_get-get_or values i value there.0 ∙ ap Some (sym (exact value (get_or values i value) there.1))

pub not_in : (value : List ℕ) (values : List (List ℕ)) → None ≡ position (pointwise nat_eq value) values → (i : ℕ) → slice_get values i ≡ Some value → ⊥
not_in value values e i at =
    let within = slice_get_within values i value at in
    let fails = fails_before_first (pointwise nat_eq value) values i value (omega (arith, within, none_cases (pointwise nat_eq value) values e)) in
    true≢false (sym (same value) ∙ ap (pointwise nat_eq value) (sym (get_or_from_slice_get values i value value at)) ∙ fails)

pub distinct_in : (values : List (List ℕ)) → IsDistinct (pointwise nat_eq) values → AreDistinct values
distinct_in values distinct value i j h g = by (cases_order i j)
  where
    apart : (i j : ℕ) → slice_get values i ≡ Some value → slice_get values j ≡ Some value → i < j → ⊥
    apart i j h g l =
        true≢false (sym (same value) ∙ ap (λ (k : List ℕ). pointwise nat_eq k value) (sym (get_or_from_slice_get values i value value h)) ∙
        ap (pointwise nat_eq (get_or values i value)) (sym (get_or_from_slice_get values j value value g)) ∙ apart_from_distinct (pointwise nat_eq) values i j value distinct l (slice_get_within values j value g))

    by : (i ≡ j) ⊎ ((i < j) ⊎ (j < i)) → i ≡ j
    by (inl e) = e
    by (inr (inl l)) = absurd (apart i j h g l)
    by (inr (inr l)) = absurd (apart j i g h l)

-- ---- the same of texts that are kept as strings

prefix_map : {X Y : Type 0} (f : X → Y) (p : Y → Bool) (xs : List X) → prefix_len (λ x. p (f x)) xs ≡ prefix_len p (map f xs)
prefix_map f p [] = refl
prefix_map f p (x ∷ xs) = ap (λ (n : ℕ). cond (p (f x)) (1 + n) 0) (prefix_map f p xs)

position_map : {X Y : Type 0} (f : X → Y) (p : Y → Bool) (xs : List X) → position (λ x. p (f x)) xs ≡ position p (map f xs)
position_map f p xs = ap₂ (λ (n m : ℕ). cond (nat_lt n m) (Some n) None) (prefix_map f (λ y. not (p y)) xs) (sym (length-map xs f))

pub found_as : (value : List ℕ) (strings : List (String Global)) (i : ℕ) → Some i ≡ position (λ s. pointwise nat_eq value (string_bytes s)) strings → slice_get (map string_bytes strings) i ≡ Some value
found_as value strings i e = found_in value (map string_bytes strings) i (e ∙ position_map string_bytes (pointwise nat_eq value) strings)

pub not_as : (value : List ℕ) (strings : List (String Global)) → None ≡ position (λ s. pointwise nat_eq value (string_bytes s)) strings → (i : ℕ) → slice_get (map string_bytes strings) i ≡ Some value → ⊥
not_as value strings e = not_in value (map string_bytes strings) (e ∙ position_map string_bytes (pointwise nat_eq value) strings)

apart_map : {X Y : Type 0} (f : X → Y) (e : Y → Bool) (xs : List X) → AllByRecursion (λ x. e (f x) ≡ false) xs → AllByRecursion (λ y. e y ≡ false) (map f xs)
apart_map f e [] h = tt
apart_map f e (x ∷ xs) h = (h.0, apart_map f e xs h.1)

distinct_map : {X Y : Type 0} (f : X → Y) (e : Y → Y → Bool) (xs : List X) → IsDistinct (λ x y. e (f x) (f y)) xs → IsDistinct e (map f xs)
unfolding IsDistinct
distinct_map f e [] h = tt
distinct_map f e (x ∷ xs) h = (apart_map f (e (f x)) xs h.0, distinct_map f e xs h.1)

pub distinct_as : (strings : List (String Global)) → IsDistinct (λ x y. pointwise nat_eq (string_bytes x) (string_bytes y)) strings → AreDistinct (map string_bytes strings)
distinct_as strings distinct = distinct_in (map string_bytes strings) (distinct_map string_bytes (pointwise nat_eq) strings distinct)

pub stored_as : (value : String Global) (strings : List (String Global)) (i : ℕ) (k : String Global) → slice_get strings i ≡ Some k → pointwise nat_eq (string_bytes value) (string_bytes k) ≡ true →
    slice_get (map string_bytes strings) i ≡ Some (string_bytes value)
stored_as value strings i k at e =
    let within = slice_get_within strings i k at in
    slice_get-get_or (map string_bytes strings) i (string_bytes k) (omega (arith, within, length-map strings string_bytes)) ∙
    ap Some (get_or-map string_bytes strings i k (string_bytes k) within ∙ ap string_bytes (get_or_from_slice_get strings i k k at) ∙ sym (exact (string_bytes value) (string_bytes k) e))

-- ---- lists that grow

pub begins_none : (values : List (List ℕ)) → Begins values values
begins_none values = record { more = []; are = sym (append-nil values) }

pub begins_then : (a b c : List (List ℕ)) → Begins a b → Begins b c → Begins a c
begins_then a b c h g = record { more = h.more ++ g.more; are = g.are ∙ ap (λ (xs : List (List ℕ)). xs ++ g.more) h.are ∙ append_assoc a h.more g.more }

pub begins_at : (old new : List (List ℕ)) (k : ℕ) (value : List ℕ) → Begins old new → slice_get old k ≡ Some value → slice_get new k ≡ Some value
begins_at old new k value h e =
    let within = slice_get_within old k value e in
    let more : k < length (old ++ h.more) = omega (arith, within, length-append old h.more) in
    ap (λ (xs : List (List ℕ)). slice_get xs k) h.are ∙ slice_get-get_or (old ++ h.more) k value more ∙ ap Some (get_or_append_left old h.more value k within ∙ get_or_from_slice_get old k value value e)

-- ---- some others are added

pub record IsAdding (others first now : List (List ℕ)) (numbers : List ℕ) (k : ℕ) : Type 0 where
  pub begins : Begins first now
  pub count : length numbers ≡ k
  pub each : (j : ℕ) (value : List ℕ) → j < k → slice_get others j ≡ Some value → slice_get now (get_or numbers j 0) ≡ Some value

pub adding_more : (others first now next : List (List ℕ)) (numbers more : List ℕ) (k number : ℕ) (value : List ℕ) → IsAdding others first now numbers k → Begins now next → slice_get others k ≡ Some value →
    slice_get next number ≡ Some value → more ≡ numbers ++ number ∷ [] → IsAdding others first next more (k + 1)
adding_more others first now next numbers more k number value h begins there is e = rw e (record {
  begins = begins_then first now next h.begins begins;
  count = omega (arith, length-append numbers (number ∷ []), h.count);
  each = λ j other l at. by j other at (cases_lt j k) l;
})
  where
    by : (j : ℕ) (other : List ℕ) → slice_get others j ≡ Some other → (j < k) ⊎ (k ≤ j) → j < k + 1 → slice_get next (get_or (numbers ++ number ∷ []) j 0) ≡ Some other
    by j other at (inl low) l =
        ap (slice_get next) (get_or_append_left numbers (number ∷ []) 0 j (omega (arith, low, h.count))) ∙ begins_at now next (get_or numbers j 0) other begins (h.each j other low at)
    by j other at (inr high) l =
        let e : j ≡ k = omega (arith, high, l) in
        let same : Some value ≡ Some other = sym there ∙ ap (slice_get others) (sym e) ∙ at in
        ap (slice_get next) (get_or_push numbers number 0 j (omega (arith, e, h.count))) ∙ is ∙ same

pub adding_all : (others first now : List (List ℕ)) (numbers : List ℕ) (k : ℕ) → IsAdding others first now numbers k → length others ≤ k → k ≤ length others → AreRenumbered others now numbers
adding_all others first now numbers k h l m = record { count = omega (arith, h.count, l, m); each = λ j value at. h.each j value (omega (arith, slice_get_within others j value at, l)) at }
