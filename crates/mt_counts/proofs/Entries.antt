-- Entries at their places, found by their keys and changed.
use Rattle.std.proofs.Common.{◌≡◌, ℕ, zero, suc, ◌+◌, ◌-◌, ◌<◌, ◌≤◌, Bool, true, Some, None, List, [], ◌∷◌, ◌++◌, length, map, get_or, slice_get, position, refl, sym, ap, subst, ◌∙◌, arith, true≢false, append-nil, nat_eq, ◌&&◌, eqb-true, ◌⊎◌, inl, inr}
use Rattle.std.specs.List.{position_or_len, IsDistinct}
use Rattle.std.specs.Map.{keys_of}
use Rattle.std.proofs.lemmas.Bool.{cases_lt, cases_order, and_parts, and_from, eq-eqb}
use Rattle.std.proofs.lemmas.List.Quantifiers.{position-Some}
use Rattle.std.proofs.lemmas.List.Sums.{fails_before_first}
use Rattle.std.proofs.lemmas.Option.{slice_get_within, get_or_from_slice_get, slice_get-get_or}
use Rattle.std.proofs.lemmas.Grind.{common_steps}
use Rattle.std.proofs.lemmas.List.{get_or_push, get_or_append_left, length-append, map-append}
use Rattle.std.proofs.lemmas.List.Elements.{All-nil, All-cons}
use Rattle.indexmap.specs.IndexMap.{set_value_at}
use Rattle.std.proofs.lemmas.Map.Keys.{apart_from_distinct}
use Rattle.mt_counts.specs.Tallies.{AreOnce, HasKeysBelow, IsAt, Grows, IsRaised}
use Rattle.mt_counts.specs.Chains.{classes}

pub length-keys : {K : Type 0} (es : List (K × ℕ)) → length (keys_of es) ≡ length es
length-keys [] = refl
length-keys (e ∷ es) = ap suc (length-keys es)

pub get_or-keys : {K : Type 0} (es : List (K × ℕ)) (i : ℕ) (key : K) (n : ℕ) → get_or (keys_of es) i key ≡ (get_or es i (key, n)).0
get_or-keys [] i key n = refl
get_or-keys (e ∷ es) zero key n = refl
get_or-keys (e ∷ es) (suc i) key n = get_or-keys es i key n

-- an entry whose key is found
pub found_at : {K : Type 0} (p : K → Bool) (key : K) (es : List (K × ℕ)) (i : ℕ) → ((k : K) → p k ≡ true → k ≡ key) → Some i ≡ position p (keys_of es) → IsAt es key i
found_at p key es i exact e =
    let there = position-Some p (keys_of es) i key (sym e) in
    let entry = get_or es i (key, 0) in
    let is : entry.0 ≡ key = sym (get_or-keys es i key 0) ∙ exact (get_or (keys_of es) i key) there.1 in
    let within : i < length es = omega (arith, there.0, length-keys es) in
    record { count = entry.1; there = slice_get-get_or es i (key, 0) within ∙ ap (λ (k : _). Some (k, entry.1)) is }

pub none_cases : {K : Type 0} (p : K → Bool) (ks : List K) → None ≡ position p ks → length ks ≤ position_or_len p ks
none_cases p ks e = grind (arith, common_steps)

-- a key that is found nowhere
pub not_found : {K : Type 0} (p : K → Bool) (key : K) (es : List (K × ℕ)) → p key ≡ true → None ≡ position p (keys_of es) → (place : ℕ) → IsAt es key place → ⊥
not_found p key es passes e place at =
    let within = slice_get_within es place (key, at.count) at.there in
    let all = none_cases p (keys_of es) e in
    let fails = fails_before_first p (keys_of es) place key (omega (arith, within, all, length-keys es)) in
    let is : get_or (keys_of es) place key ≡ key = get_or-keys es place key 0 ∙ ap (λ (x : _). x.0) (get_or_from_slice_get es place (key, at.count) (key, 0) at.there) in
    true≢false (sym passes ∙ ap p (sym is) ∙ fails)

-- a count that is written
pub classes-set : (es : List ((ℕ × ℕ) × ℕ)) (i w : ℕ) → classes (set_value_at es i w) ≡ classes es
classes-set [] i w = refl
classes-set (e ∷ es) zero w = refl
classes-set (e ∷ es) (suc i) w = ap (λ (cs : List ℕ). e.0.0 ∷ cs) (classes-set es i w)

-- the classes are told by the keys alone
pub classes-keys : (es others : List ((ℕ × ℕ) × ℕ)) → keys_of others ≡ keys_of es → classes others ≡ classes es
classes-keys es others e = told others ∙ ap (λ (ks : List (ℕ × ℕ)). map (λ (k : ℕ × ℕ). k.0) ks) e ∙ sym (told es)
  where
    told : (es : List ((ℕ × ℕ) × ℕ)) → classes es ≡ map (λ (k : ℕ × ℕ). k.0) (keys_of es)
    told [] = refl
    told (e ∷ es) = ap (λ (cs : List ℕ). e.0.0 ∷ cs) (told es)

pub raised_at : {K : Type 0} (es : List (K × ℕ)) (place : ℕ) (key : K) (count by : ℕ) → slice_get es place ≡ Some (key, count) → IsRaised es place by (set_value_at es place (count + by))
raised_at [] place key count by e = absurd (omega (arith, slice_get_within [] place (key, count) e))
raised_at (x ∷ es) zero key count by e =
    let is : x ≡ (key, count) = cc in
    record { front = []; key = key; count = count; back = es; at = refl; low_is = ap (λ (y : _). y ∷ es) is; high_is = ap (λ (y : _). (y.0, count + by) ∷ es) is }
raised_at (x ∷ es) (suc place) key count by e =
    let r = raised_at es place key count by e in
    record {
      front = x ∷ r.front;
      key = r.key;
      count = r.count;
      back = r.back;
      at = ap suc r.at;
      low_is = ap (λ (ys : _). x ∷ ys) r.low_is;
      high_is = ap (λ (ys : _). x ∷ ys) r.high_is;
    }

-- what is lowered at a place is higher there before
pub lowered_at : {K : Type 0} (es : List (K × ℕ)) (place : ℕ) (key : K) (count by : ℕ) → by ≤ count → slice_get es place ≡ Some (key, count) → IsRaised (set_value_at es place (count - by)) place by es
lowered_at [] place key count by l e = absurd (omega (arith, slice_get_within [] place (key, count) e))
lowered_at (x ∷ es) zero key count by l e =
    let is : x ≡ (key, count) = cc in
    let back : count ≡ count - by + by = omega arith in
    record { front = []; key = key; count = count - by; back = es; at = refl; low_is = ap (λ (y : _). (y.0, count - by) ∷ es) is; high_is = ap (λ (y : _). y ∷ es) is ∙ ap (λ (n : ℕ). (key, n) ∷ es) back }
lowered_at (x ∷ es) (suc place) key count by l e =
    let r = lowered_at es place key count by l e in
    record {
      front = x ∷ r.front;
      key = r.key;
      count = r.count;
      back = r.back;
      at = ap suc r.at;
      low_is = ap (λ (ys : _). x ∷ ys) r.low_is;
      high_is = ap (λ (ys : _). x ∷ ys) r.high_is;
    }

pub length-written : {K : Type 0} (es : List (K × ℕ)) (i w : ℕ) → length (set_value_at es i w) ≡ length es
length-written [] i w = refl
length-written (e ∷ es) zero w = refl
length-written (e ∷ es) (suc i) w = ap suc (length-written es i w)

-- pairs of numbers that are equal by a test
pub pair_exact : (g m : ℕ) (k : ℕ × ℕ) → (nat_eq g k.0 && nat_eq m k.1) ≡ true → k ≡ (g, m)
pair_exact g m k e =
    let parts = and_parts (nat_eq g k.0) (nat_eq m k.1) e in
    ap (λ (n : ℕ). (n, k.1)) (sym (eqb-true g k.0 parts.0)) ∙ ap (λ (n : ℕ). (g, n)) (sym (eqb-true m k.1 parts.1))

pub pair_passes : (g m : ℕ) → (nat_eq g g && nat_eq m m) ≡ true
pair_passes g m = and_from (nat_eq g g) (nat_eq m m) (eq-eqb g g refl) (eq-eqb m m refl)

-- a new entry, and where it stands
pub grows_one : {K : Type 0} (old new : List (K × ℕ)) (key : K) → new ≡ old ++ (key, 0) ∷ [] → Grows old new
grows_one {K} old new key e = record { more = (key, 0) ∷ []; are = e; zeros = All-cons (λ (e : K × ℕ). e.1 ≡ 0) (key, 0) [] refl (All-nil (λ (e : K × ℕ). e.1 ≡ 0)) }

pub at_end : {K : Type 0} (old new : List (K × ℕ)) (key : K) (place : ℕ) → place ≡ length old → new ≡ old ++ (key, 0) ∷ [] → IsAt new key place
at_end {K} old new key place e f = record { count = 0; there = ap (λ (es : _). slice_get es place) f ∙ slice_get-get_or (old ++ (key, 0) ∷ []) place (key, 0) (omega (arith, e, length-append old ((key, 0) ∷ []))) ∙ ap Some (get_or_push old (key, 0) (key, 0) place (sym e)) }

pub grows_none : {K : Type 0} (old : List (K × ℕ)) → Grows old old
grows_none {K} old = record { more = []; are = sym (append-nil old); zeros = All-nil (λ (e : K × ℕ). e.1 ≡ 0) }

pub length-pushed : {K : Type 0} (old new : List (K × ℕ)) (key : K) → new ≡ old ++ (key, 0) ∷ [] → length new ≡ length old + 1
length-pushed old new key e = ap length e ∙ length-append old ((key, 0) ∷ [])

pub classes-pushed : (old new : List ((ℕ × ℕ) × ℕ)) (group member : ℕ) → new ≡ old ++ ((group, member), 0) ∷ [] → classes new ≡ classes old ++ group ∷ []
classes-pushed old new group member e = ap classes e ∙ map-append (λ (e : (ℕ × ℕ) × ℕ). e.0.0) old (((group, member), 0) ∷ [])

-- keys that differ stand at one place each
pub at_key : {K : Type 0} (es : List (K × ℕ)) (key : K) (i : ℕ) → IsAt es key i → (i < length (keys_of es)) × (get_or (keys_of es) i key ≡ key)
at_key es key i at =
    let within = slice_get_within es i (key, at.count) at.there in
    (omega (arith, within, length-keys es), get_or-keys es i key 0 ∙ ap (λ (x : _). x.0) (get_or_from_slice_get es i (key, at.count) (key, 0) at.there))

pub once_of_distinct : {K : Type 0} (eq : K → K → Bool) (es : List (K × ℕ)) → ((k : K) → eq k k ≡ true) → IsDistinct eq (keys_of es) → AreOnce es
once_of_distinct {K} eq es own distinct key i j h g = by (cases_order i j)
  where
    apart : (i j : ℕ) → IsAt es key i → IsAt es key j → i < j → ⊥
    apart i j h g l =
        let a = at_key es key i h in
        let b = at_key es key j g in
        true≢false (sym (own key) ∙ ap (λ (k : K). eq k key) (sym a.1) ∙ ap (eq (get_or (keys_of es) i key)) (sym b.1) ∙ apart_from_distinct eq (keys_of es) i j key distinct l b.0)

    by : (i ≡ j) ⊎ ((i < j) ⊎ (j < i)) → i ≡ j
    by (inl e) = e
    by (inr (inl l)) = absurd (apart i j h g l)
    by (inr (inr l)) = absurd (apart j i g h l)

-- the new key is below the limits
pub pushed_below : (old new : List ((ℕ × ℕ) × ℕ)) (group member g m : ℕ) → new ≡ old ++ ((group, member), 0) ∷ [] → HasKeysBelow g m old → group < g → member < m → HasKeysBelow g m new
pushed_below old new group member g m e below l n key k at = by (cases_lt k (length old))
  where
    there : slice_get (old ++ ((group, member), 0) ∷ []) k ≡ Some (key, at.count)
    there = ap (λ (es : List ((ℕ × ℕ) × ℕ)). slice_get es k) (sym e) ∙ at.there

    by : (k < length old) ⊎ (length old ≤ k) → (key.0 < g) × (key.1 < m)
    by (inl low) =
        let is : get_or old k (key, at.count) ≡ (key, at.count) =
        sym (get_or_append_left old (((group, member), 0) ∷ []) (key, at.count) k low) ∙ get_or_from_slice_get (old ++ ((group, member), 0) ∷ []) k (key, at.count) (key, at.count) there in
        below key k (record { count = at.count; there = slice_get-get_or old k (key, at.count) low ∙ ap Some is })
    by (inr high) =
        let within = slice_get_within (old ++ ((group, member), 0) ∷ []) k (key, at.count) there in
        let last : length old ≡ k = omega (arith, high, within, length-append old (((group, member), 0) ∷ [])) in
        let is : (group, member) ≡ key =
        ap (λ (x : (ℕ × ℕ) × ℕ). x.0) (sym (get_or_push old ((group, member), 0) (key, at.count) k last) ∙ get_or_from_slice_get (old ++ ((group, member), 0) ∷ []) k (key, at.count) (key, at.count) there) in
        (subst (λ (x : ℕ × ℕ). x.0 < g) is l, subst (λ (x : ℕ × ℕ). x.1 < m) is n)

-- a pair whose key has these numbers
pub pair_at_place : (es : List ((ℕ × ℕ) × ℕ)) (key : ℕ × ℕ) (count place group member : ℕ) → slice_get es place ≡ Some (key, count) → key.0 ≡ group → key.1 ≡ member → IsAt es (group, member) place
pair_at_place es key count place group member there e f = rw (sym e, sym f) (record { count = count; there = there })

-- the entry whose count stands at a place
pub counted_at : {K : Type 0} (es : List (K × ℕ)) (place : ℕ) (key : K) (count : ℕ) → slice_get (map (λ (e : K × ℕ). e.1) es) place ≡ Some count → slice_get es place ≡ Some (get_or (keys_of es) place key, count)
counted_at [] place key count e = absurd (omega (arith, slice_get_within [] place count e))
counted_at (x ∷ es) zero key count e = let is : x.1 ≡ count = cc in ap (λ (n : ℕ). Some (x.0, n)) is
counted_at (x ∷ es) (suc place) key count e = counted_at es place key count e
