-- What counts add up to.
use Rattle.std.proofs.Common.{◌≡◌, ◌≢◌, ℕ, zero, suc, ◌+◌, ◌≤◌, Bool, true, false, if◌then◌else◌, Some, List, [], ◌∷◌, ◌++◌, length, map, slice_get, refl, sym, ap, ◌∙◌, arith}
use Rattle.std.specs.List.{All}
use Rattle.std.proofs.lemmas.List.Elements.{All-head, All-tail}
use Rattle.std.proofs.lemmas.Option.{slice_get_within}
use Rattle.mt_counts.specs.Totals.{total}
use Rattle.mt_counts.specs.Tallies.{IsAt, Grows, IsRaised}

-- the part of one entry
abbrev pub part : {K : Type 0} → (K → Bool) → K → ℕ → ℕ
part p key n = if p key then n else 0

pub total-append : {K : Type 0} (p : K → Bool) (xs ys : List (K × ℕ)) → total p (xs ++ ys) ≡ total p xs + total p ys
total-append p [] ys = omega arith
total-append p (x ∷ xs) ys = omega (arith, total-append p xs ys)

part-zero : {K : Type 0} (p : K → Bool) (key : K) → part p key 0 ≡ 0
part-zero p key = by (p key)
  where
    by : (b : Bool) → ◌≡◌ {A = ℕ} (if b then 0 else 0) 0
    by true = refl
    by false = refl

pub total-zeros : {K : Type 0} (p : K → Bool) (xs : List (K × ℕ)) → All (λ e. e.1 ≡ 0) xs → total p xs ≡ 0
total-zeros p [] h = refl
total-zeros {K} p (x ∷ xs) h =
    let here : part p x.0 x.1 ≡ 0 = ap (λ (n : ℕ). part p x.0 n) (All-head (λ (e : K × ℕ). e.1 ≡ 0) x xs h) ∙ part-zero p x.0 in
    omega (arith, here, total-zeros p xs (All-tail (λ (e : K × ℕ). e.1 ≡ 0) x xs h))

-- places that are added with no count change no total
pub total-grown : {K : Type 0} (p : K → Bool) (old new : List (K × ℕ)) → Grows old new → total p new ≡ total p old
total-grown p old new h = omega (arith, ap (λ (es : _). total p es) h.are, total-append p old h.more, total-zeros p h.more h.zeros)

part-plus : {K : Type 0} (p : K → Bool) (key : K) (m n : ℕ) → part p key (m + n) ≡ part p key m + part p key n
part-plus p key m n = by (p key)
  where
    by : (b : Bool) → (if b then m + n else 0) ≡ (if b then m else 0) + (if b then n else 0)
    by true = refl
    by false = refl

pub total-raised : {K : Type 0} (p : K → Bool) (low high : List (K × ℕ)) (place by : ℕ) (r : IsRaised low place by high) → total p high ≡ total p low + part p r.key by
total-raised p low high place by r =
    omega (arith, ap (λ (es : _). total p es) r.high_is, ap (λ (es : _). total p es) r.low_is, total-append p r.front ((r.key, r.count + by) ∷ r.back), total-append p r.front ((r.key, r.count) ∷ r.back), part-plus p r.key r.count by)

-- the key that is raised
pub raised_key : {K : Type 0} (low high : List (K × ℕ)) (place by : ℕ) (r : IsRaised low place by high) (key : K) → IsAt low key place → r.key ≡ key
raised_key low high place by r key at = ap (λ (e : _). e.0) (same r.front (r.key, r.count) r.back (key, at.count) (ap (λ (k : ℕ). slice_get (r.front ++ (r.key, r.count) ∷ r.back) k) r.at ∙ ap (λ (es : _). slice_get es place) (sym r.low_is) ∙ at.there))
  where
    same : {X : Type 0} (front : List X) (x : X) (back : List X) (y : X) → slice_get (front ++ x ∷ back) (length front) ≡ Some y → x ≡ y
    same [] x back y e = cc
    same (z ∷ front) x back y e = same front x back y e

-- one count is no more than a total that has it
pub count-within : {K : Type 0} (p : K → Bool) (es : List (K × ℕ)) (key : K) (n k : ℕ) → slice_get es k ≡ Some (key, n) → p key ≡ true → n ≤ total p es
count-within p [] key n k e h = absurd (omega (arith, slice_get_within [] k (key, n) e))
count-within p (x ∷ es) key n zero e h =
    let is : x ≡ (key, n) = cc in
    let here : part p x.0 x.1 ≡ n = ap (λ (y : _). part p y.0 y.1) is ∙ ap (λ (b : Bool). if b then n else 0) h in
    omega (arith, here)
count-within p (x ∷ es) key n (suc k) e h = omega (arith, count-within p es key n k e h)

-- the same test
pub total-same : {K : Type 0} (p q : K → Bool) (es : List (K × ℕ)) → ((key : K) (n k : ℕ) → slice_get es k ≡ Some (key, n) → p key ≡ q key) → total p es ≡ total q es
total-same p q [] h = refl
total-same {K} p q (x ∷ es) h =
    let here : part p x.0 x.1 ≡ part q x.0 x.1 = ap (λ (b : Bool). if b then x.1 else 0) (h x.0 x.1 0 refl) in
    omega (arith, here, total-same p q es (λ key n k e. h key n (suc k) e))

-- keys that are renamed
pub total-map : {K L : Type 0} (d : K → L) (p : L → Bool) (es : List (K × ℕ)) → total p (map (λ e. (d e.0, e.1)) es) ≡ total (λ k. p (d k)) es
total-map d p [] = refl
total-map d p (x ∷ es) = omega (arith, total-map d p es)

-- no key passes
pub total-none : {K : Type 0} (p : K → Bool) (es : List (K × ℕ)) → ((key : K) (n k : ℕ) → slice_get es k ≡ Some (key, n) → p key ≡ false) → total p es ≡ 0
total-none p [] h = refl
total-none {K} p (x ∷ es) h =
    let here : part p x.0 x.1 ≡ 0 = ap (λ (b : Bool). if b then x.1 else 0) (h x.0 x.1 0 refl) in
    omega (arith, here, total-none p es (λ key n k e. h key n (suc k) e))

-- one key alone passes, at one place
pub total-one : {K : Type 0} (p : K → Bool) (es : List (K × ℕ)) (key : K) (n place : ℕ) → slice_get es place ≡ Some (key, n) → p key ≡ true →
    ((other : K) (m k : ℕ) → slice_get es k ≡ Some (other, m) → k ≢ place → p other ≡ false) → total p es ≡ n
total-one p [] key n place e h others = absurd (omega (arith, slice_get_within [] place (key, n) e))
total-one p (x ∷ es) key n zero e h others =
    let is : x ≡ (key, n) = cc in
    let here : part p x.0 x.1 ≡ n = ap (λ (y : _). part p y.0 y.1) is ∙ ap (λ (b : Bool). if b then n else 0) h in
    omega (arith, here, total-none p es (λ other m k f. others other m (suc k) f (λ (z : suc k ≡ 0). absurd (omega (arith, z)))))
total-one p (x ∷ es) key n (suc place) e h others =
    let here : part p x.0 x.1 ≡ 0 = ap (λ (b : Bool). if b then x.1 else 0) (others x.0 x.1 0 refl (λ (z : 0 ≡ suc place). absurd (omega (arith, z)))) in
    omega (arith, here, total-one p es key n place e h (λ other m k f ne. others other m (suc k) f (λ (z : suc k ≡ suc place). ne (omega (arith, z)))))
