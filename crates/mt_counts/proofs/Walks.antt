-- A walk down the chain of a class.
use Rattle.std.proofs.Common.{◌≡◌, ◌≢◌, ℕ, ◌-◌, ◌<◌, ◌≤◌, List, [], ◌∷◌, ◌++◌, length, get_or, slice_get, Some, sym, ◌∙◌, ap, subst, arith, ◌⊎◌, inl, inr}
use Rattle.std.specs.List.{AllPairs, Contains}
use Rattle.std.proofs.lemmas.Bool.{cases_lt}
use Rattle.std.proofs.lemmas.List.{length-map, get_or-map}
use Rattle.std.proofs.lemmas.List.Elements.{Contains-append_left, Contains-push, Contains-push_cases, Contains-get_or}
use Rattle.std.proofs.lemmas.List.Quantifiers.{all_pairs_push}
use Rattle.std.proofs.lemmas.Option.{slice_get_within, get_or_from_slice_get}
use Rattle.mt_counts.specs.Tallies.{IsPlaced, ListsOnce}
use Rattle.mt_counts.specs.Chains.{IsLast, HasClass, AreChained, classes}

-- the walk stands at the class, and has listed the places that it has passed
pub record IsWalked (entries : List ((ℕ × ℕ) × ℕ)) (group below : ℕ) (places : List ℕ) : Type 0 where
  pub bound : below ≤ length entries
  pub here : 0 < below → HasClass (classes entries) group (below - 1)
  pub once : AllPairs (λ x y. x ≢ y) places
  pub only : (k : ℕ) → Contains places k → IsPlaced entries group k × (below ≤ k)
  pub each : (k : ℕ) → IsPlaced entries group k → below ≤ k → Contains places k

length-classes : (entries : List ((ℕ × ℕ) × ℕ)) → length (classes entries) ≡ length entries
length-classes entries = length-map entries (λ e. e.0.0)

class_of : (entries : List ((ℕ × ℕ) × ℕ)) (group k : ℕ) → IsPlaced entries group k → HasClass (classes entries) group k
class_of entries group k p =
    let within = slice_get_within entries k ((group, p.member), p.count) p.there in
    get_or-map (λ (e : (ℕ × ℕ) × ℕ). e.0.0) entries k ((group, p.member), p.count) 0 within ∙
    ap (λ (e : (ℕ × ℕ) × ℕ). e.0.0) (get_or_from_slice_get entries k ((group, p.member), p.count) ((group, p.member), p.count) p.there)

pub walked_first : (entries : List ((ℕ × ℕ) × ℕ)) (belows ends : List ℕ) (group below : ℕ) (places : List ℕ) → AreChained (classes entries) belows ends → below ≡ get_or ends group 0 → places ≡ [] → IsWalked entries group below places
walked_first entries belows ends group below places chained e f =
    let last : IsLast (HasClass (classes entries) group) (length (classes entries)) below = subst (IsLast (HasClass (classes entries) group) (length (classes entries))) (sym e) (chained.ends_are group) in
    let count = length-classes entries in
    rw f (record {
      bound = omega (arith, last.bound, count);
      here = last.here;
      once = λ i j d l m. absurd (omega (arith, m));
      only = λ k h. absurd (omega (arith, h.1));
      each = λ k p l. absurd (last.none k l (omega (arith, slice_get_within entries k ((group, p.member), p.count) p.there, count)) (class_of entries group k p));
    })

module _ (entries : List ((ℕ × ℕ) × ℕ)) (belows ends : List ℕ) (group below next : ℕ) (places : List ℕ) (chained : AreChained (classes entries) belows ends) (some : 0 < below)
    (walked : IsWalked entries group below places) (e : next ≡ get_or belows (below - 1) 0) where
  last_next : IsLast (HasClass (classes entries) group) (below - 1) next
  last_next =
      let is : IsLast (HasClass (classes entries) (get_or (classes entries) (below - 1) 0)) (below - 1) (get_or belows (below - 1) 0) = chained.belows_are (below - 1) (omega (arith, walked.bound, length-classes entries)) in
      subst (IsLast (HasClass (classes entries) group) (below - 1)) (sym e)
      (subst (λ (c : ℕ). IsLast (HasClass (classes entries) c) (below - 1) (get_or belows (below - 1) 0)) (walked.here some) is)

  -- a place that the walk comes to next is behind it, or is the one where it stands
  passed : (k : ℕ) → IsPlaced entries group k → next ≤ k → (below ≤ k) ⊎ (k ≡ below - 1)
  passed k p l = by (cases_lt k (below - 1)) (cases_lt k below)
    where
      by : (k < below - 1) ⊎ (below - 1 ≤ k) → (k < below) ⊎ (below ≤ k) → (below ≤ k) ⊎ (k ≡ below - 1)
      by (inl low) either = absurd (last_next.none k l low (class_of entries group k p))
      by (inr high) (inr past) = inl past
      by (inr high) (inl low) = inr (omega arith)

  -- the place where the walk stands is listed
  pub walked_more : IsPlaced entries group (below - 1) → IsWalked entries group next (places ++ (below - 1) ∷ [])
  walked_more here = record {
    bound = omega (arith, last_next.bound, walked.bound);
    here = last_next.here;
    once = all_pairs_push (λ (x y : ℕ). x ≢ y) places (below - 1) walked.once (λ k d l. let high = (walked.only (get_or places k d) (Contains-get_or places k d l)).1 in λ (same : get_or places k d ≡ below - 1). absurd (omega (arith, high, same, some)));
    only = λ k h. by k (Contains-push_cases places (below - 1) k h);
    each = λ k p l. listed k (passed k p l) p;
  }
    where
      by : (k : ℕ) → Contains places k ⊎ (below - 1 ≡ k) → IsPlaced entries group k × (next ≤ k)
      by k (inl old) = ((walked.only k old).0, omega (arith, (walked.only k old).1, last_next.bound))
      by k (inr same) = (subst (IsPlaced entries group) same here, omega (arith, last_next.bound, same))

      listed : (k : ℕ) → (below ≤ k) ⊎ (k ≡ below - 1) → IsPlaced entries group k → Contains (places ++ (below - 1) ∷ []) k
      listed k (inl past) p = Contains-append_left places ((below - 1) ∷ []) k (walked.each k p past)
      listed k (inr same) p = subst (Contains (places ++ (below - 1) ∷ [])) (sym same) (Contains-push places (below - 1))

  -- or its count is 0
  pub walked_past : (IsPlaced entries group (below - 1) → ⊥) → IsWalked entries group next places
  walked_past not_here = record {
    bound = omega (arith, last_next.bound, walked.bound);
    here = last_next.here;
    once = walked.once;
    only = λ k h. ((walked.only k h).0, omega (arith, (walked.only k h).1, last_next.bound));
    each = λ k p l. listed k (passed k p l) p;
  }
    where
      listed : (k : ℕ) → (below ≤ k) ⊎ (k ≡ below - 1) → IsPlaced entries group k → Contains places k
      listed k (inl past) p = walked.each k p past
      listed k (inr same) p = absurd (not_here (subst (IsPlaced entries group) same p))

-- the entry at the place where the walk stands
pub placed_here : (entries : List ((ℕ × ℕ) × ℕ)) (group below : ℕ) (places : List ℕ) (entry : (ℕ × ℕ) × ℕ) → IsWalked entries group below places → 0 < below → slice_get entries (below - 1) ≡ Some entry → 0 < entry.1 → IsPlaced entries group (below - 1)
placed_here entries group below places entry walked some there count =
    let within = slice_get_within entries (below - 1) entry there in
    let class : entry.0.0 ≡ group = ap (λ (e : (ℕ × ℕ) × ℕ). e.0.0) (sym (get_or_from_slice_get entries (below - 1) entry entry there)) ∙ sym (get_or-map (λ (e : (ℕ × ℕ) × ℕ). e.0.0) entries (below - 1) entry 0 within) ∙ walked.here some in
    record { member = entry.0.1; count = entry.1; there = there ∙ ap (λ (g : ℕ). Some ((g, entry.0.1), entry.1)) class; some = count }

pub not_placed : (entries : List ((ℕ × ℕ) × ℕ)) (group place : ℕ) (entry : (ℕ × ℕ) × ℕ) → slice_get entries place ≡ Some entry → entry.1 ≡ 0 → IsPlaced entries group place → ⊥
not_placed entries group place entry there none p =
    let same : Some entry ≡ Some ((group, p.member), p.count) = sym there ∙ p.there in
    let is : entry ≡ ((group, p.member), p.count) = cc in
    omega (arith, ap (λ (e : (ℕ × ℕ) × ℕ). e.1) is, none, p.some)

pub walked_all : (entries : List ((ℕ × ℕ) × ℕ)) (group below : ℕ) (places : List ℕ) → IsWalked entries group below places → below ≡ 0 → ListsOnce (IsPlaced entries group) places
walked_all entries group below places walked end = record { once = walked.once; only = λ k h. (walked.only k h).0; each = λ k p. walked.each k p (omega (arith, end)) }
