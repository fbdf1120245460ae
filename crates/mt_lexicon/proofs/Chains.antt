-- Numbers in chains by the bucket of their hash.
use Rattle.std.proofs.Common.{◌≡◌, ℕ, ◌+◌, ◌-◌, ◌<◌, ◌≤◌, List, [], ◌∷◌, ◌++◌, length, get_or, set, refl, sym, ◌∙◌, ap, subst, arith, ◌⊎◌, inl, inr, length-append}
use Rattle.std.proofs.lemmas.Bool.{cases_lt, cases_eq}
use Rattle.std.proofs.lemmas.List.{get_or_append_left, get_or_push, length-set, get_or-set_same, get_or-set_other, length-map, map-append, get_or-map}
use Rattle.mt_lexicon.specs.Hashed.{IsLast, HasHash, IsInBucket, AreChained, bucket_of, hashes, belows}
use Rattle.mt_lexicon.specs.declared.table.Link.{Link}

-- ---- the last of some numbers

-- what is last by one property, and below it by another that has fewer numbers, is last by that one
pub further : (P Q : ℕ → Type 0) (number middle below : ℕ) → ((k : ℕ) → k < number → P k → Q k) → IsLast Q number middle → IsLast P middle below → IsLast P number below
further P Q number middle below implied h g = record {
  bound = omega (arith, h.bound, g.bound);
  here = g.here;
  none = λ k l m p. by k l m p (cases_lt k middle);
}
  where
    by : (k : ℕ) → below ≤ k → k < number → P k → (k < middle) ⊎ (middle ≤ k) → ⊥
    by k l m p (inl low) = g.none k l low p
    by k l m p (inr high) = h.none k high m (implied k m p)

-- a property may be put in the place of one that the same numbers have
same_last : (P Q : ℕ → Type 0) (number below : ℕ) → ((k : ℕ) → k < number → P k → Q k) → ((k : ℕ) → k < number → Q k → P k) → IsLast P number below → IsLast Q number below
same_last P Q number below there back h = record {
  bound = h.bound;
  here = λ l. there (below - 1) (omega (arith, h.bound)) (h.here l);
  none = λ k l m q. h.none k l m (back k m q);
}

-- ---- a walk down a chain

-- the walk is in the bucket of the hash, and has passed no number that has the hash
pub record HasPassed (buckets : ℕ) (hashes : List ℕ) (hash from below : ℕ) : Type 0 where
  pub bound : below ≤ from
  pub here : 0 < below → IsInBucket hashes buckets (bucket_of buckets hash) (below - 1)
  pub none : (k : ℕ) → below ≤ k → k < from → HasHash hashes hash k → ⊥

pub one_passed : (buckets : ℕ) (hashes belows ends : List ℕ) (hash from below next : ℕ) → AreChained buckets hashes belows ends → from ≤ length hashes → 0 < below → HasPassed buckets hashes hash from below →
    (get_or hashes (below - 1) 0 ≡ hash → ⊥) → next ≡ get_or belows (below - 1) 0 → HasPassed buckets hashes hash from next
one_passed buckets hashes belows ends hash from below next chained within some h other e =
    let Same : ℕ → Type 0 = IsInBucket hashes buckets (bucket_of buckets hash) in
    let is : IsLast (IsInBucket hashes buckets (bucket_of buckets (get_or hashes (below - 1) 0))) (below - 1) (get_or belows (below - 1) 0) = chained.belows_are (below - 1) (omega (arith, h.bound)) in
    let last : IsLast Same (below - 1) next = subst (IsLast Same (below - 1)) (sym e) (subst (λ (b : ℕ). IsLast (IsInBucket hashes buckets b) (below - 1) (get_or belows (below - 1) 0)) (h.here some) is) in
    record {
      bound = omega (arith, h.bound, last.bound);
      here = last.here;
      none = λ k l m p. by last k l m p (cases_lt k (below - 1)) (cases_lt k below);
    }
  where
    by : IsLast (IsInBucket hashes buckets (bucket_of buckets hash)) (below - 1) next → (k : ℕ) → next ≤ k → k < from → HasHash hashes hash k → (k < below - 1) ⊎ (below - 1 ≤ k) → (k < below) ⊎ (below ≤ k) → ⊥
    by last k l m p (inl low) either = last.none k l low (ap (bucket_of buckets) p)
    by last k l m p (inr high) (inr past) = h.none k past m p
    by last k l m p (inr high) (inl low) = let e : k ≡ below - 1 = omega arith in other (sym (ap (λ (n : ℕ). get_or hashes n 0) e) ∙ p)

-- ---- one number more

module _ (buckets : ℕ) (hashes belows ends : List ℕ) (hash : ℕ) (chained : AreChained buckets hashes belows ends) where
  kept_there : (bucket k : ℕ) → k < length hashes → IsInBucket hashes buckets bucket k → IsInBucket (hashes ++ hash ∷ []) buckets bucket k
  kept_there bucket k l h = ap (bucket_of buckets) (get_or_append_left hashes (hash ∷ []) 0 k l) ∙ h

  kept_back : (bucket k : ℕ) → k < length hashes → IsInBucket (hashes ++ hash ∷ []) buckets bucket k → IsInBucket hashes buckets bucket k
  kept_back bucket k l h = ap (bucket_of buckets) (sym (get_or_append_left hashes (hash ∷ []) 0 k l)) ∙ h

  kept_last : (bucket number below : ℕ) → number ≤ length hashes → IsLast (IsInBucket hashes buckets bucket) number below → IsLast (IsInBucket (hashes ++ hash ∷ []) buckets bucket) number below
  kept_last bucket number below l h =
      same_last (IsInBucket hashes buckets bucket) (IsInBucket (hashes ++ hash ∷ []) buckets bucket) number below (λ k m p. kept_there bucket k (omega arith) p) (λ k m p. kept_back bucket k (omega arith) p) h

  new_there : bucket_of buckets (get_or (hashes ++ hash ∷ []) (length hashes) 0) ≡ bucket_of buckets hash
  new_there = ap (bucket_of buckets) (get_or_push hashes hash 0 (length hashes) refl)

  -- the end of the bucket that gets the number
  own_end : IsLast (IsInBucket (hashes ++ hash ∷ []) buckets (bucket_of buckets hash)) (length hashes + 1) (length hashes + 1)
  own_end = record {
    bound = omega arith;
    here = λ l. let e : length hashes ≡ length hashes + 1 - 1 = omega arith in ap (λ (n : ℕ). bucket_of buckets (get_or (hashes ++ hash ∷ []) n 0)) (sym e) ∙ new_there;
    none = λ k l m p. absurd (omega arith);
  }

  -- and of another one
  other_end : (bucket below : ℕ) → (bucket ≡ bucket_of buckets hash → ⊥) → IsLast (IsInBucket hashes buckets bucket) (length hashes) below → IsLast (IsInBucket (hashes ++ hash ∷ []) buckets bucket) (length hashes + 1) below
  other_end bucket below other h = let kept = kept_last bucket (length hashes) below (omega arith) h in record {
    bound = omega (arith, h.bound);
    here = kept.here;
    none = λ k l m p. by kept k l m p (cases_lt k (length hashes));
  }
    where
      by : IsLast (IsInBucket (hashes ++ hash ∷ []) buckets bucket) (length hashes) below → (k : ℕ) → below ≤ k → k < length hashes + 1 → IsInBucket (hashes ++ hash ∷ []) buckets bucket k → (k < length hashes) ⊎ (length hashes ≤ k) → ⊥
      by kept k l m p (inl low) = kept.none k l low p
      by kept k l m p (inr high) =
          let e : length hashes ≡ k = omega arith in
          other (sym p ∙ ap (λ (n : ℕ). bucket_of buckets (get_or (hashes ++ hash ∷ []) n 0)) (sym e) ∙ new_there)

  ends_more : (own : ℕ) → own ≡ bucket_of buckets hash → own < buckets → (bucket : ℕ) → bucket < buckets →
      IsLast (IsInBucket (hashes ++ hash ∷ []) buckets bucket) (length hashes + 1) (get_or (set ends own (length hashes + 1)) bucket 0)
  ends_more own e low bucket l = by (cases_eq bucket own)
    where
      by : (bucket ≡ own) ⊎ (bucket ≡ own → ⊥) → IsLast (IsInBucket (hashes ++ hash ∷ []) buckets bucket) (length hashes + 1) (get_or (set ends own (length hashes + 1)) bucket 0)
      by (inl same) =
          let at : get_or (set ends own (length hashes + 1)) bucket 0 ≡ length hashes + 1 =
          ap (λ (n : ℕ). get_or (set ends own (length hashes + 1)) n 0) same ∙ get_or-set_same ends own (length hashes + 1) 0 (omega (arith, chained.count)) in
          subst (IsLast (IsInBucket (hashes ++ hash ∷ []) buckets bucket) (length hashes + 1)) (sym at)
          (subst (λ (b : ℕ). IsLast (IsInBucket (hashes ++ hash ∷ []) buckets b) (length hashes + 1) (length hashes + 1)) (sym (same ∙ e)) own_end)
      by (inr other) =
          let at : get_or (set ends own (length hashes + 1)) bucket 0 ≡ get_or ends bucket 0 = get_or-set_other ends own bucket (length hashes + 1) 0 other in
          subst (IsLast (IsInBucket (hashes ++ hash ∷ []) buckets bucket) (length hashes + 1)) (sym at)
          (other_end bucket (get_or ends bucket 0) (λ f. other (f ∙ sym e)) (chained.ends_are bucket l))

  belows_more : (own : ℕ) → own ≡ bucket_of buckets hash → own < buckets → (k : ℕ) → k < length hashes + 1 →
      IsLast (IsInBucket (hashes ++ hash ∷ []) buckets (bucket_of buckets (get_or (hashes ++ hash ∷ []) k 0))) k (get_or (belows ++ get_or ends own 0 ∷ []) k 0)
  belows_more own e low k l = by (cases_lt k (length hashes))
    where
      Wanted : ℕ → ℕ → ℕ → Type 0
      Wanted bucket number below = IsLast (IsInBucket (hashes ++ hash ∷ []) buckets bucket) number below

      by : (k < length hashes) ⊎ (length hashes ≤ k) → Wanted (bucket_of buckets (get_or (hashes ++ hash ∷ []) k 0)) k (get_or (belows ++ get_or ends own 0 ∷ []) k 0)
      by (inl old) =
          let at : get_or (belows ++ get_or ends own 0 ∷ []) k 0 ≡ get_or belows k 0 = get_or_append_left belows (get_or ends own 0 ∷ []) 0 k (omega (arith, chained.each)) in
          let same : get_or (hashes ++ hash ∷ []) k 0 ≡ get_or hashes k 0 = get_or_append_left hashes (hash ∷ []) 0 k old in
          subst (Wanted (bucket_of buckets (get_or (hashes ++ hash ∷ []) k 0)) k) (sym at)
          (subst (λ (h : ℕ). Wanted (bucket_of buckets h) k (get_or belows k 0)) (sym same)
          (kept_last (bucket_of buckets (get_or hashes k 0)) k (get_or belows k 0) (omega arith) (chained.belows_are k old)))
      by (inr new) =
          let is : length hashes ≡ k = omega arith in
          let at : get_or (belows ++ get_or ends own 0 ∷ []) (length hashes) 0 ≡ get_or ends own 0 = get_or_push belows (get_or ends own 0) 0 (length hashes) chained.each in
          subst (λ (n : ℕ). Wanted (bucket_of buckets (get_or (hashes ++ hash ∷ []) n 0)) n (get_or (belows ++ get_or ends own 0 ∷ []) n 0)) is
          (subst (Wanted (bucket_of buckets (get_or (hashes ++ hash ∷ []) (length hashes) 0)) (length hashes)) (sym at)
          (subst (λ (b : ℕ). Wanted b (length hashes) (get_or ends own 0)) (e ∙ sym new_there)
          (kept_last own (length hashes) (get_or ends own 0) (omega arith) (chained.ends_are own low))))

  pub chained_more : (own next : ℕ) → own ≡ bucket_of buckets hash → own < buckets → length hashes < buckets → next ≡ length hashes + 1 →
      AreChained buckets (hashes ++ hash ∷ []) (belows ++ get_or ends own 0 ∷ []) (set ends own next)
  chained_more own next e low room f =
      let more : length (hashes ++ hash ∷ []) ≡ length hashes + 1 = length-append hashes (hash ∷ []) in
      rw f (record {
        count = length-set ends own (length hashes + 1) ∙ chained.count;
        each = omega (arith, length-append belows (get_or ends own 0 ∷ []), more, chained.each);
        ends_are = λ bucket l. rw more (ends_more own e low bucket l);
        belows_are = λ k l. belows_more own e low k (omega (arith, more));
        room = omega (arith, more);
      })

-- a new number, on the links
pub links_more : (links more : List Link) (ends : List ℕ) (hash own next : ℕ) (link : Link) → AreChained (length ends) (hashes links) (belows links) ends → more ≡ links ++ link ∷ [] → link.hash ≡ hash → link.below ≡ get_or ends own 0 →
    own ≡ bucket_of (length ends) hash → own < length ends → length (hashes links) < length ends → next ≡ length more →
    AreChained (length (set ends own next)) (hashes more) (belows more) (set ends own next)
links_more links more ends hash own next link chained pushed its its_below e low room f =
    let count : length links ≡ length (hashes links) = sym (length-map links (λ (l : Link). l.hash)) in
    let end : next ≡ length (hashes links) + 1 = omega (arith, f, ap length pushed, length-append links (link ∷ []), count) in
    let one : hashes more ≡ hashes links ++ hash ∷ [] = ap hashes pushed ∙ map-append (λ (l : Link). l.hash) links (link ∷ []) ∙ ap (λ (h : ℕ). hashes links ++ h ∷ []) its in
    let other : belows more ≡ belows links ++ get_or ends own 0 ∷ [] = ap belows pushed ∙ map-append (λ (l : Link). l.below) links (link ∷ []) ∙ ap (λ (h : ℕ). belows links ++ h ∷ []) its_below in
    rw (length-set ends own next, one, other) (chained_more (length ends) (hashes links) (belows links) ends hash chained own next e low room end)

-- what a link says
pub link_at : (links : List Link) (k : ℕ) (link d : Link) → link ≡ get_or links k d → k < length links → (get_or (hashes links) k 0 ≡ link.hash) × (get_or (belows links) k 0 ≡ link.below)
link_at links k link d e l = (get_or-map (λ (l : Link). l.hash) links k d 0 l ∙ ap (λ (l : Link). l.hash) (sym e), get_or-map (λ (l : Link). l.below) links k d 0 l ∙ ap (λ (l : Link). l.below) (sym e))

-- the number before is in the same bucket
pub before_within : (links : List Link) (ends : List ℕ) (k : ℕ) (link d : Link) → AreChained (length ends) (hashes links) (belows links) ends → link ≡ get_or links k d → k < length links →
    IsLast (IsInBucket (hashes links) (length ends) (bucket_of (length ends) link.hash)) k link.below
before_within links ends k link d chained e l =
    let at = link_at links k link d e l in
    subst (IsLast (IsInBucket (hashes links) (length ends) (bucket_of (length ends) link.hash)) k) at.1
    (subst (λ (h : ℕ). IsLast (IsInBucket (hashes links) (length ends) (bucket_of (length ends) h)) k (get_or (belows links) k 0)) at.0
    (chained.belows_are k (omega (arith, length-map links (λ (l : Link). l.hash)))))
