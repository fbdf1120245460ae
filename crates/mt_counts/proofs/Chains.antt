-- Places in chains by their class.
use Rattle.std.proofs.Common.{◌≡◌, ℕ, ◌+◌, ◌-◌, ◌<◌, ◌≤◌, List, [], ◌∷◌, ◌++◌, length, get_or, set, refl, sym, ◌∙◌, ap, subst, arith, ◌⊎◌, inl, inr, length-append}
use Rattle.std.proofs.lemmas.Bool.{cases_lt, cases_eq}
use Rattle.std.proofs.lemmas.List.{get_or_append_left, get_or_push, get_or-set_same, get_or-set_other}
use Rattle.mt_counts.specs.Chains.{IsLast, HasClass, AreChained, classes}

-- a property may be put in the place of one that the same numbers have
same_last : (P Q : ℕ → Type 0) (number below : ℕ) → ((k : ℕ) → k < number → P k → Q k) → ((k : ℕ) → k < number → Q k → P k) → IsLast P number below → IsLast Q number below
same_last P Q number below there back h = record {
  bound = h.bound;
  here = λ l. there (below - 1) (omega (arith, h.bound)) (h.here l);
  none = λ k l m q. h.none k l m (back k m q);
}

-- ---- one place more

module _ (classes belows ends : List ℕ) (class : ℕ) (chained : AreChained classes belows ends) where
  kept_last : (c number below : ℕ) → number ≤ length classes → IsLast (HasClass classes c) number below → IsLast (HasClass (classes ++ class ∷ []) c) number below
  kept_last c number below l h =
      same_last (HasClass classes c) (HasClass (classes ++ class ∷ []) c) number below
      (λ k m p. get_or_append_left classes (class ∷ []) 0 k (omega arith) ∙ p) (λ k m p. sym (get_or_append_left classes (class ∷ []) 0 k (omega arith)) ∙ p) h

  new_there : get_or (classes ++ class ∷ []) (length classes) 0 ≡ class
  new_there = get_or_push classes class 0 (length classes) refl

  -- the end of the class that gets the place
  own_end : IsLast (HasClass (classes ++ class ∷ []) class) (length classes + 1) (length classes + 1)
  own_end = record {
    bound = omega arith;
    here = λ l. let e : length classes ≡ length classes + 1 - 1 = omega arith in ap (λ (n : ℕ). get_or (classes ++ class ∷ []) n 0) (sym e) ∙ new_there;
    none = λ k l m p. absurd (omega arith);
  }

  -- and of another one
  other_end : (c below : ℕ) → (c ≡ class → ⊥) → IsLast (HasClass classes c) (length classes) below → IsLast (HasClass (classes ++ class ∷ []) c) (length classes + 1) below
  other_end c below other h = let kept = kept_last c (length classes) below (omega arith) h in record {
    bound = omega (arith, h.bound);
    here = kept.here;
    none = λ k l m p. by kept k l m p (cases_lt k (length classes));
  }
    where
      by : IsLast (HasClass (classes ++ class ∷ []) c) (length classes) below → (k : ℕ) → below ≤ k → k < length classes + 1 → HasClass (classes ++ class ∷ []) c k → (k < length classes) ⊎ (length classes ≤ k) → ⊥
      by kept k l m p (inl low) = kept.none k l low p
      by kept k l m p (inr high) =
          let e : length classes ≡ k = omega arith in
          other (sym p ∙ ap (λ (n : ℕ). get_or (classes ++ class ∷ []) n 0) (sym e) ∙ new_there)

  ends_more : class < length ends → (c : ℕ) → IsLast (HasClass (classes ++ class ∷ []) c) (length classes + 1) (get_or (set ends class (length classes + 1)) c 0)
  ends_more low c = by (cases_eq c class)
    where
      by : (c ≡ class) ⊎ (c ≡ class → ⊥) → IsLast (HasClass (classes ++ class ∷ []) c) (length classes + 1) (get_or (set ends class (length classes + 1)) c 0)
      by (inl same) =
          let at : get_or (set ends class (length classes + 1)) c 0 ≡ length classes + 1 =
          ap (λ (n : ℕ). get_or (set ends class (length classes + 1)) n 0) same ∙ get_or-set_same ends class (length classes + 1) 0 low in
          subst (IsLast (HasClass (classes ++ class ∷ []) c) (length classes + 1)) (sym at)
          (subst (λ (b : ℕ). IsLast (HasClass (classes ++ class ∷ []) b) (length classes + 1) (length classes + 1)) (sym same) own_end)
      by (inr other) =
          let at : get_or (set ends class (length classes + 1)) c 0 ≡ get_or ends c 0 = get_or-set_other ends class c (length classes + 1) 0 other in
          subst (IsLast (HasClass (classes ++ class ∷ []) c) (length classes + 1)) (sym at) (other_end c (get_or ends c 0) other (chained.ends_are c))

  belows_more : (k : ℕ) → k < length classes + 1 → IsLast (HasClass (classes ++ class ∷ []) (get_or (classes ++ class ∷ []) k 0)) k (get_or (belows ++ get_or ends class 0 ∷ []) k 0)
  belows_more k l = by (cases_lt k (length classes))
    where
      Wanted : ℕ → ℕ → ℕ → Type 0
      Wanted c number below = IsLast (HasClass (classes ++ class ∷ []) c) number below

      by : (k < length classes) ⊎ (length classes ≤ k) → Wanted (get_or (classes ++ class ∷ []) k 0) k (get_or (belows ++ get_or ends class 0 ∷ []) k 0)
      by (inl old) =
          let at : get_or (belows ++ get_or ends class 0 ∷ []) k 0 ≡ get_or belows k 0 = get_or_append_left belows (get_or ends class 0 ∷ []) 0 k (omega (arith, chained.each)) in
          let same : get_or (classes ++ class ∷ []) k 0 ≡ get_or classes k 0 = get_or_append_left classes (class ∷ []) 0 k old in
          subst (Wanted (get_or (classes ++ class ∷ []) k 0) k) (sym at)
          (subst (λ (h : ℕ). Wanted h k (get_or belows k 0)) (sym same) (kept_last (get_or classes k 0) k (get_or belows k 0) (omega arith) (chained.belows_are k old)))
      by (inr new) =
          let is : length classes ≡ k = omega arith in
          let at : get_or (belows ++ get_or ends class 0 ∷ []) (length classes) 0 ≡ get_or ends class 0 = get_or_push belows (get_or ends class 0) 0 (length classes) chained.each in
          subst (λ (n : ℕ). Wanted (get_or (classes ++ class ∷ []) n 0) n (get_or (belows ++ get_or ends class 0 ∷ []) n 0)) is
          (subst (Wanted (get_or (classes ++ class ∷ []) (length classes) 0) (length classes)) (sym at)
          (subst (λ (b : ℕ). Wanted b (length classes) (get_or ends class 0)) (sym new_there)
          (kept_last class (length classes) (get_or ends class 0) (omega arith) (chained.ends_are class))))

  pub chained_more : (next : ℕ) → class < length ends → next ≡ length classes + 1 → AreChained (classes ++ class ∷ []) (belows ++ get_or ends class 0 ∷ []) (set ends class next)
  chained_more next low f =
      let more : length (classes ++ class ∷ []) ≡ length classes + 1 = length-append classes (class ∷ []) in
      rw f (record {
        each = omega (arith, length-append belows (get_or ends class 0 ∷ []), more, chained.each);
        ends_are = λ c. rw more (ends_more low c);
        belows_are = λ k l. belows_more k (omega (arith, more));
      })

-- ends that are the same everywhere serve as well
pub same_ends : (classes belows ends others : List ℕ) → ((k : ℕ) → get_or others k 0 ≡ get_or ends k 0) → AreChained classes belows ends → AreChained classes belows others
same_ends classes belows ends others same chained = record {
  each = chained.each;
  ends_are = λ c. subst (IsLast (HasClass classes c) (length classes)) (sym (same c)) (chained.ends_are c);
  belows_are = chained.belows_are;
}
