-- The numbers of words that share something, one after another.
use Rattle.std.proofs.Common.{◌≡◌, ℕ, ◌+◌, ◌<◌, ◌≤◌, ◌⊎◌, inl, inr, List, [], ◌∷◌, ◌++◌, get_or, sym, subst, arith}
use Rattle.std.specs.List.{Contains}
use Rattle.std.proofs.lemmas.Bool.{cases_lt}
use Rattle.std.proofs.lemmas.List.Elements.{Contains-append_left, Contains-push, Contains-push_cases}
use Rattle.mt_match_laws.proofs.Members.{from_member}
use Rattle.mt_thesaurus.specs.Told.{AreOthers}
use Rattle.mt_thesaurus.proofs.Adding.{each_once_append}

pub others_taken : (parts : List ℕ) (lemma k : ℕ) (numbers more : List ℕ) → AreOthers parts lemma k numbers → (k ≡ lemma → ⊥) → 0 < get_or parts k 0 → more ≡ numbers ++ k ∷ [] → AreOthers parts lemma (k + 1) more
others_taken parts lemma k numbers more h other some is = subst (AreOthers parts lemma (k + 1)) (sym is) (record {
  once = each_once_append numbers (k ∷ []) h.once ((λ (c : Contains [] k). absurd (omega (arith, c.1))), tt) (λ x m n. elim n [ inl e ↦ (let l = h.below x (from_member numbers x m) in omega (arith, l, e)) | inr none ↦ none ]);
  below = λ word c. below word (Contains-push_cases numbers k word c);
  other = λ word c. differs word (Contains-push_cases numbers k word c);
  some = λ word c. counts word (Contains-push_cases numbers k word c);
  each = λ word l ne s. each word (cases_lt word k) l ne s;
})
  where
    below : (word : ℕ) → Contains numbers word ⊎ (k ≡ word) → word < k + 1
    below word (inl c) = omega (arith, h.below word c)
    below word (inr e) = omega (arith, e)

    differs : (word : ℕ) → Contains numbers word ⊎ (k ≡ word) → word ≡ lemma → ⊥
    differs word (inl c) = h.other word c
    differs word (inr e) = subst (λ (w : ℕ). w ≡ lemma → ⊥) e other

    counts : (word : ℕ) → Contains numbers word ⊎ (k ≡ word) → 0 < get_or parts word 0
    counts word (inl c) = h.some word c
    counts word (inr e) = subst (λ (w : ℕ). 0 < get_or parts w 0) e some

    each : (word : ℕ) → (word < k) ⊎ (k ≤ word) → word < k + 1 → (word ≡ lemma → ⊥) → 0 < get_or parts word 0 → Contains (numbers ++ k ∷ []) word
    each word (inl low) l ne s = Contains-append_left numbers (k ∷ []) word (h.each word low ne s)
    each word (inr high) l ne s = let e : k ≡ word = omega (arith, high, l) in subst (Contains (numbers ++ k ∷ [])) e (Contains-push numbers k)

pub others_passed : (parts : List ℕ) (lemma k : ℕ) (numbers more : List ℕ) → AreOthers parts lemma k numbers → ((k ≡ lemma → ⊥) → 0 < get_or parts k 0 → ⊥) → more ≡ numbers → AreOthers parts lemma (k + 1) more
others_passed parts lemma k numbers more h none is = subst (AreOthers parts lemma (k + 1)) (sym is) (record {
  once = h.once;
  below = λ word c. omega (arith, h.below word c);
  other = h.other;
  some = h.some;
  each = λ word l ne s. each word (cases_lt word k) l ne s;
})
  where
    each : (word : ℕ) → (word < k) ⊎ (k ≤ word) → word < k + 1 → (word ≡ lemma → ⊥) → 0 < get_or parts word 0 → Contains numbers word
    each word (inl low) l ne s = h.each word low ne s
    each word (inr high) l ne s =
        let e : word ≡ k = omega (arith, high, l) in
        absurd (none (subst (λ (w : ℕ). w ≡ lemma → ⊥) e ne) (subst (λ (w : ℕ). 0 < get_or parts w 0) e s))
