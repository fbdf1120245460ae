-- Entries of a map, by their keys.
use Rattle.std.proofs.Common.{◌≡◌, Bool, true, false, ◌⊎◌, inl, inr, Some, List, [], ◌∷◌, refl, sym, ap, subst, ◌∙◌, cond}
use Rattle.std.specs.List.{Contains}
use Rattle.std.specs.Map.{lookup}
use Rattle.indexmap.specs.IndexMap.{insert_entry}
use Rattle.mt_instances.proofs.Mapped.{at_head, behind, either}

pub put_only : {K V : Type 0} (eq : K → K → Bool) (k : K) (v : V) → ((j : K) → eq k j ≡ true → j ≡ k) → (es : List (K × V)) (x : K × V) → Contains (insert_entry eq es k v) x → Contains es x ⊎ (x ≡ (k, v))
put_only eq k v exact [] x h = by (either (k, v) x [] h)
  where
    by : ((k, v) ≡ x) ⊎ Contains [] x → Contains [] x ⊎ (x ≡ (k, v))
    by (inl e) = inr (sym e)
    by (inr g) = inl g
put_only {K} {V} eq k v exact (e ∷ es) x h = at (eq k e.0) refl (put_only eq k v exact es x) h
  where
    same : e.0 ≡ k → ((e.0, v) ≡ x) ⊎ Contains es x → Contains (e ∷ es) x ⊎ (x ≡ (k, v))
    same is (inl g) = inr (sym g ∙ ap (λ (j : K). (j, v)) is)
    same is (inr g) = inl (behind e x es g)

    other : (e ≡ x) ⊎ Contains (insert_entry eq es k v) x → (Contains (insert_entry eq es k v) x → Contains es x ⊎ (x ≡ (k, v))) → Contains (e ∷ es) x ⊎ (x ≡ (k, v))
    other (inl g) rest = inl (subst (Contains (e ∷ es)) g (at_head e es))
    other (inr g) rest = moved (rest g)
      where
        moved : Contains es x ⊎ (x ≡ (k, v)) → Contains (e ∷ es) x ⊎ (x ≡ (k, v))
        moved (inl c) = inl (behind e x es c)
        moved (inr c) = inr c

    at : (b : Bool) → eq k e.0 ≡ b → (Contains (insert_entry eq es k v) x → Contains es x ⊎ (x ≡ (k, v))) → Contains (cond b ((e.0, v) ∷ es) (e ∷ insert_entry eq es k v)) x → Contains (e ∷ es) x ⊎ (x ≡ (k, v))
    at true is rest c = same (exact e.0 is) (either (e.0, v) x es c)
    at false is rest c = other (either e x (insert_entry eq es k v) c) rest

pub found_there : {K V : Type 0} (test : K → Bool) (k : K) → ((j : K) → test j ≡ true → j ≡ k) → (es : List (K × V)) (v : V) → Some v ≡ lookup test es → Contains es (k, v)
found_there test k exact [] v e = cc
found_there {K} {V} test k exact (p ∷ es) v e = at (test p.0) refl (found_there test k exact es v) e
  where
    at : (b : Bool) → test p.0 ≡ b → (Some v ≡ lookup test es → Contains es (k, v)) → Some v ≡ cond b (Some p.1) (lookup test es) → Contains (p ∷ es) (k, v)
    at true is rest h = let same : v ≡ p.1 = cc in subst (Contains (p ∷ es)) (ap (λ (j : K). (j, p.1)) (exact p.0 is) ∙ ap (λ (w : V). (k, w)) (sym same)) (at_head p es)
    at false is rest h = behind p (k, v) es (rest h)
