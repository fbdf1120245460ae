-- Lists of instances that grow by what rows give.
use Rattle.std.proofs.Common.{◌≡◌, ℕ, zero, suc, ◌⊎◌, inl, inr, Result, Ok, Err, OnOk, OnErr, List, [], ◌∷◌, ◌++◌, sym, ap, subst, ◌∙◌}
use Rattle.std.specs.List.{All, Contains}
use Rattle.std.proofs.lemmas.List.Elements.{All-same, All-push, Contains-append_left, Contains-push, Contains-push_cases}
use Rattle.mt_text_spec.specs.Texts.{Row}
use Rattle.mt_match_spec.specs.Labels.{IsSetTo}
use Rattle.mt_count_spec.specs.Instances.{Instance, AtTwo, AtOne, IsPair}
use Rattle.mt_instances.specs.Gains.{Gains, LiesIn}
use Rattle.mt_instances.specs.Given.{OfOne, One, OfPair, Pair, OfTurned, Turned}

pub gains_none : (xs : List Instance) (P : Instance → Type 0) → ((i : Instance) → P i → ⊥) → Gains xs xs P
gains_none xs P none = record { kept = λ i h. h; each = λ i p. absurd (none i p); only = λ i h. inl h }

pub gains_one : (old new : List Instance) (x : Instance) (P : Instance → Type 0) → new ≡ old ++ x ∷ [] → P x → ((i : Instance) → P i → x ≡ i) → Gains old new P
gains_one old new x P e p one = record {
  kept = λ i h. subst (λ (xs : List Instance). Contains xs i) (sym e) (Contains-append_left old (x ∷ []) i h);
  each = λ i q. subst (λ (xs : List Instance). Contains xs i) (sym e) (subst (Contains (old ++ x ∷ [])) (one i q) (Contains-push old x));
  only = λ i h. by i (Contains-push_cases old x i (subst (λ (xs : List Instance). Contains xs i) e h));
}
  where
    by : (i : Instance) → Contains old i ⊎ (x ≡ i) → Contains old i ⊎ P i
    by i (inl h) = inl h
    by i (inr same) = inr (subst P same p)

pub gains_then : (a b c : List Instance) (P Q : Instance → Type 0) → Gains a b P → Gains b c Q → Gains a c (λ i. P i ⊎ Q i)
gains_then a b c P Q g h = record { kept = λ i x. h.kept i (g.kept i x); each = each; only = λ i x. by i (h.only i x) }
  where
    each : (i : Instance) → P i ⊎ Q i → Contains c i
    each i (inl p) = h.kept i (g.each i p)
    each i (inr q) = h.each i q

    first : (i : Instance) → Contains a i ⊎ P i → Contains a i ⊎ P i ⊎ Q i
    first i (inl x) = inl x
    first i (inr p) = inr (inl p)

    by : (i : Instance) → Contains b i ⊎ Q i → Contains a i ⊎ P i ⊎ Q i
    by i (inl x) = first i (g.only i x)
    by i (inr q) = inr (inr q)

pub gains_alike : (a b : List Instance) (P Q : Instance → Type 0) → ((i : Instance) → P i → Q i) → ((i : Instance) → Q i → P i) → Gains a b P → Gains a b Q
gains_alike a b P Q to from g = record { kept = g.kept; each = λ i q. g.each i (from i q); only = λ i x. by i (g.only i x) }
  where
    by : (i : Instance) → Contains a i ⊎ P i → Contains a i ⊎ Q i
    by i (inl x) = inl x
    by i (inr p) = inr (to i p)

-- ---- one place for a label

pub one_place : (labels : List ℕ) (label a b : ℕ) → IsSetTo labels label a → IsSetTo labels label b → a ≡ b
one_place labels zero a b h k = absurd h
one_place labels (suc before) a b h k = let same = sym h.0 ∙ k.0 in cc

-- ---- what a row gives under a name

pub only_one : (name : List ℕ) (row : Row) (p : ℕ) → IsSetTo row.labels 1 p → (i : Instance) → OfOne name row i → AtOne name p ≡ i
only_one name row p h i (One q k) = ap (λ (n : ℕ). AtOne name n) (one_place row.labels 1 p q h k)

pub only_pair : (name : List ℕ) (row : Row) (p q : ℕ) → IsPair row p q → (i : Instance) → OfPair name row i → AtTwo name p q ≡ i
only_pair name row p q h i (Pair r s k) = let e = one_place row.labels 1 p r h.first k.first in let f = one_place row.labels 2 q s h.second k.second in λ x. AtTwo name (e x) (f x)

pub only_turned : (name : List ℕ) (row : Row) (p q : ℕ) → IsPair row p q → (i : Instance) → OfTurned name row i → AtTwo name q p ≡ i
only_turned name row p q h i (Turned r s k) = let e = one_place row.labels 1 p r h.first k.first in let f = one_place row.labels 2 q s h.second k.second in λ x. AtTwo name (f x) (e x)

-- ---- places

pub lies_pushed : {E : Type 0} (places : ℕ) (old new : List Instance) (x : Instance) (result : Result (Unit {0}) E) → OnOk result (new ≡ old ++ x ∷ []) → OnErr result (new ≡ old) → LiesIn places x → All (LiesIn places) old → All (LiesIn places) new
lies_pushed places old new x (Ok u) ok err l all = All-same (LiesIn places) new (old ++ x ∷ []) ok (All-push (LiesIn places) old x all l)
lies_pushed places old new x (Err e) ok err l all = All-same (LiesIn places) new old err all
