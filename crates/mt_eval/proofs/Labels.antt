-- The place of a label among the nine.
use Rattle.std.proofs.Common.{◌≡◌, ℕ, zero, suc, ◌-◌, List, slice_get, Some, None, sym, ◌∙◌, ap, arith}
use Rattle.std.proofs.lemmas.Option.{same_Some}
use Rattle.mt_text_spec.specs.Texts.{unset}
use Rattle.mt_match_spec.specs.Labels.{IsSetTo}

less_one : (n : ℕ) → suc n - 1 ≡ n
less_one n = omega arith

pub none_at_zero : (labels : List ℕ) (label place : ℕ) → label ≡ 0 → IsSetTo labels label place → ⊥
none_at_zero labels zero place e set = set
none_at_zero labels (suc before) place e set = absurd (omega (arith, e))

pub none_there : (labels : List ℕ) (label place : ℕ) → slice_get labels (label - 1) ≡ None → IsSetTo labels label place → ⊥
none_there labels zero place e set = set
none_there labels (suc before) place e set = let at = sym (ap (slice_get labels) (less_one before)) ∙ e in let both = sym set.0 ∙ at in cc

pub is_set : (labels : List ℕ) (label place : ℕ) → (label ≡ 0 → ⊥) → slice_get labels (label - 1) ≡ Some place → (place ≡ unset → ⊥) → IsSetTo labels label place
is_set labels zero place some e set = absurd (some (omega arith))
is_set labels (suc before) place some e set = (sym (ap (slice_get labels) (less_one before)) ∙ e, set)

pub is_unset : (labels : List ℕ) (label place other : ℕ) → slice_get labels (label - 1) ≡ Some place → place ≡ unset → IsSetTo labels label other → ⊥
is_unset labels zero place other e u set = set
is_unset labels (suc before) place other e u set =
    let same = same_Some place other (sym e ∙ ap (slice_get labels) (less_one before) ∙ set.0) in set.1 (sym same ∙ u)
