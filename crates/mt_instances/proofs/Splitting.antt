-- Where a name is cut at its first `%s`.
use Rattle.std.proofs.Common.{◌≡◌, ℕ, ◌<◌, ◌≤◌, ◌⊎◌, inl, inr, Some, None, List, ◌++◌, length, take, drop, codes, sym, ap, ◌∙◌, arith, append_assoc, length-append}
use Rattle.std.proofs.lemmas.Bool.{cases_lt}
use Rattle.std.proofs.lemmas.List.{take-append-drop}
use Rattle.std.proofs.Math.Seq.{drop-append_seam}
use Rattle.std.specs.Str.Pattern.{FindsText}
use Rattle.mt_count_spec.specs.Instances.{IsFilled}

pub filled_by : (name value front back final : List ℕ) (i j : ℕ) → FindsText (codes "%s") name (Some (i, j)) → front ≡ take i name → back ≡ drop j name → length front ≡ i → final ≡ front ++ value ++ back → IsFilled name value final
filled_by name value front back final i j finds is_front is_back long is = record {
  front = front;
  back = back;
  are = sym (take-append-drop i name) ∙ ap (λ (xs : List ℕ). xs ++ drop i name) (sym is_front) ∙ ap (λ (xs : List ℕ). front ++ xs) finds.1.split ∙ sym (append_assoc front (codes "%s") (drop j name)) ∙ ap (λ (xs : List ℕ). front ++ codes "%s" ++ xs) (sym is_back);
  first = λ before after e. by before after e (cases_lt (length before) i);
  is = is;
}
  where
    by : (before after : List ℕ) → name ≡ before ++ codes "%s" ++ after → (length before < i) ⊎ (i ≤ length before) → length front ≤ length before
    by before after e (inl l) = absurd (finds.0 (length before) l after (ap (λ (xs : List ℕ). drop (length before) xs) (e ∙ append_assoc before (codes "%s") after) ∙ drop-append_seam before (codes "%s" ++ after)))
    by before after e (inr h) = omega (arith, long, h)

pub none_filled : (name value other : List ℕ) → FindsText (codes "%s") name None → IsFilled name value other → ⊥
none_filled name value other none h =
    let whole = h.are ∙ append_assoc h.front (codes "%s") h.back in
    let long = ap (λ (xs : List ℕ). length xs) whole in
    none (length h.front) (omega (arith, long, length-append h.front (codes "%s" ++ h.back))) h.back (ap (λ (xs : List ℕ). drop (length h.front) xs) whole ∙ drop-append_seam h.front (codes "%s" ++ h.back))
