-- Rows whose spans and labels are kept apart: how many there are, which stands at a place, and what a push or a cut leaves.
use Rattle.std.proofs.Common.{◌≡◌, ℕ, zero, suc, ◌+◌, ◌≤◌, Bool, true, false, List, [], ◌∷◌, ◌++◌, length, map, take, replicate, slice_get, Some, None, IsSomeAnd, refl, ap, sym, ◌∙◌, arith}
use Rattle.std.specs.List.{All, AllByRecursion}
use Rattle.std.proofs.lemmas.List.Elements.{All-from_recursion}
use Rattle.mt_text_spec.specs.Texts.{Span, Row}
use Rattle.mt_match_spec.specs.Labels.{no_labels}
use Rattle.mt_rows.specs.Rows.{joined}
use Rattle.mt_rows.specs.Marks.{kept}
use Rattle.mt_rows.proofs.Keeping.{kept_none}

pub joined_length : (spans : List Span) (labels : List (List ℕ)) → length (joined spans labels) ≡ length spans
joined_length [] labels = refl
joined_length (span ∷ spans) [] = ap suc (joined_length spans [])
joined_length (span ∷ spans) (set ∷ labels) = ap suc (joined_length spans labels)

-- ---- the row at a place

pub labelled_at : (spans : List Span) (labels : List (List ℕ)) (i : ℕ) (span : Span) (set : List ℕ) → slice_get spans i ≡ Some span → slice_get labels i ≡ Some set →
    slice_get (joined spans labels) i ≡ Some (record { span = span; labels = set })
labelled_at [] labels i span set e f = cc
labelled_at (s ∷ spans) [] i span set e f = cc
labelled_at (s ∷ spans) (l ∷ labels) zero span set e f = let same : s ≡ span = cc in let alike : l ≡ set = cc in λ i. Some (record { span = same i; labels = alike i })
labelled_at (s ∷ spans) (l ∷ labels) (suc i) span set e f = labelled_at spans labels i span set e f

pub plain_at : (spans : List Span) (labels : List (List ℕ)) (i : ℕ) (span : Span) → slice_get spans i ≡ Some span → slice_get labels i ≡ None →
    slice_get (joined spans labels) i ≡ Some (record { span = span; labels = no_labels })
plain_at [] labels i span e f = cc
plain_at (s ∷ spans) [] zero span e f = let same : s ≡ span = cc in λ i. Some (record { span = same i; labels = no_labels })
plain_at (s ∷ spans) [] (suc i) span e f = plain_at spans [] i span e f
plain_at (s ∷ spans) (l ∷ labels) zero span e f = cc
plain_at (s ∷ spans) (l ∷ labels) (suc i) span e f = plain_at spans labels i span e f

pub span_at : (spans : List Span) (labels : List (List ℕ)) (i : ℕ) (span : Span) → slice_get spans i ≡ Some span → IsSomeAnd (slice_get (joined spans labels) i) (λ row. span ≡ row.span)
span_at [] labels i span e = cc
span_at (s ∷ spans) [] zero span e = let same : span ≡ s = cc in same
span_at (s ∷ spans) [] (suc i) span e = span_at spans [] i span e
span_at (s ∷ spans) (l ∷ labels) zero span e = let same : span ≡ s = cc in same
span_at (s ∷ spans) (l ∷ labels) (suc i) span e = span_at spans labels i span e

-- ---- where there are no labels, none is set

plain_each : (spans : List Span) (labels : List (List ℕ)) → length labels ≡ 0 → AllByRecursion (λ (row : Row). row.labels ≡ no_labels) (joined spans labels)
plain_each [] labels none = record {}
plain_each (s ∷ spans) [] none = (refl, plain_each spans [] none)
plain_each (s ∷ spans) (l ∷ labels) none = absurd (omega (arith, none))

pub plain_rows : (spans : List Span) (labels : List (List ℕ)) → length labels ≡ 0 → All (λ (row : Row). row.labels ≡ no_labels) (joined spans labels)
plain_rows spans labels none = All-from_recursion (λ (row : Row). row.labels ≡ no_labels) (joined spans labels) (plain_each spans labels none)

-- ---- a cut and a push

pub take_none : (n : ℕ) → take {A = List ℕ} n [] ≡ []
take_none zero = refl
take_none (suc n) = refl

pub joined_take : (n : ℕ) (spans : List Span) (labels : List (List ℕ)) → joined (take n spans) (take n labels) ≡ take n (joined spans labels)
joined_take zero spans labels = refl
joined_take (suc n) [] labels = refl
joined_take (suc n) (s ∷ spans) [] =
    ap (λ rows. record { span = s; labels = no_labels } ∷ rows) (ap (joined (take n spans)) (sym (take_none n)) ∙ joined_take n spans [])
joined_take (suc n) (s ∷ spans) (l ∷ labels) = ap (λ rows. record { span = s; labels = l } ∷ rows) (joined_take n spans labels)

pub push_plain : (spans : List Span) (labels : List (List ℕ)) (span : Span) → length labels ≤ length spans → joined (spans ++ span ∷ []) labels ≡ joined spans labels ++ record { span = span; labels = no_labels } ∷ []
push_plain [] [] span l = refl
push_plain [] (set ∷ labels) span l = absurd (omega (arith, l))
push_plain (s ∷ spans) [] span l = ap (λ rows. record { span = s; labels = no_labels } ∷ rows) (push_plain spans [] span (omega arith))
push_plain (s ∷ spans) (set ∷ labels) span l = ap (λ rows. record { span = s; labels = set } ∷ rows) (push_plain spans labels span (omega (arith, l)))

-- so many places without labels stand before the new labels
pub push_labelled : (spans : List Span) (labels : List (List ℕ)) (count : ℕ) (span : Span) (set : List ℕ) → length labels + count ≡ length spans →
    joined (spans ++ span ∷ []) ((labels ++ replicate count no_labels) ++ set ∷ []) ≡ joined spans labels ++ record { span = span; labels = set } ∷ []
push_labelled [] [] zero span set e = refl
push_labelled [] [] (suc count) span set e = absurd (omega (arith, e))
push_labelled [] (l ∷ labels) count span set e = absurd (omega (arith, e))
push_labelled (s ∷ spans) [] zero span set e = absurd (omega (arith, e))
push_labelled (s ∷ spans) [] (suc count) span set e = ap (λ rows. record { span = s; labels = no_labels } ∷ rows) (push_labelled spans [] count span set (omega (arith, e)))
push_labelled (s ∷ spans) (l ∷ labels) count span set e = ap (λ rows. record { span = s; labels = l } ∷ rows) (push_labelled spans labels count span set (omega (arith, e)))

-- ---- the spans, and what marks keep

pub spans_of : (spans : List Span) (labels : List (List ℕ)) → map (λ (row : Row). row.span) (joined spans labels) ≡ spans
spans_of [] labels = refl
spans_of (s ∷ spans) [] = ap (λ rest. s ∷ rest) (spans_of spans [])
spans_of (s ∷ spans) (l ∷ labels) = ap (λ rest. s ∷ rest) (spans_of spans labels)

pub joined_kept : (marks : List Bool) (spans : List Span) (labels : List (List ℕ)) → joined (kept marks spans) (kept marks labels) ≡ kept marks (joined spans labels)
joined_kept [] spans labels = refl
joined_kept (mark ∷ marks) [] labels = refl
joined_kept (true ∷ marks) (s ∷ spans) [] = ap (λ rows. record { span = s; labels = no_labels } ∷ rows) (ap (joined (kept marks spans)) (sym (kept_none marks)) ∙ joined_kept marks spans [])
joined_kept (false ∷ marks) (s ∷ spans) [] = ap (joined (kept marks spans)) (sym (kept_none marks)) ∙ joined_kept marks spans []
joined_kept (true ∷ marks) (s ∷ spans) (l ∷ labels) = ap (λ rows. record { span = s; labels = l } ∷ rows) (joined_kept marks spans labels)
joined_kept (false ∷ marks) (s ∷ spans) (l ∷ labels) = joined_kept marks spans labels
