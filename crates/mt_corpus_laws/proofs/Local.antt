-- Rows depend on the text that they are in, and on no other one.
use Rattle.std.proofs.Common.{◌≡◌, ℕ, List, get_or, slice_get, refl, sym, ◌∙◌, ap, subst}
use Rattle.mt_text_spec.specs.Registries.{Registry}
use Rattle.mt_text_spec.specs.Texts.{Text, Span, Row}
use Rattle.mt_text_spec.specs.Queries.{Expr, FilterKind, Within, NotWithin, Containing, NotContaining, Filters, NoMore, More, Cond}
use Rattle.mt_match_spec.specs.Values.{Images}
use Rattle.mt_match_spec.specs.Rows.{IsRow}
use Rattle.mt_match_spec.specs.Kept.{IsSpanOf, IsWithin, IsContaining, Passes, PassesAll, Meets}
use Rattle.mt_corpus_laws.specs.Laws.{span_to, row_to, KeptAreLocal, RowsAreLocal}

pub rows_local : RowsAreLocal
rows_local images registry first second expr row text same i = record { text = i.text; there = sym same ∙ i.there; some = i.some; inside = i.inside; matches = i.matches }

module _ (images : Images) (registry : Registry) where
  -- the spans of an operand
  module _ (first second : List Text) (head : Expr) (Let Other : Span → Type 0) (from to : ℕ) (same : slice_get first from ≡ slice_get second to) (go : (span : Span) → span.text ≡ from → Let span → Other (span_to to span)) where
    span_there : (span : Span) → span.text ≡ from → IsSpanOf (IsRow images registry first head) Let span → IsSpanOf (IsRow images registry second head) Other (span_to to span)
    span_there span is s = record {
      labels = s.labels;
      is_row = rows_local images registry first second head (record { span = span; labels = s.labels }) to (ap (slice_get first) is ∙ same) s.is_row;
      passes = go span is s.passes;
    }

    within_there : (span : Span) → span.text ≡ from → IsWithin (IsSpanOf (IsRow images registry first head) Let) span → IsWithin (IsSpanOf (IsRow images registry second head) Other) (span_to to span)
    within_there span is w = record {
      around = span_to to w.around;
      is_operands = span_there w.around (sym w.lies.text ∙ is) w.is_operands;
      lies = record { text = refl; begin = w.lies.begin; end = w.lies.end };
    }

    containing_there : (span : Span) → span.text ≡ from → IsContaining (IsSpanOf (IsRow images registry first head) Let) span → IsContaining (IsSpanOf (IsRow images registry second head) Other) (span_to to span)
    containing_there span is w = record {
      held = span_to to w.held;
      is_operands = span_there w.held (w.lies.text ∙ is) w.is_operands;
      lies = record { text = refl; begin = w.lies.begin; end = w.lies.end };
    }

  -- back in its own text a span is what it was
  back : (P : Span → Type 0) (span : Span) (from : ℕ) → span.text ≡ from → P (span_to from span) → P span
  back P span from is h = subst (λ (n : ℕ). P (span_to n span)) (sym is) h

  filter_there : (first second : List Text) (head : Expr) (Let Other : Span → Type 0) (from to : ℕ) → slice_get first from ≡ slice_get second to →
      ((span : Span) → span.text ≡ from → Let span → Other (span_to to span)) → ((span : Span) → span.text ≡ to → Other span → Let (span_to from span)) →
      (kind : FilterKind) (span : Span) → span.text ≡ from → Passes kind (IsSpanOf (IsRow images registry first head) Let) span → Passes kind (IsSpanOf (IsRow images registry second head) Other) (span_to to span)
  filter_there first second head Let Other from to same go come Within span is p = within_there first second head Let Other from to same go span is p
  filter_there first second head Let Other from to same go come NotWithin span is p =
      λ w. p (back (IsWithin (IsSpanOf (IsRow images registry first head) Let)) span from is (within_there second first head Other Let to from (sym same) come (span_to to span) refl w))
  filter_there first second head Let Other from to same go come Containing span is p = containing_there first second head Let Other from to same go span is p
  filter_there first second head Let Other from to same go come NotContaining span is p =
      λ w. p (back (IsContaining (IsSpanOf (IsRow images registry first head) Let)) span from is (containing_there second first head Other Let to from (sym same) come (span_to to span) refl w))

  filters_there : (filters : Filters) (first second : List Text) (from to : ℕ) → slice_get first from ≡ slice_get second to → (span : Span) → span.text ≡ from →
      PassesAll images registry first filters span → PassesAll images registry second filters (span_to to span)
  filters_there NoMore first second from to same span is p = tt
  filters_there (More kind head filters others) first second from to same span is p = (
    filter_there first second head (PassesAll images registry first filters) (PassesAll images registry second filters) from to same
        (λ s e h. filters_there filters first second from to same s e h) (λ s e h. filters_there filters second first to from (sym same) s e h) kind span is p.0,
    filters_there others first second from to same span is p.1,
  )

  meets_there : (first second : List Text) (row : Row) (text : ℕ) → slice_get first row.span.text ≡ slice_get second text → (cond : Cond) → Meets images registry first row cond → Meets images registry second (row_to text row) cond
  meets_there first second row text same cond m =
      record { text = m.text; there = sym same ∙ m.there; left = m.left; left_set = m.left_set; right = m.right; right_set = m.right_set; compare = m.compare }

pub kept_local : KeptAreLocal
kept_local images registry first second query row text same k = record {
  is_row = rows_local images registry first second query.head row text same k.is_row;
  passes = filters_there images registry query.filters first second row.span.text text same row.span refl k.passes;
  meets = λ n d l. meets_there images registry first second row text same (get_or query.conds n d) (k.meets n d l);
}
