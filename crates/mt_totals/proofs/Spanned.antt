-- The spans of a query, by its rows.
use Rattle.std.proofs.Common.{◌≡◌, ℕ, ◌≤◌, inl, inr, List, length, refl, sym, ◌∙◌, ap, subst, arith}
use Rattle.std.specs.List.{All}
use Rattle.std.proofs.lemmas.List.Elements.{All-nil}
use Rattle.mt_text_spec.specs.Orders.{row_cmp, row_cmp_total, span_cmp, span_cmp_total}
use Rattle.mt_text_spec.specs.Queries.{Expr, TokenTest, Filters, Cond, Query}
use Rattle.mt_text_spec.specs.Registries.{Registry}
use Rattle.mt_text_spec.specs.Texts.{Text, Row, Span}
use Rattle.mt_match_spec.specs.Kept.{IsSpan, Keeps, Kept, Meets, Over, OverAny, PassesAll, operand_rows_limit}
use Rattle.mt_match_spec.specs.Labels.{labelled}
use Rattle.mt_match_spec.specs.Rows.{IsRow}
use Rattle.mt_match_spec.specs.Values.{Images}
use Rattle.mt_match_laws.specs.Laws.{HaveSpans, RowsAreOne}
use Rattle.mt_rows.specs.Rows.{IsSpanIn}
use Rattle.mt_rows.specs.Laws.{lists_alike}
use Rattle.mt_tally.proofs.Among.{to_among, from_among}
use Rattle.mt_totals.specs.Totals.{HasRowTotal, HasSpans, HasSpanTotal, IsTokenAlone}
use Rattle.mt_tally.proofs.Pairing.{differ, no_longer}

module _ (images : Images) (registry : Registry) (corpus : List Text) (query : Query) where
  -- ## Of any query

  -- the spans of the rows that a query keeps are its spans
  pub spans_of : (rows : List Row) (count : ℕ) → Kept images registry corpus query rows → HasSpans rows count → HasSpanTotal images registry corpus query count
  spans_of rows count kept has = record {
    spans = has.spans;
    are = lists_alike span_cmp (IsSpanIn rows) (IsSpan images registry corpus query) has.spans
        (λ span h. record { labels = h.labels; keeps = kept.only (record { span = span; labels = h.labels }) h.contains })
        (λ span h. record { labels = h.labels; contains = kept.each (record { span = span; labels = h.labels }) h.keeps }) has.all;
    counted = has.counted;
  }

  -- ## Of a test of a token

  module _ (alone : IsTokenAlone query) where
    -- a row with its span
    record HasSpan (row : Row) (span : Span) : Type 0 where
      is : IsRow images registry corpus query.head row
      at : row.span ≡ span

    is_token : (row : Row) → IsRow images registry corpus query.head row → IsRow images registry corpus (TokenTest alone.label alone.test) row
    is_token row is = subst (λ (e : Expr). IsRow images registry corpus e row) alone.head is

    its_labels : (row : Row) → IsRow images registry corpus query.head row → row.labels ≡ labelled alone.label row.span.begin
    its_labels row is = (is_token row is).matches.labels_are

    -- rows are told by their spans
    same_row : (row other : Row) (span : Span) → HasSpan row span → HasSpan other span → row ≡ other
    same_row row other span r s =
        let at : row.span ≡ other.span = r.at ∙ sym s.at in
        let labels : row.labels ≡ other.labels = its_labels row r.is ∙ ap (λ (x : Span). labelled alone.label x.begin) at ∙ sym (its_labels other s.is) in
        λ i. record { span = at i; labels = labels i }

    keeps : (row : Row) → IsRow images registry corpus query.head row → Keeps images registry corpus query row
    keeps row is = record {
      is_row = is;
      passes = subst (λ (filters : Filters). PassesAll images registry corpus filters row.span) (sym alone.filters) tt;
      meets = subst (λ (conds : List Cond). All (Meets images registry corpus row) conds) (sym alone.conds) (All-nil (Meets images registry corpus row));
    }

    pub as_many_spans : HaveSpans → (total : ℕ) → HasRowTotal images registry corpus query.head total → HasSpanTotal images registry corpus query total
    as_many_spans have total has =
        let (spans, are) = have images registry corpus query in
        let up : length has.rows ≤ length spans = no_longer HasSpan has.rows spans (differ row_cmp row_cmp_total has.rows has.are.ascending) (λ row m.
        let is = has.are.only row (from_among has.rows row m) in
        record { other = row.span; member = to_among spans row.span (are.each row.span (record { labels = row.labels; keeps = keeps row is })); goes = record { is = is; at = refl } }) same_row in
        let down : length spans ≤ length has.rows = no_longer (λ (span : Span) (row : Row). HasSpan row span) spans has.rows (differ span_cmp span_cmp_total spans are.ascending) (λ span m.
        let h = are.only span (from_among spans span m) in
        let row : Row = record { span = span; labels = h.labels } in
        record { other = row; member = to_among has.rows row (has.are.each row h.keeps.is_row); goes = record { is = h.keeps.is_row; at = refl } })
        (λ span other row r s. sym r.at ∙ s.at) in
        let is = has.counted in
        record { spans = spans; are = are; counted = omega (arith, up, down, is) }

    pub not_over : RowsAreOne → (total : ℕ) → HasRowTotal images registry corpus query.head total → total ≤ operand_rows_limit → Over images registry corpus query → ⊥
    not_over one total has few (inl many) =
        let same = ap (λ (rows : List Row). length rows) (one images registry corpus query.head many.rows has.rows many.are has.are) in
        let more = many.more in
        let is = has.counted in
        omega (arith, same, more, is, few)
    not_over one total has few (inr any) = subst (OverAny images registry corpus) alone.filters any
