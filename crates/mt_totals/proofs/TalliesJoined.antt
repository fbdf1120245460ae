-- How many rows and spans there are in the texts so far, and then in those of one segment more.
use Rattle.std.proofs.Common.{◌≡◌, ℕ, ◌+◌, ◌<◌, ◌≤◌, ◌⊎◌, inl, inr, Bool, nat_eq, List, [], ◌++◌, length, length-append, map, get_or, refl, sym, ◌∙◌, ap, subst, arith}
use Rattle.std.specs.List.{filter, position_or_len}
use Rattle.std.proofs.lemmas.List.{length-map}
use Rattle.std.proofs.lemmas.List.Kept.{IsStrictlySortedBy-filter}
use Rattle.std.proofs.lemmas.Option.{slice_get_within}
use Rattle.mt_text_spec.specs.Orders.{row_cmp, row_cmp_total, span_cmp, span_cmp_total}
use Rattle.mt_text_spec.specs.Queries.{Filters, NoMore, Query}
use Rattle.mt_text_spec.specs.Registries.{Registry}
use Rattle.mt_text_spec.specs.Texts.{Text, Row, Span}
use Rattle.mt_match_spec.specs.Kept.{IsSpan, Keeps, Kept, Over, OverAny, operand_rows_limit}
use Rattle.mt_match_spec.specs.Values.{Images}
use Rattle.mt_match_laws.specs.Laws.{HaveKept, HaveSpans, RowsAreOne}
use Rattle.mt_segment_spec.specs.Tables.{Tables, AreTablesUnder}
use Rattle.mt_corpus_spec.specs.Groups.{Group, all_texts, live_texts}
use Rattle.mt_corpus_spec.specs.Segments.{live_numbers}
use Rattle.mt_corpus_laws.specs.Joined.{KeptAreJoined, RowsAreJoined, placed}
use Rattle.mt_corpus_laws.specs.Laws.{span_to}
use Rattle.mt_eval_spec.specs.RowsIn.{IsRowIn, KeptIn, PassesAllIn}
use Rattle.mt_eval_laws.specs.Laws.{HaveRowsIn, KeptAreTold}
use Rattle.mt_eval_laws.proofs.Members.{was_member, passes, is_member}
use Rattle.mt_tally.proofs.Among.{to_among, from_among}
use Rattle.mt_tally.specs.Counts.{IsAmong}
use Rattle.mt_search.specs.Finds.{IsNext}
use Rattle.mt_search.proofs.Finding.{found_nothing}
use Rattle.mt_search.proofs.Places.{contained}
use Rattle.mt_tally.specs.Counts.{HasCount, HasMore}
use Rattle.mt_tally.proofs.Counting.{alike, at_least, either, image, in_either, in_first, in_map, in_second, listed, of_map, same_count, IsImage}
use Rattle.mt_tally.proofs.Listed.{in_told, is_in}
use Rattle.mt_totals.specs.Tallies.{HasTally, HasTallyIn, IsSpanMetIn}
use Rattle.mt_totals.specs.Totals.{HasRowTotal, HasSpanTotal}
use Rattle.mt_totals.proofs.Joining.{no_rows}
use Rattle.mt_totals.proofs.SpanCounts.{none}
use Rattle.mt_totals.proofs.Spanned.{spans_of}

-- ## Nothing yet

pub no_tally : (images : Images) (registry : Registry) (query : Query) → HasTally images registry [] query 0 0
no_tally images registry query = record { rows_are = no_rows images registry query; spans_are = spans_of images registry [] query [] 0 (found_nothing images registry query).kept (none [] refl) }

-- ## One segment more

module _ (images : Images) (registry : Registry) (corpus : List Text) (query : Query) (group : Group) (tables : Tables) (live : List ℕ) (next : IsNext images registry query group tables live) where
  Live : List ℕ
  Live = live_numbers 0 group

  -- the rows of the head
  pub more_rows : RowsAreJoined → HaveRowsIn → AreTablesUnder registry tables → (count before : ℕ) → HasCount (IsRowIn tables (live_numbers 0 group) query.head) count → HasRowTotal images registry corpus query.head before →
      HasRowTotal images registry (corpus ++ live_texts group) query.head (before + count)
  more_rows law have under count before c old =
      let (rows, are) = have registry tables (live_numbers 0 group) query.head under next.fits.head in
      let many = same_count (IsRowIn tables (live_numbers 0 group) query.head) count (length rows) c (listed row_cmp (IsRowIn tables (live_numbers 0 group) query.head) rows row_cmp_total are) in
      let both = length-append old.rows (map (placed (length corpus) (live_numbers 0 group)) rows) in
      let same = length-map rows (placed (length corpus) (live_numbers 0 group)) in
      let was = old.counted in
      record {
        rows = old.rows ++ map (placed (length corpus) (live_numbers 0 group)) rows;
        are = law images registry corpus group tables query.head old.rows rows next.fits.head next.tell old.are are;
        counted = omega (arith, many, both, same, was);
      }

  -- more rows than there is room for
  pub many_rows : RowsAreJoined → HaveRowsIn → AreTablesUnder registry tables → (room before : ℕ) → HasMore (IsRowIn tables (live_numbers 0 group) query.head) room → HasRowTotal images registry corpus query.head before →
      (count : ℕ) × (room < count) × HasRowTotal images registry (corpus ++ live_texts group) query.head (before + count)
  many_rows law have under room before more old =
      let (rows, are) = have registry tables (live_numbers 0 group) query.head under next.fits.head in
      let c = listed row_cmp (IsRowIn tables (live_numbers 0 group) query.head) rows row_cmp_total are in
      (length rows, at_least (IsRowIn tables (live_numbers 0 group) query.head) room (length rows) more c, more_rows law have under (length rows) before c old)

  -- the rows that the query keeps in the segment
  kept_in : HaveKept → KeptAreTold → (rows : List Row) × KeptIn tables (live_numbers 0 group) query rows
  kept_in have told =
      let all = have images registry (all_texts group) query in
      let same = told images registry (all_texts group) tables (live_numbers 0 group) query next.tell next.fits in
      let here : Row → Bool = λ row. is_in (live_numbers 0 group) row.span.text in (
        filter here all.0,
        record {
          ascending = IsStrictlySortedBy-filter row_cmp here all.0 all.1.ascending;
          only = λ row h. same.back row (from_among (live_numbers 0 group) row.span.text ((in_told (live_numbers 0 group) row.span.text).0 (passes here all.0 row h)), all.1.only row (was_member here all.0 row h));
          each = λ row h. let is = same.on row h in is_member here all.0 row (all.1.each row is.1) ((in_told (live_numbers 0 group) row.span.text).1 (to_among (live_numbers 0 group) row.span.text is.0));
        },
      )

  -- ## Spans

  -- a span of the segment as one of the corpus
  abbrev moved : Span → Span
  moved span = span_to (length corpus + position_or_len (nat_eq span.text) (live_numbers 0 group)) span

  one_span : (span other : Span) → IsSpanMetIn tables (live_numbers 0 group) query span → IsSpanMetIn tables (live_numbers 0 group) query other → moved span ≡ moved other → span ≡ other
  one_span span other s t e =
      let a = contained (live_numbers 0 group) span.text s.is_row.listed in
      let b = contained (live_numbers 0 group) other.text t.is_row.listed in
      let texts = ap (λ (x : Span). x.text) e in
      let place : position_or_len (nat_eq span.text) (live_numbers 0 group) ≡ position_or_len (nat_eq other.text) (live_numbers 0 group) = omega (arith, texts) in
      let text : span.text ≡ other.text = sym a.is ∙ ap (λ (k : ℕ). get_or (live_numbers 0 group) k 0) place ∙ b.is in
      let begin = ap (λ (x : Span). x.begin) e in
      let end = ap (λ (x : Span). x.end) e in
      λ i. record { text = text i; begin = begin i; end = end i }

  module _ (none : query.filters ≡ NoMore) (kept more : List Row) (was : Kept images registry corpus query kept) (are : KeptIn tables (live_numbers 0 group) query more)
      (both : Kept images registry (corpus ++ live_texts group) query (kept ++ map (placed (length corpus) (live_numbers 0 group)) more)) where
    abbrev to_corpus : Row → Row
    to_corpus = placed (length corpus) (live_numbers 0 group)

    is_kept : (row : Row) → IsAmong row kept ⊎ IsAmong row (map to_corpus more) → Keeps images registry (corpus ++ live_texts group) query row
    is_kept row (inl m) = both.only row (from_among (kept ++ map to_corpus more) row (in_first row kept (map to_corpus more) m))
    is_kept row (inr m) = both.only row (from_among (kept ++ map to_corpus more) row (in_second row kept (map to_corpus more) m))

    old_or_new : (span : Span) → IsSpan images registry corpus query span ⊎ IsImage moved (IsSpanMetIn tables (live_numbers 0 group) query) span → IsSpan images registry (corpus ++ live_texts group) query span
    old_or_new span (inl s) = record { labels = s.labels; keeps = is_kept (record { span = span; labels = s.labels }) (inl (to_among kept (record { span = span; labels = s.labels }) (was.each (record { span = span; labels = s.labels }) s.keeps))) }
    old_or_new span (inr r) =
        let row : Row = record { span = r.of; labels = r.is.labels } in
        let c = are.each row (record { is_row = r.is.is_row; passes = subst (λ (f : Filters). PassesAllIn tables (live_numbers 0 group) f r.of) (sym none) tt; meets = r.is.meets }) in
        subst (IsSpan images registry (corpus ++ live_texts group) query) (sym r.same) (record { labels = r.is.labels; keeps = is_kept (to_corpus row) (inr (in_map to_corpus more row (to_among more row c))) })

    new_or_old : (span : Span) → IsSpan images registry (corpus ++ live_texts group) query span → IsSpan images registry corpus query span ⊎ IsImage moved (IsSpanMetIn tables (live_numbers 0 group) query) span
    new_or_old span s =
        let row : Row = record { span = span; labels = s.labels } in
        elim (in_either row kept (map to_corpus more) (to_among (kept ++ map to_corpus more) row (both.each row s.keeps))) [
          | inl m ↦ inl (record { labels = s.labels; keeps = was.only row (from_among kept row m) })
          | inr m ↦
              let r = of_map to_corpus more row m in
              let k = are.only r.of (from_among more r.of r.is) in
              inr (record { of = r.of.span; is = record { labels = r.of.labels; is_row = k.is_row; meets = k.meets }; same = ap (λ (x : Row). x.span) r.same })
        ]

    apart : (span : Span) → IsSpan images registry corpus query span → IsImage moved (IsSpanMetIn tables (live_numbers 0 group) query) span → ⊥
    apart span s r =
        let low = slice_get_within corpus span.text s.keeps.is_row.text s.keeps.is_row.there in
        let e = ap (λ (x : Span). x.text) r.same in
        omega (arith, low, e)

    joined_spans : HaveSpans → (count before : ℕ) → HasCount (IsSpanMetIn tables (live_numbers 0 group) query) count → HasSpanTotal images registry corpus query before → HasSpanTotal images registry (corpus ++ live_texts group) query (before + count)
    joined_spans have count before c old =
        let (spans, all) = have images registry (corpus ++ live_texts group) query in
        let first : HasCount (IsSpan images registry corpus query) before = subst (HasCount (IsSpan images registry corpus query)) (sym old.counted) (listed span_cmp (IsSpan images registry corpus query) old.spans span_cmp_total old.are) in
        let second = image moved (IsSpanMetIn tables (live_numbers 0 group) query) count one_span c in
        let sum = alike (λ span. IsSpan images registry corpus query span ⊎ IsImage moved (IsSpanMetIn tables (live_numbers 0 group) query) span) (IsSpan images registry (corpus ++ live_texts group) query) (before + count) old_or_new new_or_old
        (either (IsSpan images registry corpus query) (IsImage moved (IsSpanMetIn tables (live_numbers 0 group) query)) before count apart first second) in
        record { spans = spans; are = all; counted = same_count (IsSpan images registry (corpus ++ live_texts group) query) (before + count) (length spans) sum (listed span_cmp (IsSpan images registry (corpus ++ live_texts group) query) spans span_cmp_total all) }

  pub more_spans : HaveKept → KeptAreTold → KeptAreJoined → HaveSpans → query.filters ≡ NoMore → (count before : ℕ) → HasCount (IsSpanMetIn tables (live_numbers 0 group) query) count → HasSpanTotal images registry corpus query before →
      HasSpanTotal images registry (corpus ++ live_texts group) query (before + count)
  more_spans have told law spans none count before c old =
      let (kept, was) = have images registry corpus query in
      let (more, are) = kept_in have told in
      joined_spans none kept more was are (law images registry corpus group tables query kept more next.fits next.tell was are) spans count before c old

  pub more_tally : HaveKept → KeptAreTold → KeptAreJoined → HaveSpans → RowsAreJoined → HaveRowsIn → AreTablesUnder registry tables → query.filters ≡ NoMore → (rows spans before earlier : ℕ) → HasTallyIn tables live query rows spans →
      HasTally images registry corpus query before earlier → HasTally images registry (corpus ++ live_texts group) query (before + rows) (earlier + spans)
  more_tally have told law have_spans rows_law have_rows under none rows spans before earlier t old =
      let here : HasTallyIn tables (live_numbers 0 group) query rows spans = subst (λ (ns : List ℕ). HasTallyIn tables ns query rows spans) next.numbers t in
      record { rows_are = more_rows rows_law have_rows under rows before here.rows_are old.rows_are; spans_are = more_spans have told law have_spans none spans earlier here.spans_are old.spans_are }

-- ## Too many

pub not_over : (images : Images) (registry : Registry) (corpus : List Text) (query : Query) → query.filters ≡ NoMore → RowsAreOne → (total : ℕ) → HasRowTotal images registry corpus query.head total → total ≤ operand_rows_limit → Over images registry corpus query → ⊥
not_over images registry corpus query none one total has few (inl many) =
    let same = ap (λ (rows : List Row). length rows) (one images registry corpus query.head many.rows has.rows many.are has.are) in
    let more = many.more in
    let is = has.counted in
    omega (arith, same, more, is, few)
not_over images registry corpus query none one total has few (inr any) = subst (OverAny images registry corpus) none any
