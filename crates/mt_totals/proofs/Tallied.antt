-- How many rows and spans there are in texts of a segment, one text after another.
use Rattle.std.proofs.Common.{◌≡◌, ℕ, zero, suc, ◌+◌, ◌<◌, ◌≤◌, ◌⊎◌, inl, inr, List, [], ◌∷◌, ◌++◌, length, get_or, take, drop, slice_get, Some, refl, sym, ◌∙◌, ap, subst, arith}
use Rattle.std.specs.List.{AllPairs, Contains}
use Rattle.std.proofs.lemmas.List.{get_or_default, length-take-le, get_or-take, take_more, take_all, take-append-drop}
use Rattle.std.proofs.lemmas.List.Elements.{Contains-append_left, Contains-append_right, Contains-append_cases}
use Rattle.std.proofs.lemmas.Option.{get_or_from_slice_get, slice_get_within}
use Rattle.mt_text_spec.specs.Orders.{row_cmp, row_cmp_total, span_cmp, span_cmp_total}
use Rattle.mt_text_spec.specs.Queries.{Expr, Filters, NoMore, Query}
use Rattle.mt_text_spec.specs.Texts.{Row, Span}
use Rattle.mt_segment_spec.specs.Tables.{Tables}
use Rattle.mt_eval_spec.specs.RowsIn.{EachLeaves, IsRowIn, KeptIn, PassesAllIn, PassesRoom, RowsIn, SomePasses, expr_at, heads, operands}
use Rattle.mt_eval_spec.specs.Told.{told, told_tokens}
use Rattle.mt_eval_laws.specs.Laws.{LabelsAreInside}
use Rattle.mt_automaton.specs.RowsFrom.{IsRowOfText}
use Rattle.mt_rows.specs.Rows.{IsSpanIn}
use Rattle.mt_tally.proofs.Among.{from_among}
use Rattle.mt_shapes.specs.declared.table.Entry.{Entry}
use Rattle.mt_shapes.specs.Tables.{IsRowOf, TellsRows}
use Rattle.mt_tally.specs.Counts.{HasCount, HasMore}
use Rattle.mt_tally.specs.Tallies.{HasLabelsInside, IsSpanMet}
use Rattle.mt_tally.proofs.Counting.{alike, either, listed, more_of_both, no_more, none_of}
use Rattle.mt_tally.proofs.Pairing.{differ}
use Rattle.mt_totals.specs.Tallies.{HasTallyIn, IsSpanMetIn}
use Rattle.mt_totals.specs.Totals.{HasSpans}

-- there are no more spans than rows
pub few_spans : (tables : Tables) (texts : List ℕ) (query : Query) (rows spans : ℕ) → HasTallyIn tables texts query rows spans → spans ≤ rows
few_spans tables texts query rows spans t =
    no_more (λ (span : Span) (row : Row). row.span ≡ span) (IsSpanMetIn tables texts query) (IsRowIn tables texts query.head) spans rows t.spans_are t.rows_are
    (λ span s. record { other = record { span = span; labels = s.labels }; is = s.is_row; goes = refl }) (λ x z y e f. sym e ∙ f)

-- ## One text

in_one : (y x : ℕ) → Contains (y ∷ []) x → x ≡ y
in_one y x (zero, l, e) = sym e
in_one y x (suc k, l, e) = absurd (omega (arith, l))

pub in_text : (tables : Tables) (expr : Expr) (text : ℕ) (row : Row) → IsRowOfText (told tables text) expr text row → IsRowIn tables (text ∷ []) expr row
in_text tables expr text row h =
    let is : IsRowOfText (told tables row.span.text) expr row.span.text row = subst (λ (t : ℕ). IsRowOfText (told tables t) expr t row) (sym h.text_is) h in
    record { listed = (0, omega arith, sym h.text_is); some = is.some; inside = is.inside; matches = is.matches }

of_text : (tables : Tables) (expr : Expr) (text : ℕ) (row : Row) → IsRowIn tables (text ∷ []) expr row → IsRowOfText (told tables text) expr text row
of_text tables expr text row h =
    let is : IsRowOfText (told tables row.span.text) expr row.span.text row = record { text_is = refl; some = h.some; inside = h.inside; matches = h.matches } in
    subst (λ (t : ℕ). IsRowOfText (told tables t) expr t row) (in_one text row.span.text h.listed) is

module _ (tables : Tables) (query : Query) (text : ℕ) (entries : List Entry) (tells : TellsRows entries (told tables text) query.head) where
  pub told_tally : (rows spans : ℕ) → HasCount (IsRowOf entries text) rows → HasCount (IsSpanMet tables query.conds entries text) spans → HasTallyIn tables (text ∷ []) query rows spans
  told_tally rows spans c d = record {
    rows_are = alike (IsRowOf entries text) (IsRowIn tables (text ∷ []) query.head) rows (λ row r. in_text tables query.head text row (tells.there text row r)) (λ row r. tells.back text row (of_text tables query.head text row r)) c;
    spans_are = alike (IsSpanMet tables query.conds entries text) (IsSpanMetIn tables (text ∷ []) query) spans
        (λ span s. record { labels = s.labels; is_row = in_text tables query.head text (record { span = span; labels = s.labels }) (tells.there text (record { span = span; labels = s.labels }) s.is_row); meets = s.meets })
        (λ span s. record { labels = s.labels; is_row = tells.back text (record { span = span; labels = s.labels }) (of_text tables query.head text (record { span = span; labels = s.labels }) s.is_row); meets = s.meets }) d;
  }

  pub told_more : (room : ℕ) → HasMore (IsRowOf entries text) room → HasMore (IsRowIn tables (text ∷ []) query.head) room
  told_more room h = record { some = h.some; once = h.once; only = λ row m. in_text tables query.head text row (tells.there text row (h.only row m)); more = h.more }

  pub labels_inside : LabelsAreInside → HasLabelsInside entries text (told_tokens tables text)
  labels_inside law row label place r set =
      let h = tells.there text row r in
      subst (λ (t : ℕ). place < told_tokens tables t) h.text_is (law tables (text ∷ []) query.head row label place (in_text tables query.head text row h) set)

-- ## One text more

more_texts : (texts : List ℕ) (k text : ℕ) → slice_get texts k ≡ Some text → take (k + 1) texts ≡ take k texts ++ text ∷ []
more_texts texts k text at = take_more texts k text (slice_get_within texts k text at) ∙ ap (λ (n : ℕ). take k texts ++ n ∷ []) (get_or_from_slice_get texts k text text at)

below : (texts : List ℕ) (k text n : ℕ) → AllPairs (λ (t : ℕ) (later : ℕ). t < later) texts → slice_get texts k ≡ Some text → Contains (take k texts) n → n < text
below texts k text n up at (i, l, e) =
    let within = slice_get_within texts k text at in
    let short : length (take k texts) ≡ k = length-take-le k texts (omega (arith, within)) in
    let low : i < k = omega (arith, l, short) in
    let here : get_or texts i n ≡ n = sym (get_or-take k texts i n low) ∙ e in
    let there : get_or texts k n ≡ text = get_or_from_slice_get texts k text n at in
    let less = up i k n low within in
    omega (arith, less, here, there)

module _ (tables : Tables) (query : Query) where
  nowhere : (row : Row) → IsRowIn tables [] query.head row → ⊥
  nowhere row r = let (k, l, e) = r.listed in omega (arith, l)

  pub no_tally : (texts : List ℕ) → HasTallyIn tables (take 0 texts) query 0 0
  no_tally texts = record {
    rows_are = none_of (IsRowIn tables [] query.head) nowhere;
    spans_are = none_of (IsSpanMetIn tables [] query) (λ span s. nowhere (record { span = span; labels = s.labels }) s.is_row);
  }

  -- a row in some of the texts
  listed_to : (texts others : List ℕ) (row : Row) → (Contains texts row.span.text → Contains others row.span.text) → IsRowIn tables texts query.head row → IsRowIn tables others query.head row
  listed_to texts others row to r = record { listed = to r.listed; some = r.some; inside = r.inside; matches = r.matches }

  module _ (texts : List ℕ) (k text : ℕ) (up : AllPairs (λ (t : ℕ) (later : ℕ). t < later) texts) (at : slice_get texts k ≡ Some text) where
    one_text : (row : Row) → IsRowIn tables (text ∷ []) query.head row → row.span.text ≡ text
    one_text row r = in_one text row.span.text r.listed

    apart : (span : Span) → Contains (take k texts) span.text → span.text ≡ text → ⊥
    apart span c e = let l = below texts k text span.text up at c in omega (arith, l, e)

    by_parts : (row : Row) → IsRowIn tables (take k texts ++ text ∷ []) query.head row → IsRowIn tables (take k texts) query.head row ⊎ IsRowIn tables (text ∷ []) query.head row
    by_parts row r = elim (Contains-append_cases (take k texts) (text ∷ []) row.span.text r.listed) [
      | inl was ↦ inl (listed_to (take k texts ++ text ∷ []) (take k texts) row (λ c. was) r)
      | inr now ↦ inr (listed_to (take k texts ++ text ∷ []) (text ∷ []) row (λ c. now) r)
    ]

    of_first : (row : Row) → IsRowIn tables (take k texts) query.head row → IsRowIn tables (take k texts ++ text ∷ []) query.head row
    of_first row r = listed_to (take k texts) (take k texts ++ text ∷ []) row (λ c. Contains-append_left (take k texts) (text ∷ []) row.span.text c) r

    of_next : (row : Row) → IsRowIn tables (text ∷ []) query.head row → IsRowIn tables (take k texts ++ text ∷ []) query.head row
    of_next row r = listed_to (text ∷ []) (take k texts ++ text ∷ []) row (λ c. Contains-append_right (take k texts) (text ∷ []) row.span.text c) r

    pub next_tally : (rows spans more new : ℕ) → HasTallyIn tables (take k texts) query rows spans → HasTallyIn tables (text ∷ []) query more new → HasTallyIn tables (take (k + 1) texts) query (rows + more) (spans + new)
    next_tally rows spans more new t u =
        subst (λ (ts : List ℕ). HasTallyIn tables ts query (rows + more) (spans + new)) (sym (more_texts texts k text at)) (record {
          rows_are = alike (λ row. IsRowIn tables (take k texts) query.head row ⊎ IsRowIn tables (text ∷ []) query.head row) (IsRowIn tables (take k texts ++ text ∷ []) query.head) (rows + more)
              (λ row h. elim h [ inl was ↦ of_first row was | inr now ↦ of_next row now ]) by_parts
              (either (IsRowIn tables (take k texts) query.head) (IsRowIn tables (text ∷ []) query.head) rows more (λ row r s. apart row.span r.listed (one_text row s)) t.rows_are u.rows_are);
          spans_are = alike (λ span. IsSpanMetIn tables (take k texts) query span ⊎ IsSpanMetIn tables (text ∷ []) query span) (IsSpanMetIn tables (take k texts ++ text ∷ []) query) (spans + new)
              (λ span h. elim h [
                | inl was ↦ record { labels = was.labels; is_row = of_first (record { span = span; labels = was.labels }) was.is_row; meets = was.meets }
                | inr now ↦ record { labels = now.labels; is_row = of_next (record { span = span; labels = now.labels }) now.is_row; meets = now.meets }
              ])
              (λ span s. elim (by_parts (record { span = span; labels = s.labels }) s.is_row) [
                | inl was ↦ inl (record { labels = s.labels; is_row = was; meets = s.meets })
                | inr now ↦ inr (record { labels = s.labels; is_row = now; meets = s.meets })
              ])
              (either (IsSpanMetIn tables (take k texts) query) (IsSpanMetIn tables (text ∷ []) query) spans new
              (λ span r s. apart span r.is_row.listed (one_text (record { span = span; labels = s.labels }) s.is_row)) t.spans_are u.spans_are);
        })

    pub too_many : (rows spans left room : ℕ) → rows + left ≡ room → HasTallyIn tables (take k texts) query rows spans → HasMore (IsRowIn tables (text ∷ []) query.head) left → HasMore (IsRowIn tables texts query.head) room
    too_many rows spans left room sum t more =
        more_of_both (IsRowIn tables (take k texts) query.head) (IsRowIn tables (text ∷ []) query.head) (IsRowIn tables texts query.head) rows left room
        (λ row r. listed_to (take k texts) texts row (λ c. subst (λ (ts : List ℕ). Contains ts row.span.text) (take-append-drop k texts) (Contains-append_left (take k texts) (drop k texts) row.span.text c)) r)
        (λ row r. listed_to (text ∷ []) texts row (λ c. (k, slice_get_within texts k text at, get_or_from_slice_get texts k text row.span.text at ∙ sym (one_text row r))) r)
        (λ row r s. apart row.span r.listed (one_text row s)) sum t.rows_are more

  pub all_texts : (texts : List ℕ) (k rows spans : ℕ) → length texts ≤ k → HasTallyIn tables (take k texts) query rows spans → HasTallyIn tables texts query rows spans
  all_texts texts k rows spans end t = subst (λ (ts : List ℕ). HasTallyIn tables ts query rows spans) (take_all k texts end) t

-- ## Rows that are listed

module _ (tables : Tables) (texts : List ℕ) (query : Query) where
  pub listed_tally : query.filters ≡ NoMore → (rows kept : List Row) (count spans : ℕ) → RowsIn tables texts query.head rows → count ≡ length rows → KeptIn tables texts query kept → HasSpans kept spans → HasTallyIn tables texts query count spans
  listed_tally none rows kept count spans are counted all has = record {
    rows_are = subst (HasCount (IsRowIn tables texts query.head)) (sym counted) (listed row_cmp (IsRowIn tables texts query.head) rows row_cmp_total are);
    spans_are = subst (HasCount (IsSpanMetIn tables texts query)) (sym has.counted)
        (alike (IsSpanIn kept) (IsSpanMetIn tables texts query) (length has.spans)
        (λ span s. let k = all.only (record { span = span; labels = s.labels }) s.contains in record { labels = s.labels; is_row = k.is_row; meets = k.meets })
        (λ span s. record {
          labels = s.labels;
          contains = all.each (record { span = span; labels = s.labels }) (record { is_row = s.is_row; passes = subst (λ (f : Filters). PassesAllIn tables texts f span) (sym none) tt; meets = s.meets });
        })
        (listed span_cmp (IsSpanIn kept) has.spans span_cmp_total has.all));
  }

  pub more_listed : (room : ℕ) → PassesRoom tables texts query.head room → HasMore (IsRowIn tables texts query.head) room
  more_listed room p = record { some = p.rows; once = differ row_cmp row_cmp_total p.rows p.are.ascending; only = λ row m. p.are.only row (from_among p.rows row m); more = p.more }

-- what is left of a room for the head alone
pub record Left (tables : Tables) (texts : List ℕ) (expr : Expr) (room left : ℕ) : Type 0 where
  pub rows : List Row
  pub are : RowsIn tables texts expr rows
  pub within : room ≡ length rows + left

module _ (tables : Tables) (texts : List ℕ) (query : Query) (none : query.filters ≡ NoMore) (room : ℕ) (rooms : List ℕ) (whole : rooms ≡ room ∷ []) where
  one_head : length (heads query) ≡ 1
  one_head = ap (λ (f : Filters). suc (length (operands f))) none

  pub room_passed : SomePasses tables texts (heads query) 0 rooms → PassesRoom tables texts query.head room
  room_passed some =
      let low = some.within in
      let first : some.number ≡ 0 = let one = one_head in omega (arith, low, one) in
      let passes = subst (λ (k : ℕ). PassesRoom tables texts (expr_at (heads query) k) (get_or rooms (0 + k) 0)) first some.passes in
      subst (λ (rs : List ℕ). PassesRoom tables texts query.head (get_or rs 0 0)) whole passes

  pub room_left : (after : List ℕ) (left : ℕ) → EachLeaves tables texts (heads query) 0 rooms after → left ≡ get_or after 0 left → Left tables texts query.head room left
  room_left after left each is =
      let one = one_head in
      let leaves = each.each 0 (omega (arith, one)) in
      let count = each.count in
      let two = ap (λ (rs : List ℕ). length rs) whole in
      let same : get_or after 0 0 ≡ left = get_or_default after 0 0 left (omega (arith, count, two)) ∙ sym is in
      let was : get_or rooms 0 0 ≡ room = ap (λ (rs : List ℕ). get_or rs 0 0) whole in
      let within = leaves.within in
      record { rows = leaves.rows; are = leaves.are; within = omega (arith, within, same, was) }

pub alone : (room : ℕ) (none rooms : List ℕ) → none ≡ [] → rooms ≡ none ++ room ∷ [] → rooms ≡ room ∷ []
alone room none rooms e f = f ∙ ap (λ (rs : List ℕ). rs ++ room ∷ []) e
