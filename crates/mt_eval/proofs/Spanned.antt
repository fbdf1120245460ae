-- The rows of a tag alone, one span after another.
use Rattle.std.proofs.Common.{◌≡◌, ℕ, ◌+◌, ◌<◌, ◌≤◌, ◌⊎◌, true, Result, Ok, Err, List, [], ◌∷◌, ◌++◌, length, map, take, drop, get_or, slice_get, Some, inl, inr, refl, sym, ap, ◌∙◌, subst, arith}
use Rattle.std.specs.Ordering.{nat_cmp, ordering_then}
use Rattle.std.specs.Cmp.Lexicographic.{slice_cmp}
use Rattle.std.specs.declared.cmp.Ordering.TheVariants.{Less}
use Rattle.std.specs.List.{All, AllByRecursion, AllPairs, AllZip, Contains}
use Rattle.std.specs.List.Sorted.{IsBinarySearchResult, IsStrictlySortedBy}
use Rattle.std.specs.Prelude.{MatchResult, is_ok}
use Rattle.std.proofs.lemmas.Bool.{cases_lt}
use Rattle.std.proofs.lemmas.List.Sorted.{searched}
use Rattle.std.proofs.lemmas.List.{get_or_default, length-append, length-map, length-take-le, get_or-take, take_all, take_more, take-append-drop}
use Rattle.std.proofs.lemmas.List.Elements.{All-contains, Contains-append_left, Contains-append_right, Contains-push_cases}
use Rattle.std.proofs.lemmas.Map.Keys.{Less-from_sorted}
use Rattle.std.proofs.lemmas.Option.{get_or_from_slice_get, slice_get_within}
use Rattle.mt_text_spec.specs.Registries.{Registry}
use Rattle.mt_text_spec.specs.Texts.{Row, Span}
use Rattle.mt_text_spec.specs.Queries as q
use Rattle.mt_text_spec.specs.Orders.{row_cmp, span_cmp}
use Rattle.mt_query_spec.specs.Contents.{tags}
use Rattle.mt_query_spec.specs.Valid.{ValidExpr}
use Rattle.mt_match_spec.specs.Labels.{no_labels}
use Rattle.mt_match_spec.specs.Matches.{Matches}
use Rattle.mt_match_spec.specs.Rows.{ListsAll}
use Rattle.mt_segment_spec.specs.Tables.{Tables, AreTables, AreTablesUnder}
use Rattle.mt_segment_laws.specs.Laws.{InstancesLieInTexts}
use Rattle.mt_rows.specs.Rows.{IsSpanIn}
use Rattle.mt_rows.specs.Laws.{Member, from_member, to_member}
use Rattle.mt_rows.proofs.SpansOf.{span_list}
use Rattle.mt_prepare.specs.Prepared.{TagSpans}
use Rattle.mt_eval_spec.specs.Told.{told}
use Rattle.mt_eval_spec.specs.RowsIn.{IsRowIn, PassesRoom, RowsIn}
use Rattle.mt_eval_laws.specs.Laws.{HaveRowsIn, NoMoreThanAll}
use Rattle.mt_eval.specs.Runs.{AreTexts}
use Rattle.mt_eval.specs.Spans.{AreSpansOfRows, AreSpansOfTag, HasRow, IsTag}
use Rattle.mt_eval.proofs.Behind.{one_behind}
use Rattle.mt_eval.proofs.Distinct.{listed}
use Rattle.mt_eval.proofs.Instances.{ends_inside}
use Rattle.mt_eval.proofs.Rowed.{nothing_ascends}
use Rattle.mt_eval.proofs.Walked.{none_in}

-- ---- a tag's spans

pub of_ready : (tables : Tables) (expr : q.Expr) (lists : List (List Span)) (d : List Span) → IsTag expr → AllZip (TagSpans tables) (tags expr) lists → (0 < length lists) × AreSpansOfTag tables expr (get_or lists 0 d)
of_ready tables (q.TokenTest label test) lists d is all = absurd is
of_ready tables (q.Begin kind test) lists d is all = absurd is
of_ready tables (q.End kind) lists d is all = absurd is
of_ready tables (q.Whole kind test) [] d is all = absurd all
of_ready tables (q.Whole kind test) (spans ∷ more) d is all = (omega arith, record { kind = kind; test = test; is = refl; are = all.0 })
of_ready tables (q.Seq left right) lists d is all = absurd is
of_ready tables (q.Choice left right) lists d is all = absurd is
of_ready tables (q.Repeat inner least most) lists d is all = absurd is

-- ---- texts

-- what a search among ascending texts found
pub found_listed : (texts : List ℕ) (text : ℕ) (found : Result ℕ ℕ) → IsBinarySearchResult (λ y. nat_cmp y text) texts found → AllPairs (λ (t : ℕ) (later : ℕ). t < later) texts → (is_ok found ≡ true → Contains texts text) × (Contains texts text → is_ok found ≡ true)
found_listed texts text found result pairs = by found (searched texts text found result rise)
  where
    rise : (i j : ℕ) → i ≤ j → j < length texts → get_or texts i 0 ≤ get_or texts j 0
    rise i j l h = elim (cases_lt i j) [
      | inl low ↦ let p : get_or texts i 0 < get_or texts j 0 = pairs i j 0 low h in omega (arith, p)
      | inr same ↦ let e : j ≡ i = omega (arith, l, same) in subst (λ (k : ℕ). get_or texts i 0 ≤ get_or texts k 0) (sym e) (omega arith)
    ]

    by : (r : Result ℕ ℕ) → MatchResult r (λ i. (i < length texts) × (get_or texts i 0 ≡ text)) (λ i. (i ≤ length texts) × ((k : ℕ) → k < i → get_or texts k 0 < text) × ((k : ℕ) → i ≤ k → k < length texts → text < get_or texts k 0)) →
        (is_ok r ≡ true → Contains texts text) × (Contains texts text → is_ok r ≡ true)
    by (Ok i) h = ((λ t. (i, h.0, get_or_default texts i text 0 h.0 ∙ h.1)), (λ c. refl))
    by (Err i) h = (
      (λ t. let never : ⊥ = cc in absurd never),
      (λ c.
          let here : get_or texts c.0 0 ≡ text = sym (get_or_default texts c.0 text 0 c.1) ∙ c.2 in
          elim (cases_lt c.0 i) [
            | inl low ↦ let p = h.1 c.0 low in absurd (omega (arith, p, here))
            | inr high ↦ let p = h.2 c.0 high c.1 in absurd (omega (arith, p, here))
          ]),
    )

-- ---- rows of spans

-- the row of a span
abbrev pub bare : Span → Row
bare span = record { span = span; labels = no_labels }

-- the row of one of some spans
pub record IsRowOf (texts : List ℕ) (spans : List Span) (row : Row) : Type 0 where
  pub there : Contains spans row.span
  pub has : HasRow texts row.span
  pub labels_are : row.labels ≡ no_labels

is_bare : (row : Row) → row.labels ≡ no_labels → row ≡ bare row.span
is_bare row e = λ i. record { span = row.span; labels = e i }

row_less : (x y : Row) → span_cmp x.span y.span ≡ Less → row_cmp x y ≡ Less
row_less x y e = ap (λ o. ordering_then o (slice_cmp nat_cmp x.labels y.labels)) e

one_ascends : (row : Row) → IsStrictlySortedBy row_cmp (row ∷ [])
unfolding IsStrictlySortedBy
one_ascends row = (tt, tt)

pub none_yet : (texts : List ℕ) (spans : List Span) → ListsAll row_cmp (IsRowOf texts (take 0 spans)) []
none_yet texts spans = record { ascending = nothing_ascends; only = λ row c. absurd (none_in row c); each = λ row r. absurd (none_in row.span r.there) }

module _ (texts : List ℕ) (spans : List Span) (k : ℕ) (span : Span) (at : slice_get spans k ≡ Some span) where
  within : k < length spans
  within = slice_get_within spans k span at

  more_spans : take (k + 1) spans ≡ take k spans ++ span ∷ []
  more_spans = take_more spans k span within ∙ ap (λ (s : Span). take k spans ++ s ∷ []) (get_or_from_slice_get spans k span span at)

  earlier : IsStrictlySortedBy span_cmp spans → (s : Span) → Contains (take k spans) s → span_cmp s span ≡ Less
  earlier sorted s (i, l, e) =
      let low_k = within in
      let short : length (take k spans) ≡ k = length-take-le k spans (omega (arith, low_k)) in
      let low : i < k = omega (arith, l, short) in
      let here : get_or spans i s ≡ s = sym (get_or-take k spans i s low) ∙ e in
      let there : get_or spans k s ≡ span = get_or_from_slice_get spans k span s at in
      subst (λ (b : Span). span_cmp s b ≡ Less) there (subst (λ (a : Span). span_cmp a (get_or spans k s) ≡ Less) here (Less-from_sorted span_cmp spans i k s sorted low within))

  one_more : (row : Row) → IsRowOf texts (take k spans) row → IsRowOf texts (take (k + 1) spans) row
  one_more row r = record { there = subst (λ (ss : List Span). Contains ss row.span) (sym more_spans) (Contains-append_left (take k spans) (span ∷ []) row.span r.there); has = r.has; labels_are = r.labels_are }

  its_row : HasRow texts span → IsRowOf texts (take (k + 1) spans) (bare span)
  its_row has = record { there = subst (λ (ss : List Span). Contains ss span) (sym more_spans) (Contains-append_right (take k spans) (span ∷ []) span (0, omega arith, refl)); has = has; labels_are = refl }

  -- a row of the spans so far is one of those before the last, or of the last
  which : (row : Row) → IsRowOf texts (take (k + 1) spans) row → Contains (take k spans) row.span ⊎ (span ≡ row.span)
  which row r = Contains-push_cases (take k spans) span row.span (subst (λ (ss : List Span). Contains ss row.span) more_spans r.there)

  -- the span has a row
  pub next_row : IsStrictlySortedBy span_cmp spans → HasRow texts span → (old new : List Row) → new ≡ old ++ bare span ∷ [] → ListsAll row_cmp (IsRowOf texts (take k spans)) old → ListsAll row_cmp (IsRowOf texts (take (k + 1) spans)) new
  next_row sorted has old new pushed a =
      subst (ListsAll row_cmp (IsRowOf texts (take (k + 1) spans))) (sym pushed)
      (record {
        ascending = one_behind old (bare span ∷ []) a.ascending (one_ascends (bare span)) (λ x y m n. elim n [
          | inl e ↦ subst (λ (z : Row). row_cmp x z ≡ Less) (sym e) (row_less x (bare span) (earlier sorted x.span (a.only x (from_member old x m)).there))
          | inr none ↦ absurd none
        ]);
        only = λ row c. elim (Contains-push_cases old (bare span) row c) [
          | inl was ↦ one_more row (a.only row was)
          | inr same ↦ subst (IsRowOf texts (take (k + 1) spans)) same (its_row has)
        ];
        each = λ row r. elim (which row r) [
          | inl was ↦ Contains-append_left old (bare span ∷ []) row (a.each row (record { there = was; has = r.has; labels_are = r.labels_are }))
          | inr same ↦ Contains-append_right old (bare span ∷ []) row (0, omega arith, ap bare same ∙ sym (is_bare row r.labels_are))
        ];
      })

  -- the span has none
  pub no_row : (HasRow texts span → ⊥) → (old : List Row) → ListsAll row_cmp (IsRowOf texts (take k spans)) old → ListsAll row_cmp (IsRowOf texts (take (k + 1) spans)) old
  no_row none old a = record {
    ascending = a.ascending;
    only = λ row c. one_more row (a.only row c);
    each = λ row r. elim (which row r) [
      | inl was ↦ a.each row (record { there = was; has = r.has; labels_are = r.labels_are })
      | inr same ↦ absurd (none (subst (HasRow texts) (sym same) r.has))
    ];
  }

-- ---- a row of each span

all_less : (x : Span) (spans : List Span) → AllByRecursion (λ y. span_cmp x y ≡ Less) spans → AllByRecursion (λ row. row_cmp (bare x) row ≡ Less) (map bare spans)
all_less x [] a = tt
all_less x (y ∷ ys) a = (row_less (bare x) (bare y) a.0, all_less x ys a.1)

bare_ascend : (spans : List Span) → IsStrictlySortedBy span_cmp spans → IsStrictlySortedBy row_cmp (map bare spans)
unfolding IsStrictlySortedBy
bare_ascend [] s = tt
bare_ascend (x ∷ xs) s = (all_less x xs s.0, bare_ascend xs s.1)

of_bare : (spans : List Span) (row : Row) → Member row (map bare spans) → Member row.span spans × (row.labels ≡ no_labels)
of_bare [] row m = absurd m
of_bare (x ∷ xs) row (inl e) = (inl (ap (λ (r : Row). r.span) e), ap (λ (r : Row). r.labels) e)
of_bare (x ∷ xs) row (inr m) = let h = of_bare xs row m in (inr h.0, h.1)

to_bare : (spans : List Span) (row : Row) → Member row.span spans → row.labels ≡ no_labels → Member row (map bare spans)
to_bare [] row m e = absurd m
to_bare (x ∷ xs) row (inl same) e = inl (is_bare row e ∙ ap bare same)
to_bare (x ∷ xs) row (inr m) e = inr (to_bare xs row m e)

bare_rows : (texts : List ℕ) (spans : List Span) → IsStrictlySortedBy span_cmp spans → All (HasRow texts) spans → ListsAll row_cmp (IsRowOf texts spans) (map bare spans)
bare_rows texts spans s have = record {
  ascending = bare_ascend spans s;
  only = λ row c.
      let h = of_bare spans row (to_member (map bare spans) row c) in
      let there = from_member spans row.span h.0 in
      record { there = there; has = All-contains (HasRow texts) spans row.span have there; labels_are = h.1 };
  each = λ row r. from_member (map bare spans) row (to_bare spans row (to_member spans row.span r.there) r.labels_are);
}

spans_back : (spans : List Span) → span_list (map bare spans) ≡ spans
spans_back [] = refl
spans_back (x ∷ xs) = ap (λ (ss : List Span). x ∷ ss) (spans_back xs)

bare_spans : (spans : List Span) → IsStrictlySortedBy span_cmp spans → ListsAll span_cmp (IsSpanIn (map bare spans)) spans
bare_spans spans s =
    subst (λ (ss : List Span). ListsAll span_cmp (IsSpanIn (map bare spans)) ss) (spans_back spans)
    (listed (map bare spans) (subst (IsStrictlySortedBy span_cmp) (sym (spans_back spans)) s))

-- ---- rows of the expression

of_front : (spans : List Span) (n : ℕ) (span : Span) → Contains (take n spans) span → Contains spans span
of_front spans n span c = subst (λ (ss : List Span). Contains ss span) (take-append-drop n spans) (Contains-append_left (take n spans) (drop n spans) span c)

module _ (law : InstancesLieInTexts) (tables : Tables) (known : AreTables tables) (texts : List ℕ) (listed : AreTexts tables texts) (expr : q.Expr) (spans : List Span) (is : AreSpansOfTag tables expr spans) where
  told_row : (row : Row) → IsRowOf texts spans row → IsRowIn tables texts expr row
  told_row row r =
      let its = is.are.only row.span r.there in
      record {
        listed = r.has.1;
        some = r.has.0;
        inside = ends_inside law tables known row.span.text is.kind is.test row.span.begin row.span.end its.1;
        matches = subst (λ (e : q.Expr). Matches (told tables row.span.text) e row.span.begin row.span.end row.labels) (sym is.is) (record { lies = its.1; labels_are = r.labels_are });
      }

  back : (row : Row) → IsRowIn tables texts expr row → IsRowOf texts spans row
  back row r =
      let whole = subst (λ (e : q.Expr). Matches (told tables row.span.text) e row.span.begin row.span.end row.labels) is.is r.matches in
      record {
        there = is.are.each row.span (All-contains (λ (text : ℕ). text < length tables.texts) texts row.span.text listed.within r.listed, whole.lies);
        has = (r.some, r.listed);
        labels_are = whole.labels_are;
      }

  whole_rows : (rows : List Row) → ListsAll row_cmp (IsRowOf texts spans) rows → RowsIn tables texts expr rows
  whole_rows rows whole = record { ascending = whole.ascending; only = λ row c. told_row row (whole.only row c); each = λ row r. whole.each row (back row r) }

  pub all_rows : (k : ℕ) (rows : List Row) → length spans ≤ k → ListsAll row_cmp (IsRowOf texts (take k spans)) rows → RowsIn tables texts expr rows
  all_rows k rows end a = whole_rows rows (subst (λ (ss : List Span). ListsAll row_cmp (IsRowOf texts ss) rows) (take_all k spans end) a)

  -- each span has a row
  pub all_lent : All (HasRow texts) spans → AreSpansOfRows tables texts expr spans
  all_lent have = record {
    rows = map bare spans;
    are = whole_rows (map bare spans) (bare_rows texts spans is.are.ascending have);
    spans_are = bare_spans spans is.are.ascending;
    count = length-map spans bare;
  }

  -- one row more than there is room for
  pub too_many : HaveRowsIn → NoMoreThanAll → (registry : Registry) → AreTablesUnder registry tables → ValidExpr registry expr → (k : ℕ) (span : Span) (room : ℕ) (old : List Row) → slice_get spans k ≡ Some span → HasRow texts span →
      room ≤ length old → ListsAll row_cmp (IsRowOf texts (take k spans)) old → PassesRoom tables texts expr room
  too_many have no_more registry under valid k span room old at has full a =
      let all = have registry tables texts expr under valid in
      let some = old ++ bare span ∷ [] in
      let more = next_row texts spans k span at is.are.ascending has old some refl a in
      let low = no_more some all.0 more.ascending all.1.ascending (λ row c. let r = more.only row c in
      all.1.each row (told_row row (record { there = of_front spans (k + 1) row.span r.there; has = r.has; labels_are = r.labels_are }))) in
      let long = length-append old (bare span ∷ []) in
      record { rows = all.0; are = all.1; more = omega (arith, low, long, full) }
