-- The rows of an expression have a list.
use Rattle.std.proofs.Common.{◌≡◌, ℕ, zero, suc, ◌+◌, ◌<◌, ◌≤◌, inl, inr, List, [], ◌∷◌, ◌++◌, length, slice_get, slice_index_or, Some, refl, sym, ap, subst, arith}
use Rattle.std.proofs.lemmas.Bool.{cases_eq, cases_lt}
use Rattle.std.proofs.lemmas.Option.{same_Some, slice_get_within}
use Rattle.mt_text_spec.specs.Registries.{Registry}
use Rattle.mt_text_spec.specs.Texts.{Text, StructSpan, Row}
use Rattle.mt_text_spec.specs.Queries.{Test, Expr, TokenTest, Begin, End, Whole, Seq, Choice, Repeat}
use Rattle.mt_text_spec.specs.Orders.{row_cmp_total, same_row, row_cmp}
use Rattle.mt_match_spec.specs.Values.{Images, value_at}
use Rattle.mt_match_spec.specs.Tests.{Holds}
use Rattle.mt_match_spec.specs.Labels.{no_labels, labelled}
use Rattle.mt_match_spec.specs.Matches.{IsToken, IsBegin, IsEnd, IsWhole, Matches, sight}
use Rattle.mt_match_spec.specs.Rows.{IsRow}
use Rattle.mt_match_laws.specs.Laws.{HaveRows}
use Rattle.mt_match_laws.proofs.Members.{Member, to_member, from_member, in_front, in_back, in_either}
use Rattle.mt_match_laws.proofs.Deciding.{Decision, both, all_three, below, at_most, holds}
use Rattle.mt_match_laws.proofs.Listing as listing
use Rattle.mt_match_laws.proofs.Sorting.{sorted, in_order}

pub same_numbers : (m n : ℕ) → Decision (m ≡ n)
same_numbers m n = elim (cases_eq m n) [ inl e ↦ inl e | inr e ↦ inr e ]

-- the values of an instance
abbrev values_of : StructSpan → ℕ → List ℕ
values_of span attr = slice_index_or span.values attr []

-- ---- instances that are picked

abbrev picked : {P : StructSpan → Type 0} → ((span : StructSpan) → Decision (P span)) → (StructSpan → listing.End) → List StructSpan → List listing.End
picked d f [] = []
picked d f (span ∷ spans) = listing.kept (d span) (f span) ++ picked d f spans

record IsPicked (P : StructSpan → Type 0) (f : StructSpan → listing.End) (spans : List StructSpan) (z : listing.End) : Type 0 where
  pub span : StructSpan
  pub member : Member span spans
  pub picks : P span
  pub is : z ≡ f span

is_picked : {P : StructSpan → Type 0} (d : (span : StructSpan) → Decision (P span)) (f : StructSpan → listing.End) (spans : List StructSpan) (z : listing.End) → Member z (picked d f spans) → IsPicked P f spans z
is_picked d f [] z m = absurd m
is_picked d f (span ∷ spans) z m =
    elim (in_either (listing.kept (d span) (f span)) (picked d f spans) z m) [
      | inl n ↦ let h = listing.is_kept (d span) (f span) z n in record { span = span; member = inl refl; picks = h.0; is = h.1 }
      | inr n ↦ let more = is_picked d f spans z n in record { span = more.span; member = inr more.member; picks = more.picks; is = more.is }
    ]

picked_member : {P : StructSpan → Type 0} (d : (span : StructSpan) → Decision (P span)) (f : StructSpan → listing.End) (spans : List StructSpan) (span : StructSpan) → Member span spans → P span → Member (f span) (picked d f spans)
picked_member d f [] span m p = absurd m
picked_member {P = P} d f (a ∷ spans) span (inl e) p =
    in_front (listing.kept (d a) (f a)) (picked d f spans) (f span) (subst (λ (x : StructSpan). Member (f x) (listing.kept (d a) (f a))) (sym e) (listing.keeps (d a) (f a) (subst P e p)))
picked_member d f (a ∷ spans) span (inr m) p = in_back (listing.kept (d a) (f a)) (picked d f spans) (f span) (picked_member d f spans span m p)

-- ---- what matches in a text

abbrev one_end : ℕ → List ℕ → listing.End
one_end place labels = record { place = place; labels = labels }

-- an instance of a kind that meets a test and begins, or ends, at a place
abbrev Opens : ℕ → Test → ℕ → StructSpan → Type 0
Opens kind test place span = (span.kind ≡ kind) × (span.begin ≡ place) × Holds test (values_of span)

abbrev Closes : ℕ → ℕ → StructSpan → Type 0
Closes kind place span = (span.kind ≡ kind) × (span.end ≡ place)

opens : (kind : ℕ) (test : Test) (place : ℕ) (span : StructSpan) → Decision (Opens kind test place span)
opens kind test place span = all_three (same_numbers span.kind kind) (same_numbers span.begin place) (holds test (values_of span))

closes : (kind place : ℕ) (span : StructSpan) → Decision (Closes kind place span)
closes kind place span = both (same_numbers span.kind kind) (same_numbers span.end place)

module _ (images : Images) (registry : Registry) (text : Text) where
  token : (label : ℕ) (test : Test) → listing.Lists (IsToken (sight images registry text) label test)
  token label test = record {
    ends = λ begin. listing.kept (both (below begin (length text.tokens)) (holds test (λ attr. value_at images registry text attr begin))) (one_end (begin + 1) (labelled label begin));
    only = λ begin e m.
        let h = listing.is_kept (both (below begin (length text.tokens)) (holds test (λ attr. value_at images registry text attr begin))) (one_end (begin + 1) (labelled label begin)) e m in
        record { inside = h.0.0; holds = h.0.1; end_is = ap (λ (x : listing.End). x.place) h.1; labels_are = ap (λ (x : listing.End). x.labels) h.1 };
    each = λ begin e t.
        subst (λ (x : listing.End). Member x (listing.kept (both (below begin (length text.tokens)) (holds test (λ attr. value_at images registry text attr begin))) (one_end (begin + 1) (labelled label begin))))
        (λ i. record { place = sym t.end_is i; labels = sym t.labels_are i })
        (listing.keeps (both (below begin (length text.tokens)) (holds test (λ attr. value_at images registry text attr begin))) (one_end (begin + 1) (labelled label begin)) (t.inside, t.holds));
  }

  begin_of : (kind : ℕ) (test : Test) → listing.Lists (IsBegin (sight images registry text) kind test)
  begin_of kind test = record {
    ends = λ begin. picked (opens kind test begin) (λ span. one_end begin no_labels) text.structs;
    only = λ begin e m.
        let h = is_picked (opens kind test begin) (λ span. one_end begin no_labels) text.structs e m in
        record {
          close = h.span.end;
          lies = record { span = h.span; there = from_member text.structs h.span h.member; kind_is = h.picks.0; begins = h.picks.1; ends = refl; holds = h.picks.2 };
          end_is = ap (λ (x : listing.End). x.place) h.is;
          labels_are = ap (λ (x : listing.End). x.labels) h.is;
        };
    each = λ begin e t.
        subst (λ (x : listing.End). Member x (picked (opens kind test begin) (λ span. one_end begin no_labels) text.structs)) (λ i. record { place = sym t.end_is i; labels = sym t.labels_are i })
        (picked_member (opens kind test begin) (λ span. one_end begin no_labels) text.structs t.lies.span (to_member text.structs t.lies.span t.lies.there) (t.lies.kind_is, t.lies.begins, t.lies.holds));
  }

  end_of : (kind : ℕ) → listing.Lists (IsEnd (sight images registry text) kind)
  end_of kind = record {
    ends = λ begin. picked (closes kind begin) (λ span. one_end begin no_labels) text.structs;
    only = λ begin e m.
        let h = is_picked (closes kind begin) (λ span. one_end begin no_labels) text.structs e m in
        record {
          open_at = h.span.begin;
          lies = record { span = h.span; there = from_member text.structs h.span h.member; kind_is = h.picks.0; begins = refl; ends = h.picks.1; holds = tt };
          end_is = ap (λ (x : listing.End). x.place) h.is;
          labels_are = ap (λ (x : listing.End). x.labels) h.is;
        };
    each = λ begin e t.
        subst (λ (x : listing.End). Member x (picked (closes kind begin) (λ span. one_end begin no_labels) text.structs)) (λ i. record { place = sym t.end_is i; labels = sym t.labels_are i })
        (picked_member (closes kind begin) (λ span. one_end begin no_labels) text.structs t.lies.span (to_member text.structs t.lies.span t.lies.there) (t.lies.kind_is, t.lies.ends));
  }

  whole : (kind : ℕ) (test : Test) → listing.Lists (IsWhole (sight images registry text) kind test)
  whole kind test = record {
    ends = λ begin. picked (opens kind test begin) (λ span. one_end span.end no_labels) text.structs;
    only = λ begin e m.
        let h = is_picked (opens kind test begin) (λ span. one_end span.end no_labels) text.structs e m in
        record {
          lies = record { span = h.span; there = from_member text.structs h.span h.member; kind_is = h.picks.0; begins = h.picks.1; ends = sym (ap (λ (x : listing.End). x.place) h.is); holds = h.picks.2 };
          labels_are = ap (λ (x : listing.End). x.labels) h.is;
        };
    each = λ begin e t.
        subst (λ (x : listing.End). Member x (picked (opens kind test begin) (λ span. one_end span.end no_labels) text.structs)) (λ i. record { place = t.lies.ends i; labels = sym t.labels_are i })
        (picked_member (opens kind test begin) (λ span. one_end span.end no_labels) text.structs t.lies.span (to_member text.structs t.lies.span t.lies.there) (t.lies.kind_is, t.lies.begins, t.lies.holds));
  }

  pub matched : (expr : Expr) → listing.Lists (Matches (sight images registry text) expr)
  matched (TokenTest label test) = token label test
  matched (Begin kind test) = begin_of kind test
  matched (End kind) = end_of kind
  matched (Whole kind test) = whole kind test
  matched (Seq left right) = listing.joined (matched left) (matched right)
  matched (Choice left right) = listing.either (matched left) (matched right)
  matched (Repeat inner least most) = listing.repeated (matched inner) least most

-- ---- rows

abbrev row : (number begin : ℕ) → listing.End → Row
row number begin e = record { span = record { text = number; begin = begin; end = e.place }; labels = e.labels }

-- a match becomes a row: it is not empty and ends inside the text
abbrev Fits : ℕ → ℕ → ℕ → Type 0
Fits tokens begin end = (begin < end) × (end ≤ tokens)

fits : (tokens begin end : ℕ) → Decision (Fits tokens begin end)
fits tokens begin end = both (below begin end) (at_most end tokens)

abbrev rows_of : (number tokens begin : ℕ) → List listing.End → List Row
rows_of number tokens begin [] = []
rows_of number tokens begin (e ∷ es) = listing.kept (fits tokens begin e.place) (row number begin e) ++ rows_of number tokens begin es

record IsOfEnds (number tokens begin : ℕ) (es : List listing.End) (r : Row) : Type 0 where
  pub end : listing.End
  pub member : Member end es
  pub fit : Fits tokens begin end.place
  pub is : r ≡ row number begin end

is_of_ends : (number tokens begin : ℕ) (es : List listing.End) (r : Row) → Member r (rows_of number tokens begin es) → IsOfEnds number tokens begin es r
is_of_ends number tokens begin [] r m = absurd m
is_of_ends number tokens begin (e ∷ es) r m =
    elim (in_either (listing.kept (fits tokens begin e.place) (row number begin e)) (rows_of number tokens begin es) r m) [
      | inl n ↦ let h = listing.is_kept (fits tokens begin e.place) (row number begin e) r n in record { end = e; member = inl refl; fit = h.0; is = h.1 }
      | inr n ↦ let more = is_of_ends number tokens begin es r n in record { end = more.end; member = inr more.member; fit = more.fit; is = more.is }
    ]

of_ends : (number tokens begin : ℕ) (es : List listing.End) (e : listing.End) → Member e es → Fits tokens begin e.place → Member (row number begin e) (rows_of number tokens begin es)
of_ends number tokens begin [] e m fit = absurd m
of_ends number tokens begin (a ∷ es) e (inl h) fit =
    in_front (listing.kept (fits tokens begin a.place) (row number begin a)) (rows_of number tokens begin es) (row number begin e)
    (subst (λ (x : listing.End). Member (row number begin x) (listing.kept (fits tokens begin a.place) (row number begin a))) (sym h)
    (listing.keeps (fits tokens begin a.place) (row number begin a) (subst (λ (x : listing.End). Fits tokens begin x.place) h fit)))
of_ends number tokens begin (a ∷ es) e (inr m) fit = in_back (listing.kept (fits tokens begin a.place) (row number begin a)) (rows_of number tokens begin es) (row number begin e) (of_ends number tokens begin es e m fit)

-- from all begins below a count
abbrev rows_below : (number tokens : ℕ) → (ℕ → List listing.End) → ℕ → List Row
rows_below number tokens ends zero = []
rows_below number tokens ends (suc begin) = rows_of number tokens begin (ends begin) ++ rows_below number tokens ends begin

record IsBelowCount (number tokens : ℕ) (ends : ℕ → List listing.End) (count : ℕ) (r : Row) : Type 0 where
  pub begin : ℕ
  pub before : begin < count
  pub of : IsOfEnds number tokens begin (ends begin) r

is_below : (number tokens : ℕ) (ends : ℕ → List listing.End) (count : ℕ) (r : Row) → Member r (rows_below number tokens ends count) → IsBelowCount number tokens ends count r
is_below number tokens ends zero r m = absurd m
is_below number tokens ends (suc count) r m =
    elim (in_either (rows_of number tokens count (ends count)) (rows_below number tokens ends count) r m) [
      | inl n ↦ record { begin = count; before = omega arith; of = is_of_ends number tokens count (ends count) r n }
      | inr n ↦ let more = is_below number tokens ends count r n in record { begin = more.begin; before = omega (arith, more.before); of = more.of }
    ]

below_member : (number tokens : ℕ) (ends : ℕ → List listing.End) (count begin : ℕ) (r : Row) → begin < count → Member r (rows_of number tokens begin (ends begin)) → Member r (rows_below number tokens ends count)
below_member number tokens ends zero begin r l m = absurd (omega (arith, l))
below_member number tokens ends (suc count) begin r l m =
    elim (cases_lt begin count) [
      | inl less ↦ in_back (rows_of number tokens count (ends count)) (rows_below number tokens ends count) r (below_member number tokens ends count begin r less m)
      | inr last ↦ let same : begin ≡ count = omega (arith, l, last) in
          in_front (rows_of number tokens count (ends count)) (rows_below number tokens ends count) r (subst (λ (b : ℕ). Member r (rows_of number tokens b (ends b))) same m)
    ]

module _ (images : Images) (registry : Registry) (expr : Expr) where
  abbrev rows_in : ℕ → Text → List Row
  rows_in number text = rows_below number (length text.tokens) (matched images registry text expr).ends (length text.tokens)

  -- a row of one text, by the text's number
  record IsRowIn (number : ℕ) (text : Text) (r : Row) : Type 0 where
    pub number_is : r.span.text ≡ number
    pub some : r.span.begin < r.span.end
    pub inside : r.span.end ≤ length text.tokens
    pub matches : Matches (sight images registry text) expr r.span.begin r.span.end r.labels

  is_row_in : (number : ℕ) (text : Text) (r : Row) → Member r (rows_in number text) → IsRowIn number text r
  is_row_in number text r m =
      let b = is_below number (length text.tokens) (matched images registry text expr).ends (length text.tokens) r m in
      subst (λ (x : Row). IsRowIn number text x) (sym b.of.is)
      (record { number_is = refl; some = b.of.fit.0; inside = b.of.fit.1; matches = (matched images registry text expr).only b.begin b.of.end b.of.member })

  row_member : (number : ℕ) (text : Text) (r : Row) → IsRowIn number text r → Member r (rows_in number text)
  row_member number text r h =
      below_member number (length text.tokens) (matched images registry text expr).ends (length text.tokens) r.span.begin r (omega (arith, h.some, h.inside))
      (subst (λ (n : ℕ). Member (record { span = record { text = n; begin = r.span.begin; end = r.span.end }; labels = r.labels }) (rows_of number (length text.tokens) r.span.begin ((matched images registry text expr).ends r.span.begin)))
      (sym h.number_is)
      (of_ends number (length text.tokens) r.span.begin ((matched images registry text expr).ends r.span.begin) (one_end r.span.end r.labels)
      ((matched images registry text expr).each r.span.begin (one_end r.span.end r.labels) h.matches) (h.some, h.inside)))

  -- of all texts, of which the first has the number `first`
  abbrev rows_from : ℕ → List Text → List Row
  rows_from first [] = []
  rows_from first (text ∷ texts) = rows_in first text ++ rows_from (suc first) texts

  record IsRowFrom (first : ℕ) (texts : List Text) (r : Row) : Type 0 where
    pub at : ℕ
    pub text : Text
    pub there : slice_get texts at ≡ Some text
    pub of : IsRowIn (first + at) text r

  is_row_from : (first : ℕ) (texts : List Text) (r : Row) → Member r (rows_from first texts) → IsRowFrom first texts r
  is_row_from first [] r m = absurd m
  is_row_from first (text ∷ texts) r m =
      elim (in_either (rows_in first text) (rows_from (suc first) texts) r m) [
        | inl n ↦ let e : first ≡ first + 0 = omega arith in record { at = 0; text = text; there = refl; of = subst (λ (k : ℕ). IsRowIn k text r) e (is_row_in first text r n) }
        | inr n ↦ let more = is_row_from (suc first) texts r n in let e : suc first + more.at ≡ first + suc more.at = omega arith in
            record { at = suc more.at; text = more.text; there = more.there; of = subst (λ (k : ℕ). IsRowIn k more.text r) e more.of }
      ]

  from_member_of : (first : ℕ) (texts : List Text) (at : ℕ) (text : Text) (r : Row) → slice_get texts at ≡ Some text → IsRowIn (first + at) text r → Member r (rows_from first texts)
  from_member_of first [] at text r there h = absurd (omega (arith, slice_get_within [] at text there))
  from_member_of first (a ∷ texts) zero text r there h =
      let e : first + 0 ≡ first = omega arith in
      in_front (rows_in first a) (rows_from (suc first) texts) r
      (row_member first a r (subst (λ (t : Text). IsRowIn first t r) (sym (same_Some a text there)) (subst (λ (k : ℕ). IsRowIn k text r) e h)))
  from_member_of first (a ∷ texts) (suc at) text r there h =
      let e : first + suc at ≡ suc first + at = omega arith in
      in_back (rows_in first a) (rows_from (suc first) texts) r (from_member_of (suc first) texts at text r there (subst (λ (k : ℕ). IsRowIn k text r) e h))

  only_rows : (corpus : List Text) (r : Row) → Member r (rows_from 0 corpus) → IsRow images registry corpus expr r
  only_rows corpus r m =
      let h = is_row_from 0 corpus r m in
      let e : h.at ≡ r.span.text = omega (arith, h.of.number_is) in
      record { text = h.text; there = subst (λ (k : ℕ). slice_get corpus k ≡ Some h.text) e h.there; some = h.of.some; inside = h.of.inside; matches = h.of.matches }

  each_row : (corpus : List Text) (r : Row) → IsRow images registry corpus expr r → Member r (rows_from 0 corpus)
  each_row corpus r h = from_member_of 0 corpus r.span.text h.text r h.there (record { number_is = omega arith; some = h.some; inside = h.inside; matches = h.matches })

pub rows_listed : HaveRows
rows_listed images registry corpus expr =
    (sorted row_cmp (rows_from images registry expr 0 corpus), in_order row_cmp_total same_row (IsRow images registry corpus expr) (rows_from images registry expr 0 corpus) (only_rows images registry expr corpus) (each_row images registry expr corpus))
