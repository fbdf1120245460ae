-- The rows of a sequence in a text, by the places of one of its tests.
use Rattle.std.proofs.Common.{◌≡◌, ℕ, zero, suc, ◌+◌, ◌<◌, ◌≤◌, inl, inr, List, [], ◌∷◌, ◌++◌, length, take, refl, sym, ◌∙◌, ap, subst, arith}
use Rattle.std.specs.List.{Contains}
use Rattle.std.specs.List.Sorted.{IsStrictlySortedBy}
use Rattle.std.specs.Ordering.{nat_cmp, ordering_then}
use Rattle.std.specs.Cmp.{nat_cmp_is}
use Rattle.std.specs.Cmp.Lexicographic.{slice_cmp}
use Rattle.std.specs.declared.cmp.Ordering.TheVariants.{Less, Equal}
use Rattle.std.proofs.lemmas.Bool.{cases_lt}
use Rattle.std.specs.List.{sum_by}
use Rattle.std.proofs.lemmas.List.{length-append, append-nil, take-take}
use Rattle.std.proofs.lemmas.List.Elements.{Contains-append_left, Contains-append_right, Contains-append_cases}
use Rattle.std.proofs.lemmas.List.Sums.{sum-map, sum_by_more, sum_by-take-le}
use Rattle.mt_text_spec.specs.Texts.{Row, Span}
use Rattle.mt_text_spec.specs.Queries as q
use Rattle.mt_text_spec.specs.Orders.{row_cmp}
use Rattle.mt_query_spec.specs.Contents.{token_tests}
use Rattle.mt_match_spec.specs.Labels.{no_labels, united}
use Rattle.mt_match_spec.specs.Rows.{ListsAll}
use Rattle.mt_segment_spec.specs.Tables.{Tables, first_place, token_count}
use Rattle.mt_eval_spec.specs.Told.{told, told_tokens}
use Rattle.mt_automaton.specs.RowsFrom.{IsRowOfText, HasLonger}
use Rattle.mt_rows.specs.Appends.{Appends}
use Rattle.mt_rows.specs.Laws.{from_member}
use Rattle.mt_prepare.specs.declared.resolved.Resolved.{Resolved}
use Rattle.mt_prepare.specs.Resolved.{Resolves}
use Rattle.mt_prepare.specs.TestRows.{SaysAt}
use Rattle.mt_eval.specs.Sequences.{AreTestsOf, BeginsAt, IsRowAt, IsRowBelow, SayFrom, labels_from, row_from, test_at}
use Rattle.mt_eval.proofs.Behind.{one_behind}
use Rattle.mt_eval.proofs.Unions.{nine_labels, only_these}
use Rattle.mt_eval.proofs.Sequenced.{matched, matches, some_test, say_hold, hold_say}
use Rattle.mt_eval.proofs.Exprs.{same_count}
use Rattle.mt_eval.proofs.Walked.{none_in}

-- ---- texts in their segment

abbrev tokens_in : List ℕ × ℕ → ℕ
tokens_in head = head.1

pub next_first : (tables : Tables) (text : ℕ) → text < length tables.texts → first_place tables text + told_tokens tables text ≡ first_place tables (text + 1)
next_first tables text l =
    let a = sum-map tokens_in (take text tables.texts) in
    let b = sum-map tokens_in (take (text + 1) tables.texts) in
    let d : List ℕ × ℕ = ([], 0) in
    let c = sum_by_more tokens_in tables.texts text d l in
    omega (arith, a, b, c)

pub in_segment : (tables : Tables) (text : ℕ) → first_place tables text ≤ token_count tables
in_segment tables text =
    let a = sum-map tokens_in (take text tables.texts) in
    let b = sum-map tokens_in tables.texts in
    let c = sum_by-take-le tokens_in tables.texts text in
    omega (arith, a, b, c)

pub later_first : (tables : Tables) (text later : ℕ) → text ≤ later → first_place tables text ≤ first_place tables later
later_first tables text later l =
    let heads : List (List ℕ × ℕ) = take later tables.texts in
    let a = sum-map tokens_in (take text tables.texts) in
    let b = sum-map tokens_in heads in
    let c = sum_by-take-le tokens_in heads text in
    let e = ap (λ (xs : List (List ℕ × ℕ)). sum_by tokens_in xs) (take-take text later tables.texts l) in
    omega (arith, a, b, c, e)

-- ---- rows and begins

-- a row by its parts
pub made : (expr : q.Expr) (text begin end : ℕ) (row : Row) (span : Span) (labels : List ℕ) → row ≡ record { span = span; labels = labels } → span ≡ record { text = text; begin = begin; end = end } → end ≡ begin + length (token_tests expr) →
    labels ≡ united no_labels (labels_from expr begin) → row ≡ row_from expr text begin
made expr text begin end row span labels is at to set =
    let these : labels ≡ labels_from expr begin = set ∙ only_these (labels_from expr begin) (nine_labels expr begin) in
    is ∙ (λ i. record { span = (at ∙ ap (λ (n : ℕ). record { text = text; begin = begin; end = n }) to) i; labels = these i })

pub begins_before : (r s : Row) → r.span.text ≡ s.span.text → r.span.begin < s.span.begin → row_cmp r s ≡ Less
begins_before r s e h =
    let rest = slice_cmp nat_cmp r.labels s.labels in
    let ends = nat_cmp r.span.end s.span.end in
    let texts : nat_cmp r.span.text s.span.text ≡ Equal = sym (nat_cmp_is r.span.text s.span.text Equal e) in
    ap (λ o. ordering_then (ordering_then o (ordering_then (nat_cmp r.span.begin s.span.begin) ends)) rest) texts
    ∙ ap (λ o. ordering_then (ordering_then o ends) rest) (sym (nat_cmp_is r.span.begin s.span.begin Less h))

pub nothing_ascends : IsStrictlySortedBy row_cmp []
unfolding IsStrictlySortedBy
nothing_ascends = tt

pub one_ascends : (row : Row) → IsStrictlySortedBy row_cmp (row ∷ [])
unfolding IsStrictlySortedBy
one_ascends row = (tt, tt)

module _ (tables : Tables) (expr : q.Expr) (tests : List Resolved) (text : ℕ) (are : AreTestsOf tables expr tests) (here : text < length tables.texts) where
  abbrev InText : Row → Type 0
  InText row = IsRowOfText (told tables text) expr text row

  pub many : length tests ≡ length (token_tests expr)
  many = same_count (Resolves tables) (token_tests expr) tests are.are

  low : first_place tables text + told_tokens tables text ≤ token_count tables
  low = let next = next_first tables text here in let in_it = in_segment tables (text + 1) in omega (arith, next, in_it)

  pub as_row : (by place begin : ℕ) → BeginsAt tables tests by (first_place tables text) (first_place tables (text + 1)) place begin → IsRowAt tables expr text by place (row_from expr text begin)
  as_row by place begin b =
      let some = some_test expr are.is in
      let next = next_first tables text here in
      let inside = b.inside in
      let long = many in
      record {
        is = record {
          text_is = refl;
          some = omega (arith, some);
          inside = omega (arith, inside, next, long);
          matches = matches (told tables text) expr are.is begin (say_hold (told tables text) tables (first_place tables text) (λ test p h. h) low (token_tests expr) tests begin are.are (omega (arith, inside, next)) b.say);
        };
        at = b.at;
      }

  says : (row : Row) → InText row → SayFrom tables tests 0 (length tests) (first_place tables text + row.span.begin)
  says row is = hold_say (told tables text) tables (first_place tables text) (λ test p h. h) low (token_tests expr) tests row.span.begin are.are (matched (told tables text) expr are.is row.span.begin row.span.end row.labels is.matches).hold

  ends : (row : Row) → InText row → row.span.begin + length tests ≤ told_tokens tables text
  ends row is = let e = (matched (told tables text) expr are.is row.span.begin row.span.end row.labels is.matches).end_is in let inside = is.inside in let long = many in omega (arith, e, inside, long)

  pub as_begin : (by place : ℕ) (row : Row) → IsRowAt tables expr text by place row → BeginsAt tables tests by (first_place tables text) (first_place tables (text + 1)) place row.span.begin
  as_begin by place row r = let next = next_first tables text here in let end = ends row r.is in record { at = r.at; inside = omega (arith, next, end); say = says row r.is }

  -- a row is the sequence's where it begins
  pub is_from : (row : Row) → InText row → row ≡ row_from expr text row.span.begin
  is_from row is = let h = matched (told tables text) expr are.is row.span.begin row.span.end row.labels is.matches in
      λ i. record { span = record { text = is.text_is i; begin = row.span.begin; end = h.end_is i }; labels = h.labels_are i }

  -- the place at which one of its tests is met lies in the text, and there the test says so
  pub met_at : (by : ℕ) (row : Row) → by < length tests → InText row → (first_place tables text + row.span.begin + by < first_place tables (text + 1)) × SaysAt tables (test_at tests by) (first_place tables text + row.span.begin + by)
  met_at by row l is = let next = next_first tables text here in let end = ends row is in (omega (arith, next, end, l), says row is by (omega arith) l)

  -- ---- at one place

  module _ (by place : ℕ) where
    pub no_row : (room : ℕ) (old : List Row) → ((begin : ℕ) → BeginsAt tables tests by (first_place tables text) (first_place tables (text + 1)) place begin → ⊥) → Appends (IsRowAt tables expr text by place) room old old
    no_row room old none = record {
      rows = [];
      are = record { ascending = nothing_ascends; only = λ row c. absurd (none_in row c); each = λ row r. absurd (none row.span.begin (as_begin by place row r)) };
      within = omega arith;
      appended = sym (append-nil old);
    }

    -- where the test does not say so, the sequence is not met
    pub not_met : by < length tests → (SaysAt tables (test_at tests by) place → ⊥) → (begin : ℕ) → BeginsAt tables tests by (first_place tables text) (first_place tables (text + 1)) place begin → ⊥
    not_met within never begin b = never (subst (SaysAt tables (test_at tests by)) b.at (b.say by (omega arith) within))

    pub one_row : (room begin : ℕ) (old new : List Row) → BeginsAt tables tests by (first_place tables text) (first_place tables (text + 1)) place begin → 0 < room → new ≡ old ++ row_from expr text begin ∷ [] → Appends (IsRowAt tables expr text by place) room old new
    one_row room begin old new b some e = record {
      rows = row_from expr text begin ∷ [];
      are = record {
        ascending = one_ascends (row_from expr text begin);
        only = λ row c. subst (IsRowAt tables expr text by place) (the_one row c) (as_row by place begin b);
        each = λ row r. (0, omega arith, sym (is_from row r.is ∙ ap (row_from expr text) (let at = r.at in let its = b.at in let same : row.span.begin ≡ begin = omega (arith, at, its) in same)));
      };
      within = omega (arith, some);
      appended = e;
    }
      where
        the_one : (row : Row) → Contains (row_from expr text begin ∷ []) row → row_from expr text begin ≡ row
        the_one row (zero, l, e) = e
        the_one row (suc k, l, e) = absurd (omega (arith, l))

  -- ---- one place after another

  module _ (by : ℕ) (within : by < length tests) where
    abbrev Below : ℕ → Row → Type 0
    Below bound row = IsRowBelow tables expr text by bound row

    pub none_yet : ListsAll row_cmp (λ row. IsRowBelow tables expr text by (first_place tables text) row) []
    none_yet = record { ascending = nothing_ascends; only = λ row c. absurd (none_in row c); each = λ row r. let l = r.below in absurd (omega (arith, l)) }

    apart : (bound place : ℕ) (rows : List Row) → bound ≤ place → ((row : Row) → Contains rows row → Below bound row) → (x y : Row) → Contains rows x → IsRowAt tables expr text by place y → row_cmp x y ≡ Less
    apart bound place rows l only x y c r =
        let b = only x c in
        let below = b.below in
        let at = r.at in
        begins_before x y (b.is.text_is ∙ sym r.is.text_is) (omega (arith, below, at, l))

    together : (bound place : ℕ) (rows some : List Row) → bound ≤ place → ListsAll row_cmp (Below bound) rows → IsStrictlySortedBy row_cmp some → ((row : Row) → Contains some row → IsRowAt tables expr text by place row) → IsStrictlySortedBy row_cmp (rows ++ some)
    together bound place rows some l a up only = one_behind rows some a.ascending up (λ x y m n. apart bound place rows l a.only x y (from_member rows x m) (only y (from_member some y n)))

    -- the next place at which the test says so, behind those before a bound
    pub next_place : (bound place : ℕ) (rows some : List Row) → bound ≤ place → ((p : ℕ) → bound ≤ p → p < place → p < token_count tables → SaysAt tables (test_at tests by) p → ⊥) →
        ListsAll row_cmp (λ row. IsRowBelow tables expr text by bound row) rows → ListsAll row_cmp (IsRowAt tables expr text by place) some → ListsAll row_cmp (λ row. IsRowBelow tables expr text by (place + 1) row) (rows ++ some)
    next_place bound place rows some l none a b = record {
      ascending = together bound place rows some l a b.ascending b.only;
      only = λ row c. elim (Contains-append_cases rows some row c) [
        | inl was ↦ let r = a.only row was in let below = r.below in record { is = r.is; below = omega (arith, below, l) }
        | inr new ↦ let r = b.only row new in let at = r.at in record { is = r.is; below = omega (arith, at) }
      ];
      each = λ row r. elim (cases_lt (first_place tables text + row.span.begin + by) bound) [
        | inl was ↦ Contains-append_left rows some row (a.each row (record { is = r.is; below = was }))
        | inr high ↦ Contains-append_right rows some row (b.each row (record { is = r.is; at = at_place row r high }))
      ];
    }
      where
        at_place : (row : Row) → Below (place + 1) row → bound ≤ first_place tables text + row.span.begin + by → first_place tables text + row.span.begin + by ≡ place
        at_place row r high =
            let met = met_at by row within r.is in
            let inside = met.0 in
            let in_it = in_segment tables (text + 1) in
            let below = r.below in
            elim (cases_lt (first_place tables text + row.span.begin + by) place) [
              | inl early ↦ absurd (none (first_place tables text + row.span.begin + by) high early (omega (arith, inside, in_it)) met.1)
              | inr late ↦ omega (arith, below, late)
            ]

    -- all rows of the text, when the test says so at no later place of it
    pub all_rows : (bound : ℕ) (rows : List Row) → ((p : ℕ) → bound ≤ p → p < first_place tables (text + 1) → p < token_count tables → SaysAt tables (test_at tests by) p → ⊥) →
        ListsAll row_cmp (λ row. IsRowBelow tables expr text by bound row) rows → ListsAll row_cmp (λ row. IsRowOfText (told tables text) expr text row) rows
    all_rows bound rows none a = record {
      ascending = a.ascending;
      only = λ row c. (a.only row c).is;
      each = λ row is. elim (cases_lt (first_place tables text + row.span.begin + by) bound) [
        | inl was ↦ a.each row (record { is = is; below = was })
        | inr high ↦
            let met = met_at by row within is in
            let inside = met.0 in
            let in_it = in_segment tables (text + 1) in
            absurd (none (first_place tables text + row.span.begin + by) high inside (omega (arith, inside, in_it)) met.1)
      ];
    }

    -- one row more than there is room for
    pub longer : (bound place room : ℕ) (rows : List Row) (row : Row) → bound ≤ place → ListsAll row_cmp (λ row. IsRowBelow tables expr text by bound row) rows → IsRowAt tables expr text by place row → room ≤ length rows → HasLonger (λ row. IsRowOfText (told tables text) expr text row) room
    longer bound place room rows row l a r full =
        let long = length-append rows (row ∷ []) in
        record {
          rows = rows ++ row ∷ [];
          ascending = together bound place rows (row ∷ []) l a (one_ascends row) (λ x c. subst (IsRowAt tables expr text by place) (the_one x c) r);
          only = λ x c. elim (Contains-append_cases rows (row ∷ []) x c) [ inl was ↦ (a.only x was).is | inr new ↦ subst (λ (y : Row). IsRowOfText (told tables text) expr text y) (the_one x new) r.is ];
          more = omega (arith, long, full);
        }
      where
        the_one : (x : Row) → Contains (row ∷ []) x → row ≡ x
        the_one x (zero, h, e) = e
        the_one x (suc k, h, e) = absurd (omega (arith, h))
