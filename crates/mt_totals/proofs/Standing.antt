-- The rows of a test of a token in a segment of which each text is live: one for each place of which the test holds.
use Rattle.std.proofs.Common.{◌≡◌, ℕ, suc, ◌+◌, ◌-◌, ◌<◌, ◌≤◌, inl, inr, List, [], ◌∷◌, length, take, get_or, refl, sym, ◌∙◌, ap, subst, arith}
use Rattle.std.specs.List.{Contains, sum_by}
use Rattle.std.proofs.lemmas.Bool.{cases_lt}
use Rattle.std.proofs.lemmas.List.{get_or_past}
use Rattle.std.proofs.lemmas.List.Sums.{sum-map, sum_by-cons}
use Rattle.mt_text_spec.specs.Orders.{row_cmp, row_cmp_total}
use Rattle.mt_text_spec.specs.Queries.{Test, TokenTest}
use Rattle.mt_text_spec.specs.Texts.{Row}
use Rattle.mt_match_spec.specs.Labels.{labelled}
use Rattle.mt_segment_spec.specs.Tables.{Tables, first_place, token_count}
use Rattle.mt_eval_spec.specs.RowsIn.{IsRowIn, RowsIn}
use Rattle.mt_eval_spec.specs.Told.{HoldsAt, told_tokens}
use Rattle.mt_tally.proofs.Among.{to_among, from_among}
use Rattle.mt_eval.proofs.Rowed.{in_segment, later_first, next_first}
use Rattle.mt_tally.specs.Counts.{CountsBelow}
use Rattle.mt_tally.proofs.Listed.{each_marked, marked, marked_differ, only_marked, so_many}
use Rattle.mt_tally.proofs.Pairing.{differ, no_longer}

-- ## The text in which a place stands

abbrev tokens_in : List ℕ × ℕ → ℕ
tokens_in head = head.1

record FoundIn (heads : List (List ℕ × ℕ)) (place : ℕ) : Type 0 where
  text : ℕ
  begin : ℕ
  there : text < length heads
  inside : begin < tokens_in (get_or heads text ([], 0))
  at : place ≡ sum_by tokens_in (take text heads) + begin

found_in : (heads : List (List ℕ × ℕ)) (place : ℕ) → place < sum_by tokens_in heads → FoundIn heads place
found_in [] place l = absurd (omega (arith, l))
found_in (head ∷ heads) place l = let sum = sum_by-cons tokens_in head heads in elim (cases_lt place head.1) [
  | inl low ↦ record { text = 0; begin = place; there = omega arith; inside = low; at = omega arith }
  | inr high ↦
      let found = found_in heads (place - head.1) (omega (arith, l, high, sum)) in
      let at = found.at in
      let there = found.there in
      let next = sum_by-cons tokens_in head (take found.text heads) in
      record { text = suc found.text; begin = found.begin; there = omega (arith, there); inside = found.inside; at = omega (arith, at, high, next) }
]

pub record StandsIn (tables : Tables) (place : ℕ) : Type 0 where
  pub text : ℕ
  pub begin : ℕ
  pub there : text < length tables.texts
  pub inside : begin < told_tokens tables text
  pub at : first_place tables text + begin ≡ place

pub stands_in : (tables : Tables) (place : ℕ) → place < token_count tables → StandsIn tables place
stands_in tables place l =
    let all = sum-map tokens_in tables.texts in
    let found = found_in tables.texts place (omega (arith, l, all)) in
    let first = sum-map tokens_in (take found.text tables.texts) in
    let at = found.at in
    record { text = found.text; begin = found.begin; there = found.there; inside = found.inside; at = omega (arith, at, first) }

-- ## Rows and places

-- a text that has a token is one
some_text : (tables : Tables) (text begin : ℕ) → begin < told_tokens tables text → text < length tables.texts
some_text tables text begin l = elim (cases_lt text (length tables.texts)) [
  | inl low ↦ low
  | inr past ↦ let none : told_tokens tables text ≡ 0 = ap (λ (head : List ℕ × ℕ). head.1) (get_or_past tables.texts text ([], 0) past) in absurd (omega (arith, l, none))
]

module _ (tables : Tables) (live : List ℕ) (label : ℕ) (test : Test) where
  -- the row stands at this place of the segment
  record Stands (row : Row) (place : ℕ) : Type 0 where
    is : IsRowIn tables live (TokenTest label test) row
    at : first_place tables row.span.text + row.span.begin ≡ place

  inside : (row : Row) → IsRowIn tables live (TokenTest label test) row → row.span.begin < told_tokens tables row.span.text
  inside row is = is.matches.inside

  -- behind a text stand the places of later texts
  before : (row other : Row) → IsRowIn tables live (TokenTest label test) row → row.span.text < other.span.text → first_place tables row.span.text + row.span.begin < first_place tables other.span.text
  before row other is l =
      let low = inside row is in
      let next = next_first tables row.span.text (some_text tables row.span.text row.span.begin low) in
      let later = later_first tables (row.span.text + 1) other.span.text (omega (arith, l)) in
      omega (arith, low, next, later)

  same_text : (row other : Row) (place : ℕ) → Stands row place → Stands other place → row.span.text ≡ other.span.text
  same_text row other place r s = elim (cases_lt row.span.text other.span.text) [
    | inl low ↦ let l = before row other r.is low in let a = r.at in let b = s.at in absurd (omega (arith, l, a, b))
    | inr high ↦ elim (cases_lt other.span.text row.span.text) [
      | inl low ↦ let l = before other row s.is low in let a = r.at in let b = s.at in absurd (omega (arith, l, a, b))
      | inr most ↦ omega (arith, high, most)
    ]
  ]

  same_row : (row other : Row) (place : ℕ) → Stands row place → Stands other place → row ≡ other
  same_row row other place r s =
      let text = same_text row other place r s in
      let first : first_place tables row.span.text ≡ first_place tables other.span.text = ap (first_place tables) text in
      let a = r.at in
      let b = s.at in
      let begin : row.span.begin ≡ other.span.begin = omega (arith, first, a, b) in
      let to = r.is.matches.end_is in
      let from = s.is.matches.end_is in
      let end : row.span.end ≡ other.span.end = omega (arith, begin, to, from) in
      let labels : row.labels ≡ other.labels = r.is.matches.labels_are ∙ ap (labelled label) begin ∙ sym s.is.matches.labels_are in
      λ i. record { span = record { text = text i; begin = begin i; end = end i }; labels = labels i }

  -- its place is one of the segment, and the test holds of it
  its_place : (row : Row) → IsRowIn tables live (TokenTest label test) row → first_place tables row.span.text + row.span.begin < token_count tables
  its_place row is =
      let low = inside row is in
      let next = next_first tables row.span.text (some_text tables row.span.text row.span.begin low) in
      let whole = in_segment tables (row.span.text + 1) in
      omega (arith, low, next, whole)

  -- the row at a place of a text
  row_at : (text begin : ℕ) → Row
  row_at text begin = record { span = record { text = text; begin = begin; end = begin + 1 }; labels = labelled label begin }

  is_row : ((text : ℕ) → text < length tables.texts → Contains live text) → (text begin : ℕ) → text < length tables.texts → begin < told_tokens tables text → HoldsAt tables test (first_place tables text + begin) →
      IsRowIn tables live (TokenTest label test) (row_at text begin)
  unfolding row_at
  is_row all text begin there low holds = record {
    listed = all text there;
    some = omega arith;
    inside = omega (arith, low);
    matches = record { inside = low; holds = holds; end_is = refl; labels_are = refl };
  }

  stands_there : (place : ℕ) (in_it : StandsIn tables place) → IsRowIn tables live (TokenTest label test) (row_at in_it.text in_it.begin) → Stands (row_at in_it.text in_it.begin) place
  unfolding row_at
  stands_there place in_it is = record { is = is; at = in_it.at }

  pub rows_counted : ((text : ℕ) → text < length tables.texts → Contains live text) → (rows : List Row) (count : ℕ) → RowsIn tables live (TokenTest label test) rows → CountsBelow (token_count tables) (HoldsAt tables test) count → length rows ≡ count
  rows_counted all rows count are c =
      let places : List ℕ = marked c.marks 0 (token_count tables) in
      let up : length rows ≤ length places = no_longer Stands rows places (differ row_cmp row_cmp_total rows are.ascending) (λ row m.
      let is = are.only row (from_among rows row m) in
      let low = its_place row is in
      record {
        other = first_place tables row.span.text + row.span.begin;
        member = each_marked c.marks 0 (token_count tables) (first_place tables row.span.text + row.span.begin)
            (record { low = omega arith; high = omega (arith, low); mark = (c.tell (first_place tables row.span.text + row.span.begin) low).1 is.matches.holds });
        goes = record { is = is; at = refl };
      }) same_row in
      let down : length places ≤ length rows = no_longer (λ (place : ℕ) (row : Row). Stands row place) places rows (marked_differ c.marks 0 (token_count tables)) (λ place m.
      let is = only_marked c.marks 0 (token_count tables) place m in
      let high = is.high in
      let low : place < token_count tables = omega (arith, high) in
      let in_it = stands_in tables place low in
      let row = is_row all in_it.text in_it.begin in_it.there in_it.inside (subst (HoldsAt tables test) (sym in_it.at) ((c.tell place low).0 is.mark)) in
      record { other = row_at in_it.text in_it.begin; member = to_among rows (row_at in_it.text in_it.begin) (are.each (row_at in_it.text in_it.begin) row); goes = stands_there place in_it row })
      (λ place other row r s. sym r.at ∙ s.at) in
      let many = so_many c.marks 0 (token_count tables) in
      let is = c.counted in
      omega (arith, up, down, many, is)
