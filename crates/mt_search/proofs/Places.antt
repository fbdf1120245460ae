-- The place of a number in a list, and of the texts of rows among live ones.
use Rattle.std.proofs.Common.{◌≡◌, ℕ, zero, suc, ◌+◌, ◌<◌, ◌≤◌, ◌⊎◌, inl, inr, Bool, true, false, not, cond, nat_eq, List, [], ◌∷◌, ◌++◌, length, map, get_or, take, slice_get, Some, sym, ◌∙◌, ap, subst, arith, true≢false, refl}
use Rattle.std.specs.List.{All, AllByRecursion, AllPairs, Contains, position_or_len}
use Rattle.std.specs.List.Sorted.{IsStrictlySortedBy}
use Rattle.std.specs.Ordering.{nat_cmp, ordering_then}
use Rattle.std.specs.Cmp.{nat_cmp_is}
use Rattle.std.specs.Cmp.Lexicographic.{slice_cmp}
use Rattle.std.specs.declared.cmp.Ordering.{Ordering}
use Rattle.std.specs.declared.cmp.Ordering.TheVariants.{Less, Greater}
use Rattle.std.proofs.lemmas.Bool.{cases_lt, eqb-true, eq-eqb}
use Rattle.std.proofs.lemmas.List.{get_or_default, take_more, map-append, append_assoc}
use Rattle.std.proofs.lemmas.List.Elements.{All-from_recursion, recursion_from_All}
use Rattle.std.proofs.lemmas.List.Sums.{fails_before_first, passes_at_first}
use Rattle.std.proofs.lemmas.Option.{get_or_from_slice_get, slice_get_within}
use Rattle.mt_text_spec.specs.Texts.{Row, Span}
use Rattle.mt_text_spec.specs.Orders.{row_cmp}
use Rattle.mt_match_spec.specs.Labels.{no_labels}
use Rattle.mt_corpus_laws.specs.Laws.{row_to}
use Rattle.mt_corpus_laws.specs.Joined.{placed}

-- ---- the first place of a number

abbrev pub place_of : List ℕ → ℕ → ℕ
place_of numbers number = position_or_len (nat_eq number) numbers

pub at_most : (numbers : List ℕ) (number : ℕ) → place_of numbers number ≤ length numbers
at_most [] number = omega arith
at_most (n ∷ numbers) number = by (nat_eq number n) (at_most numbers number)
  where
    by : (b : Bool) → place_of numbers number ≤ length numbers → cond (not b) (1 + place_of numbers number) 0 ≤ suc (length numbers)
    by true l = omega arith
    by false l = omega (arith, l)

module _ (numbers : List ℕ) (place number : ℕ) (low : place ≤ place_of numbers number) where
  pub stands_here : number ≡ get_or numbers place 0 → place ≡ place_of numbers number
  stands_here here = by (cases_lt place (place_of numbers number))
    where
      by : (place < place_of numbers number) ⊎ (place_of numbers number ≤ place) → place ≡ place_of numbers number
      by (inl before) = absurd (true≢false (sym (eq-eqb number (get_or numbers place 0) here) ∙ fails_before_first (nat_eq number) numbers place 0 before))
      by (inr from) = omega (arith, low, from)

  pub stands_later : place < length numbers → (number ≡ get_or numbers place 0 → ⊥) → place + 1 ≤ place_of numbers number
  stands_later l other = by (cases_lt place (place_of numbers number))
    where
      by : (place < place_of numbers number) ⊎ (place_of numbers number ≤ place) → place + 1 ≤ place_of numbers number
      by (inl before) = omega (arith, before)
      by (inr from) =
          let same : place_of numbers number ≡ place = omega (arith, low, from) in
          let here = eqb-true number (get_or numbers (place_of numbers number) 0) (passes_at_first (nat_eq number) numbers 0 (omega (arith, same, l))) in
          absurd (other (here ∙ ap (λ (k : ℕ). get_or numbers k 0) same))

  pub stands_nowhere : length numbers ≤ place → length numbers ≡ place_of numbers number
  stands_nowhere end = omega (arith, end, low, at_most numbers number)

pub place_fits : (numbers : List ℕ) (number place before : ℕ) → place ≡ place_of numbers number → before + length numbers ≤ 4294967295 → before + place ≤ 4294967295
place_fits numbers number place before e room = let most = at_most numbers number in omega (arith, most, e, room)

-- the first place of a number that stands in the list
pub record Stands (numbers : List ℕ) (number : ℕ) : Type 0 where
  pub inside : place_of numbers number < length numbers
  pub is : get_or numbers (place_of numbers number) 0 ≡ number

pub contained : (numbers : List ℕ) (number : ℕ) → Contains numbers number → Stands numbers number
contained numbers number (k, l, e) =
    let inside : place_of numbers number < length numbers = omega (arith, l, first (cases_lt k (place_of numbers number))) in
    record { inside = inside; is = sym (eqb-true number (get_or numbers (place_of numbers number) 0) (passes_at_first (nat_eq number) numbers 0 inside)) }
  where
    first : (k < place_of numbers number) ⊎ (place_of numbers number ≤ k) → place_of numbers number ≤ k
    first (inl before) =
        let here : nat_eq number (get_or numbers k number) ≡ true = eq-eqb number (get_or numbers k number) (sym e) in
        absurd (true≢false (sym here ∙ fails_before_first (nat_eq number) numbers k number before))
    first (inr from) = from

-- ---- ascending numbers

module _ (numbers : List ℕ) (up : AllPairs (λ (n : ℕ) (later : ℕ). n < later) numbers) where
  -- what is no greater stands no later
  pub places_rise : (m n : ℕ) → m ≤ n → Contains numbers m → place_of numbers m ≤ place_of numbers n
  places_rise m n le c = by (cases_lt (place_of numbers n) (place_of numbers m))
    where
      by : (place_of numbers n < place_of numbers m) ⊎ (place_of numbers m ≤ place_of numbers n) → place_of numbers m ≤ place_of numbers n
      by (inl before) =
          let s = contained numbers m c in
          let inside : place_of numbers n < length numbers = omega (arith, before, s.inside) in
          let is : n ≡ get_or numbers (place_of numbers n) 0 = eqb-true n (get_or numbers (place_of numbers n) 0) (passes_at_first (nat_eq n) numbers 0 inside) in
          let less = up (place_of numbers n) (place_of numbers m) 0 before s.inside in
          absurd (omega (arith, less, is, s.is, le))
      by (inr from) = from

-- ---- rows

abbrev rest_cmp : Ordering → Row → Row → Ordering
rest_cmp texts row other = ordering_then (ordering_then texts (ordering_then (nat_cmp row.span.begin other.span.begin) (nat_cmp row.span.end other.span.end))) (slice_cmp nat_cmp row.labels other.labels)

-- a row that comes first is in no later text
pub texts_rise : (row other : Row) → row_cmp row other ≡ Less → row.span.text ≤ other.span.text
texts_rise row other less = by (cases_lt other.span.text row.span.text)
  where
    by : (other.span.text < row.span.text) ⊎ (row.span.text ≤ other.span.text) → row.span.text ≤ other.span.text
    by (inl low) =
        let greater : nat_cmp row.span.text other.span.text ≡ Greater = sym (nat_cmp_is row.span.text other.span.text Greater (omega (arith, low))) in
        let is : Greater ≡ row_cmp row other = sym (ap (λ o. rest_cmp o row other) greater) in
        let f : ⊥ = cc in absurd f
    by (inr from) = from

pub pairs_of : (rows : List Row) → IsStrictlySortedBy row_cmp rows → AllPairs (λ row other. row_cmp row other ≡ Less) rows
unfolding IsStrictlySortedBy
pairs_of [] s i j d l m = absurd (omega (arith, m))
pairs_of (row ∷ rows) s i zero d l m = absurd (omega (arith, l))
pairs_of (row ∷ rows) s zero (suc j) d l m = All-from_recursion (λ other. row_cmp row other ≡ Less) rows s.0 j d (omega (arith, m))
pairs_of (row ∷ rows) s (suc i) (suc j) d l m = pairs_of rows s.1 i j d (omega (arith, l)) (omega (arith, m))

-- The texts of the rows from number `i` on stand among the live ones no earlier than at a place.
pub record StandFrom (rows : List Row) (live : List ℕ) (i place : ℕ) : Type 0 where
  pub each : (k : ℕ) (d : Row) → i ≤ k → k < length rows → place ≤ place_of live (get_or rows k d).span.text

pub from_start : (rows : List Row) (live : List ℕ) → StandFrom rows live 0 0
from_start rows live = record { each = λ k d l m. omega arith }

pub next_stands : (rows : List Row) (live : List ℕ) (i place : ℕ) (row : Row) (span : Span) (text : ℕ) → StandFrom rows live i place → slice_get rows i ≡ Some row → span ≡ row.span → text ≡ span.text → place ≤ place_of live text
next_stands rows live i place row span text stand at s t =
    let within = slice_get_within rows i row at in
    let is : get_or rows i row ≡ row = get_or_from_slice_get rows i row row at in
    subst (λ (n : ℕ). place ≤ place_of live n) (ap (λ (r : Row). r.span.text) is ∙ sym (t ∙ ap (λ (x : Span). x.text) s)) (stand.each i row (omega arith) within)

pub goes_on : (rows : List Row) (live : List ℕ) (i place : ℕ) (row : Row) → IsStrictlySortedBy row_cmp rows → AllPairs (λ (n : ℕ) (later : ℕ). n < later) live → All (λ row. Contains live row.span.text) rows →
    i < length rows → get_or rows i row ≡ row → place ≡ place_of live row.span.text → StandFrom rows live (i + 1) place
goes_on rows live i place row ascending up listed l is e = record {
  each = λ k d from m.
      let less = pairs_of rows ascending i k row (omega (arith, from)) m in
      let le = texts_rise (get_or rows i row) (get_or rows k row) less in
      let rise = places_rise live up (get_or rows i row).span.text (get_or rows k row).span.text le (listed i row l) in
      let here : place_of live (get_or rows i row).span.text ≡ place = ap (λ (r : Row). place_of live r.span.text) is ∙ sym e in
      let there : place_of live (get_or rows k row).span.text ≡ place_of live (get_or rows k d).span.text = ap (λ (r : Row). place_of live r.span.text) (get_or_default rows k row d m) in
      omega (arith, rise, here, there);
}

-- one row more is placed
pub one_placed : (before : ℕ) (live : List ℕ) (rows old new : List Row) (i : ℕ) (row other : Row) → i < length rows → get_or rows i row ≡ row → other ≡ placed before live row →
    new ≡ (old ++ map (placed before live) (take i rows)) ++ other ∷ [] → new ≡ old ++ map (placed before live) (take (i + 1) rows)
one_placed before live rows old new i row other l is e n =
    n ∙ ap (λ (r : Row). (old ++ map (placed before live) (take i rows)) ++ r ∷ []) e
    ∙ append_assoc old (map (placed before live) (take i rows)) (placed before live row ∷ [])
    ∙ ap (λ (rs : List Row). old ++ rs) (sym (map-append (placed before live) (take i rows) (row ∷ [])))
    ∙ ap (λ (rs : List Row). old ++ map (placed before live) rs) (sym (take_more rows i row l ∙ ap (λ (r : Row). take i rows ++ r ∷ []) is))

-- ---- rows with no label, by their spans

pub record RowOf (rows : List Row) (i : ℕ) (span : Span) : Type 0 where
  pub row : Row
  pub at : slice_get rows i ≡ Some row
  pub is : get_or rows i row ≡ row
  pub spans : span ≡ row.span

row_at : (rows : List Row) (i : ℕ) (span : Span) → slice_get (map (λ (r : Row). r.span) rows) i ≡ Some span → RowOf rows i span
row_at [] i span e = cc
row_at (r ∷ rows) zero span e = let same : span ≡ r.span = cc in record { row = r; at = refl; is = refl; spans = same }
row_at (r ∷ rows) (suc i) span e = let x = row_at rows i span e in record { row = x.row; at = x.at; is = x.is; spans = x.spans }

pub row_of : (rows : List Row) (spans : List Span) (i : ℕ) (span : Span) → spans ≡ map (λ (r : Row). r.span) rows → slice_get spans i ≡ Some span → RowOf rows i span
row_of rows spans i span are e = row_at rows i span (subst (λ (xs : List Span). slice_get xs i ≡ Some span) are e)

pub no_label : (rows : List Row) (i : ℕ) (span : Span) → All (λ (r : Row). r.labels ≡ no_labels) rows → (x : RowOf rows i span) → x.row.labels ≡ no_labels
no_label rows i span none x = sym (ap (λ (r : Row). r.labels) x.is) ∙ none i x.row (slice_get_within rows i x.row x.at)

pub moved : (before : ℕ) (live : List ℕ) (row : Row) (span made : Span) (place begin end : ℕ) → span ≡ row.span → place ≡ place_of live row.span.text → row.labels ≡ no_labels → begin ≡ span.begin → end ≡ span.end →
    made ≡ record { text = before + place; begin = begin; end = end } → record { span = made; labels = no_labels } ≡ placed before live row
moved before live row span made place begin end s p none b e m =
    let to : made ≡ record { text = before + place_of live row.span.text; begin = row.span.begin; end = row.span.end } =
    m ∙ (λ i. record { text = before + p i; begin = (b ∙ ap (λ (x : Span). x.begin) s) i; end = (e ∙ ap (λ (x : Span). x.end) s) i }) in
    λ i. record { span = to i; labels = sym none i }

-- ---- where the live texts are 0, 1, 2 and so on, each row stays as it is

pub same_place : (live : List ℕ) (text : ℕ) → ((k : ℕ) → k < length live → get_or live k 0 ≡ k) → Contains live text → place_of live text ≡ text
same_place live text each c =
    let s = contained live text c in
    sym (each (place_of live text) s.inside) ∙ s.is

pub all_stay : (live : List ℕ) (rows : List Row) → ((k : ℕ) → k < length live → get_or live k 0 ≡ k) → AllByRecursion (λ (row : Row). Contains live row.span.text) rows → map (placed 0 live) rows ≡ rows
all_stay live [] each listed = refl
all_stay live (row ∷ rows) each listed =
    let same = same_place live row.span.text each listed.0 in
    let is : 0 + place_of live row.span.text ≡ row.span.text = omega (arith, same) in
    let here : placed 0 live row ≡ row = ap (λ (n : ℕ). row_to n row) is in
    ap (λ (r : Row). r ∷ map (placed 0 live) rows) here ∙ ap (λ (rs : List Row). row ∷ rs) (all_stay live rows each listed.1)

pub as_they_are : (live : List ℕ) (old more : List Row) (before : ℕ) → before ≡ 0 → nat_eq (length old) 0 ≡ true → ((k : ℕ) → k < length live → get_or live k 0 ≡ k) → All (λ (row : Row). Contains live row.span.text) more →
    more ≡ old ++ map (placed before live) more
as_they_are live [] more before b e each listed =
    sym (ap (λ (n : ℕ). map (placed n live) more) b ∙ all_stay live more each (recursion_from_All (λ (row : Row). Contains live row.span.text) more listed))
as_they_are live (o ∷ old) more before b e each listed = let l = eqb-true (length (o ∷ old)) 0 e in absurd (omega (arith, l))
