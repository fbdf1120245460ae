-- Lists of all rows of some kind, of which one is joined of two others.
use Rattle.std.proofs.Common.{◌≡◌, ℕ, ◌+◌, ◌-◌, ◌<◌, ◌≤◌, nat_eq, List, ◌++◌, map, length, get_or, ◌⊎◌, inl, inr, refl, sym, ◌∙◌, ap, subst, arith}
use Rattle.std.specs.List.{Contains, position_or_len}
use Rattle.std.specs.Cmp.{nat_cmp_is}
use Rattle.std.specs.Ordering.{nat_cmp, ordering_then}
use Rattle.std.specs.Cmp.Lexicographic.{slice_cmp}
use Rattle.std.specs.declared.cmp.Ordering.{Ordering}
use Rattle.std.specs.declared.cmp.Ordering.TheVariants.{Less}
use Rattle.std.proofs.lemmas.Bool.{cases_lt}
use Rattle.std.proofs.lemmas.List.{get_or_default}
use Rattle.std.proofs.lemmas.List.Elements.{Contains-append_left, Contains-append_right, Contains-append_cases}
use Rattle.mt_text_spec.specs.Texts.{Row}
use Rattle.mt_text_spec.specs.Orders.{row_cmp}
use Rattle.mt_match_spec.specs.Rows.{ListsAll}
use Rattle.mt_corpus_laws.specs.Laws.{row_to}
use Rattle.mt_corpus_laws.specs.Joined.{placed}
use Rattle.mt_corpus_laws.proofs.Ascending.{appended_ascends, made_ascends, mapped_member, was_mapped}
use Rattle.mt_corpus_laws.proofs.Places.{Ascends, place_is, same_order}

-- Which rows there are: those of the texts before, those of a segment, and those of all of them.
pub record Parts (before : ℕ) (live : List ℕ) (Was In Is : Row → Type 0) : Type 0 where
  pub below : (row : Row) → Was row → row.span.text < before
  pub listed : (row : Row) → In row → Contains live row.span.text
  pub within : (row : Row) → Is row → row.span.text < before + length live
  pub stays : (row : Row) → Was row → Is row
  pub was : (row : Row) → row.span.text < before → Is row → Was row
  pub comes : (row : Row) (k : ℕ) → k < length live → row.span.text ≡ get_or live k 0 → In row → Is (row_to (before + k) row)
  pub came : (row : Row) (k : ℕ) → k < length live → row.span.text ≡ before + k → Is row → In (row_to (get_or live k 0) row)

-- the order of rows, by the order of the numbers of their texts and that of the rest
abbrev rest_cmp : Ordering → Row → Row → Ordering
rest_cmp texts row other = ordering_then (ordering_then texts (ordering_then (nat_cmp row.span.begin other.span.begin) (nat_cmp row.span.end other.span.end))) (slice_cmp nat_cmp row.labels other.labels)

-- where a row stands in the list of live numbers
record StandsAt (live : List ℕ) (row : Row) : Type 0 where
  at : ℕ
  inside : at < length live
  is : row.span.text ≡ get_or live at 0

module _ (before : ℕ) (live : List ℕ) (up : Ascends live) where
  stands : (row : Row) → Contains live row.span.text → StandsAt live row
  stands row (k, l, e) = record { at = k; inside = l; is = sym e ∙ get_or_default live k row.span.text 0 l }

  -- a row is placed where its text stands
  placed_at : (row : Row) (k : ℕ) → k < length live → row.span.text ≡ get_or live k 0 → placed before live row ≡ row_to (before + k) row
  placed_at row k l e = ap (λ (n : ℕ). row_to (before + n) row) (ap (λ (n : ℕ). position_or_len (nat_eq n) live) e ∙ place_is live up k l)

  placed_order : (row other : Row) (i j : ℕ) → i < length live → row.span.text ≡ get_or live i 0 → j < length live → other.span.text ≡ get_or live j 0 → row_cmp row other ≡ Less →
      row_cmp (placed before live row) (placed before live other) ≡ Less
  placed_order row other i j l d m e less =
      let texts : nat_cmp row.span.text other.span.text ≡ nat_cmp (get_or live i 0) (get_or live j 0) = ap (λ (n : ℕ). nat_cmp n other.span.text) d ∙ ap (nat_cmp (get_or live i 0)) e in
      let same : row_cmp (row_to (before + i) row) (row_to (before + j) other) ≡ row_cmp row other = ap (λ o. rest_cmp o row other) (same_order live up before i j l m ∙ sym texts) in
      ap (λ (r : Row). row_cmp r (placed before live other)) (placed_at row i l d) ∙ ap (row_cmp (row_to (before + i) row)) (placed_at other j m e) ∙ same ∙ less

  module _ (Was In Is : Row → Type 0) (parts : Parts before live Was In Is) where
    placed_is : (row : Row) → In row → Is (placed before live row)
    placed_is row h =
        let s = stands row (parts.listed row h) in
        subst Is (sym (placed_at row s.at s.inside s.is)) (parts.comes row s.at s.inside s.is h)

    behind_all : (row other : Row) → Was row → In other → row_cmp row (placed before live other) ≡ Less
    behind_all row other was h =
        let low = parts.below row was in
        let less : nat_cmp row.span.text (before + position_or_len (nat_eq other.span.text) live) ≡ Less =
        sym (nat_cmp_is row.span.text (before + position_or_len (nat_eq other.span.text) live) Less (omega (arith, low))) in
        ap (λ o. rest_cmp o row other) less

    placed_back : (row : Row) → Is row → before ≤ row.span.text → (k : ℕ) → row.span.text ≡ before + k → (more : List Row) → ((r : Row) → In r → Contains more r) → Contains (map (placed before live) more) row
    placed_back row is from k e more each =
        let high = parts.within row is in
        let l : k < length live = omega (arith, e, high) in
        let was = row_to (get_or live k 0) row in
        let again : placed before live was ≡ row = placed_at was k l refl ∙ ap (λ (n : ℕ). row_to n row) (sym e) in
        subst (Contains (map (placed before live) more)) again (mapped_member (placed before live) more was (each was (parts.came row k l e is)))

    pub joined : (rows more : List Row) → ListsAll row_cmp Was rows → ListsAll row_cmp In more → ListsAll row_cmp Is (rows ++ map (placed before live) more)
    joined rows more all others = record {
      ascending = appended_ascends row_cmp rows (map (placed before live) more) all.ascending
          (made_ascends (placed before live) row_cmp row_cmp more others.ascending
          (λ x z m n less.
          let a = stands x (parts.listed x (others.only x m)) in
          let b = stands z (parts.listed z (others.only z n)) in
          placed_order x z a.at b.at a.inside a.is b.inside b.is less))
          (λ x y m n.
          let made = was_mapped (placed before live) more y n in
          subst (λ (r : Row). row_cmp x r ≡ Less) made.is (behind_all x made.from (all.only x m) (others.only made.from made.member)));
      only = λ x m. only x (Contains-append_cases rows (map (placed before live) more) x m);
      each = λ x is. each x is (cases_lt x.span.text before);
    }
      where
        only : (x : Row) → Contains rows x ⊎ Contains (map (placed before live) more) x → Is x
        only x (inl m) = parts.stays x (all.only x m)
        only x (inr m) = let made = was_mapped (placed before live) more x m in subst Is made.is (placed_is made.from (others.only made.from made.member))

        each : (x : Row) → Is x → (x.span.text < before) ⊎ (before ≤ x.span.text) → Contains (rows ++ map (placed before live) more) x
        each x is (inl low) = Contains-append_left rows (map (placed before live) more) x (all.each x (parts.was x low is))
        each x is (inr from) =
            let k = x.span.text - before in
            let e : x.span.text ≡ before + k = omega (arith, from) in
            Contains-append_right rows (map (placed before live) more) x (placed_back x is from k e more others.each)
