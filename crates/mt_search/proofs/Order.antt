-- Rows of a segment that are placed behind earlier ones stand in order.
use Rattle.std.proofs.Common.{◌≡◌, ℕ, suc, ◌+◌, ◌<◌, ◌≤◌, ◌⊎◌, inl, inr, List, [], ◌∷◌, ◌++◌, length, map, get_or, sym, ◌∙◌, ap, subst, arith}
use Rattle.std.specs.List.{All, AllPairs, Contains}
use Rattle.std.specs.List.Sorted.{IsStrictlySortedBy}
use Rattle.std.specs.Ordering.{nat_cmp, ordering_then}
use Rattle.std.specs.Cmp.{nat_cmp_is}
use Rattle.std.specs.Cmp.Lexicographic.{slice_cmp}
use Rattle.std.specs.declared.cmp.Ordering.{Ordering}
use Rattle.std.specs.declared.cmp.Ordering.TheVariants.{Less, Equal}
use Rattle.std.proofs.lemmas.Bool.{cases_lt}
use Rattle.std.proofs.lemmas.List.Elements.{All-append, All-from_recursion, All-map, All-tail, All-weaker, recursion_from_All}
use Rattle.mt_text_spec.specs.Texts.{Row}
use Rattle.mt_text_spec.specs.Orders.{row_cmp}
use Rattle.mt_corpus_laws.specs.Joined.{placed}
use Rattle.mt_search.specs.Finds.{AreInOrder}
use Rattle.mt_search.proofs.Places.{contained, place_of, places_rise, texts_rise}

abbrev rest_cmp : Ordering → Row → Row → Ordering
rest_cmp texts row other = ordering_then (ordering_then texts (ordering_then (nat_cmp row.span.begin other.span.begin) (nat_cmp row.span.end other.span.end))) (slice_cmp nat_cmp row.labels other.labels)

-- a row of an earlier text comes first
earlier : (row other : Row) → row.span.text < other.span.text → row_cmp row other ≡ Less
earlier row other l = ap (λ o. rest_cmp o row other) (sym (nat_cmp_is row.span.text other.span.text Less l))

module _ (before : ℕ) (live : List ℕ) (up : AllPairs (λ (n : ℕ) (later : ℕ). n < later) live) where
  -- two rows stay in order where they are placed
  placed_order : (row other : Row) → Contains live row.span.text → Contains live other.span.text → row_cmp row other ≡ Less → row_cmp (placed before live row) (placed before live other) ≡ Less
  placed_order row other c d less = by (cases_lt (place_of live row.span.text) (place_of live other.span.text))
    where
      by : (place_of live row.span.text < place_of live other.span.text) ⊎ (place_of live other.span.text ≤ place_of live row.span.text) → row_cmp (placed before live row) (placed before live other) ≡ Less
      by (inl low) = earlier (placed before live row) (placed before live other) (omega (arith, low))
      by (inr from) =
          let rise = places_rise live up row.span.text other.span.text (texts_rise row other less) c in
          let same : place_of live row.span.text ≡ place_of live other.span.text = omega (arith, rise, from) in
          let text : row.span.text ≡ other.span.text = sym (contained live row.span.text c).is ∙ ap (λ (k : ℕ). get_or live k 0) same ∙ (contained live other.span.text d).is in
          let tie : nat_cmp row.span.text other.span.text ≡ nat_cmp (before + place_of live row.span.text) (before + place_of live other.span.text) =
          sym (nat_cmp_is row.span.text other.span.text Equal text) ∙ nat_cmp_is (before + place_of live row.span.text) (before + place_of live other.span.text) Equal (omega (arith, same)) in
          sym (ap (λ o. rest_cmp o row other) tie) ∙ less

  placed_ascend : (rows : List Row) → All (λ row. Contains live row.span.text) rows → IsStrictlySortedBy row_cmp rows → IsStrictlySortedBy row_cmp (map (placed before live) rows)
  unfolding IsStrictlySortedBy
  placed_ascend [] listed s = tt
  placed_ascend (row ∷ rows) listed s = (
    recursion_from_All (λ other. row_cmp (placed before live row) other ≡ Less) (map (placed before live) rows)
        (All-map (λ other. row_cmp (placed before live row) other ≡ Less) (placed before live) rows
        (λ k d l. placed_order row (get_or rows k d) (listed 0 row (omega arith)) (listed (suc k) d (omega (arith, l))) (All-from_recursion (λ other. row_cmp row other ≡ Less) rows s.0 k d l))),
    placed_ascend rows (All-tail (λ r. Contains live r.span.text) row rows listed) s.1,
  )

-- ascending rows behind others of earlier texts
behind : (rows more : List Row) → IsStrictlySortedBy row_cmp rows → IsStrictlySortedBy row_cmp more → ((i k : ℕ) (d : Row) → i < length rows → k < length more → (get_or rows i d).span.text < (get_or more k d).span.text) → IsStrictlySortedBy row_cmp (rows ++ more)
unfolding IsStrictlySortedBy
behind [] more s t low = t
behind (row ∷ rows) more s t low = (
  recursion_from_All (λ other. row_cmp row other ≡ Less) (rows ++ more)
      (All-append (λ other. row_cmp row other ≡ Less) rows more (All-from_recursion (λ other. row_cmp row other ≡ Less) rows s.0) (λ k d l. earlier row (get_or more k d) (low 0 k d (omega arith) l))),
  behind rows more s.1 t (λ i k d l m. low (suc i) k d (omega (arith, l)) m),
)

pub in_order : (rows more : List Row) (live : List ℕ) (before : ℕ) → AreInOrder rows before → IsStrictlySortedBy row_cmp more → AllPairs (λ (n : ℕ) (later : ℕ). n < later) live → All (λ row. Contains live row.span.text) more →
    AreInOrder (rows ++ map (placed before live) more) (before + length live)
in_order rows more live before are s up listed = record {
  ascending = behind rows (map (placed before live) more) are.ascending (placed_ascend before live up more listed s)
      (λ i k d l m. let low = are.within i d l in let high = above k d m in omega (arith, low, high));
  within = All-append (λ row. row.span.text < before + length live) rows (map (placed before live) more)
      (All-weaker (λ row. row.span.text < before) (λ row. row.span.text < before + length live) (λ row l. omega (arith, l)) rows are.within)
      (All-map (λ row. row.span.text < before + length live) (placed before live) more (λ k d l. let s = contained live (get_or more k d).span.text (listed k d l) in let inside = s.inside in omega (arith, inside)));
}
  where
    above : All (λ row. before ≤ row.span.text) (map (placed before live) more)
    above = All-map (λ row. before ≤ row.span.text) (placed before live) more (λ k d l. omega arith)

-- the same, as the search comes to it
pub order_more : (rows all more : List Row) (live slice : List ℕ) (before count texts : ℕ) → AreInOrder rows before → IsStrictlySortedBy row_cmp more → AllPairs (λ (n : ℕ) (later : ℕ). n < later) live → All (λ row. Contains live row.span.text) more →
    slice ≡ live → count ≡ length live → texts ≡ before + count → all ≡ rows ++ map (placed before slice) more → AreInOrder all texts
order_more rows all more live slice before count texts are s up listed same long sum is =
    subst (λ (n : ℕ). AreInOrder all n) (sym (sum ∙ ap (λ (k : ℕ). before + k) long))
    (subst (λ (rs : List Row). AreInOrder rs (before + length live)) (sym (is ∙ ap (λ (ns : List ℕ). rows ++ map (placed before ns) more) same)) (in_order rows more live before are s up listed))
