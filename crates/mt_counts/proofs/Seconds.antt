-- The second words of a row.
use Rattle.std.proofs.Common.{◌≡◌, ℕ, ◌+◌, ◌<◌, Bool, Some, List, [], ◌∷◌, ◌++◌, length, map, take, append_assoc, get_or, slice_get, refl, sym, ap, subst, ◌∙◌, arith}
use Rattle.std.specs.Map.{keys_of}
use Rattle.std.proofs.lemmas.List.{take_more, map-append}
use Rattle.std.proofs.lemmas.Option.{get_or_from_slice_get, slice_get-get_or}
use Rattle.mt_counts.specs.Names.{AreDistinct}
use Rattle.mt_counts.specs.Totals.{count_at}
use Rattle.mt_counts.specs.Tallies.{IsAt, AreOnce, IsPlaced, ListsOnce}
use Rattle.mt_counts.specs.Counted.{is_three, f, f_second}
use Rattle.mt_counts.specs.Tables.{text_at, row_at, three_of, named_word, counted, AreInside}
use Rattle.mt_counts.specs.Listed.{IsPair, entry_at, pair_at}
use Rattle.mt_counts.specs.declared.tables.Tables.{Tables}
use Rattle.mt_counts.specs.declared.pairs.Pair.{Pair}
use Rattle.mt_counts.proofs.Totals.{total-map}
use Rattle.mt_counts.proofs.Lists.{total-some, lists_map, entry_is, same_text}
use Rattle.mt_counts.proofs.Sums.{row_stands}
use Rattle.mt_counts.proofs.Keys.{name_counts, three_counts, second_placed, count_there, no_row}

pub pair_more : (words : List (List ℕ)) (both columns : List ((ℕ × ℕ) × ℕ)) (name : ℕ) (places : List ℕ) (old now next : List Pair) (i place : ℕ) (entry : (ℕ × ℕ) × ℕ) (word : List ℕ) (right : ℕ) →
    now ≡ old ++ map (pair_at words both columns name) (take i places) → i < length places → place ≡ get_or places i 0 → slice_get both place ≡ Some entry → slice_get words entry.0.1 ≡ Some word → right ≡ count_at columns (entry.0.1, name) →
    next ≡ now ++ record { word = word; both = entry.1; right = right } ∷ [] → next ≡ old ++ map (pair_at words both columns name) (take (i + 1) places)
pair_more words both columns name places old now next i place entry word right before l at there is counts e =
    let H : ℕ → Pair = pair_at words both columns name in
    let stands : entry_at both place ≡ entry = get_or_from_slice_get both place entry ((0, 0), 0) there in
    let pair : H place ≡ record { word = word; both = entry.1; right = right } =
    ap (λ (x : (ℕ × ℕ) × ℕ). let p : Pair = record { word = text_at words x.0.1; both = x.1; right = count_at columns (x.0.1, name) } in p) stands ∙
    ap (λ (w : List ℕ). let p : Pair = record { word = w; both = entry.1; right = count_at columns (entry.0.1, name) } in p) (get_or_from_slice_get words entry.0.1 word [] is) ∙
    ap (λ (n : ℕ). let p : Pair = record { word = word; both = entry.1; right = n } in p) (sym counts) in
    let more : map H (take (i + 1) places) ≡ map H (take i places) ++ H place ∷ [] =
    ap (λ (ps : List ℕ). map H ps) (take_more places i 0 l) ∙ map-append H (take i places) (get_or places i 0 ∷ []) ∙ ap (λ (q : ℕ). map H (take i places) ++ H q ∷ []) (sym at) in
    e ∙ ap (λ (ps : List Pair). ps ++ record { word = word; both = entry.1; right = right } ∷ []) before ∙ append_assoc old (map H (take i places)) (record { word = word; both = entry.1; right = right } ∷ []) ∙
    ap (λ (p : Pair). old ++ (map H (take i places) ++ p ∷ [])) (sym pair) ∙ ap (λ (ps : List Pair). old ++ ps) (sym more)

module _ (t : Tables) (row : ℕ) (inside : AreInside t) (within : row < length t.rows) (names_differ : AreDistinct t.names) (words_differ : AreDistinct t.words) (rows_once : AreOnce t.rows) (both_once : AreOnce t.both) where
  abbrev pub key : ℕ × ℕ
  key = row_at (keys_of t.rows) row

  abbrev pub name : List ℕ
  name = text_at t.names key.1

  abbrev pub word : List ℕ
  word = text_at t.words key.0

  low : (key.0 < length t.words) × (key.1 < length t.names)
  low = inside.rows key row (row_stands t.rows row within)

  abbrev pub pair_of : ℕ → Pair
  pair_of = pair_at t.words t.both t.columns key.1

  -- what the pair at a place is
  pair_there : (place : ℕ) (p : IsPlaced t.both row place) → pair_of place ≡ record { word = text_at t.words p.member; both = p.count; right = count_at t.columns (p.member, key.1) }
  pair_there place p = ap (λ (x : (ℕ × ℕ) × ℕ). let pair : Pair = record { word = text_at t.words x.0.1; both = x.1; right = count_at t.columns (x.0.1, key.1) } in pair) (entry_is t.both row place p)

  second_below : (place : ℕ) (p : IsPlaced t.both row place) → p.member < length t.words
  second_below place p = (inside.both (row, p.member) place (record { count = p.count; there = p.there })).1

  counts_both : (place : ℕ) (p : IsPlaced t.both row place) → p.count ≡ f (counted t) name word (text_at t.words p.member)
  counts_both place p =
      sym (three_counts t.names t.words t.rows t.both inside.rows inside.both name word (text_at t.words p.member) row p.member names_differ words_differ rows_once within refl (slice_get-get_or t.words p.member [] (second_below place p)) ∙
      count_there t.both (row, p.member) p.count place both_once p.there)

  counts_right : (y : ℕ) → y < length t.words → count_at t.columns (y, key.1) ≡ f_second (counted t) name (text_at t.words y)
  counts_right y l = sym (name_counts t.names t.words t.columns inside.columns name (text_at t.words y) y key.1 names_differ words_differ (slice_get-get_or t.names key.1 [] low.1) (slice_get-get_or t.words y [] l))

  there : (place : ℕ) → IsPlaced t.both row place → IsPair (counted t) name word (pair_of place)
  there place p = subst (IsPair (counted t) name word) (sym (pair_there place p)) (record { some = p.some; both_is = counts_both place p; right_is = counts_right p.member (second_below place p) })

  back : (pair : Pair) → IsPair (counted t) name word pair → (place : ℕ) × IsPlaced t.both row place × (pair_of place ≡ pair)
  back pair q =
      let test : List ℕ × List ℕ × List ℕ → Bool = is_three name word pair.word in
      let three = three_of t.names t.words (keys_of t.rows) in
      let some : 0 < f (counted t) name word pair.word = omega (arith, q.some, q.both_is) in
      let h = total-some (λ k. test (three k)) t.both (subst (λ (n : ℕ). 0 < n) (total-map three test t.both) some) in
      let at : IsAt t.both h.key h.place = record { count = h.count; there = h.there } in
      let same = second_placed t.names t.words t.rows t.both inside.rows inside.both name word pair.word row names_differ words_differ rows_once within refl h.key h.place at h.passes in
      let placed : IsPlaced t.both row h.place = record { member = h.key.1; count = h.count; there = h.there ∙ ap (λ (r : ℕ). Some ((r, h.key.1), h.count)) same.0; some = h.some } in
      let first : text_at t.words h.key.1 ≡ pair.word = same.1 in
      let second : h.count ≡ pair.both = counts_both h.place placed ∙ ap (λ (y : List ℕ). f (counted t) name word y) first ∙ sym q.both_is in
      let third : count_at t.columns (h.key.1, key.1) ≡ pair.right = counts_right h.key.1 (second_below h.place placed) ∙ ap (λ (y : List ℕ). f_second (counted t) name y) first ∙ sym q.right_is in
      (h.place, placed, pair_there h.place placed ∙ (λ i. record { word = first i; both = second i; right = third i }))

  one : (a b : ℕ) → IsPlaced t.both row a → IsPlaced t.both row b → pair_of a ≡ pair_of b → a ≡ b
  one a b p q e =
      let words = ap (λ (pair : Pair). pair.word) (sym (pair_there a p) ∙ e ∙ pair_there b q) in
      let same = same_text t.words p.member q.member words_differ (second_below a p) (second_below b q) words in
      both_once (row, q.member) a b (record { count = p.count; there = p.there ∙ ap (λ (y : ℕ). Some ((row, y), p.count)) same }) (record { count = q.count; there = q.there })

  pub pairs_exact : (places : List ℕ) → ListsOnce (IsPlaced t.both row) places → ListsOnce (IsPair (counted t) name word) (map pair_of places)
  pairs_exact places all = lists_map (IsPlaced t.both row) (IsPair (counted t) name word) pair_of places all there back one

-- a word without a row under the name has no pairs
pub no_pairs : (t : Tables) (name word : List ℕ) → AreInside t → ((row : ℕ) → row < length t.rows → named_word t.names t.words (row_at (keys_of t.rows) row) ≡ (name, word) → ⊥) → ListsOnce (IsPair (counted t) name word) []
no_pairs t name word inside none = record {
  once = λ i j d l m. absurd (omega (arith, m));
  only = λ pair h. absurd (omega (arith, h.1));
  each = λ pair h. absurd (nothing pair h);
}
  where
    nothing : (pair : Pair) → IsPair (counted t) name word pair → ⊥
    nothing pair h = omega (arith, h.some, h.both_is, no_row t.names t.words t.rows t.both inside.rows inside.both name word pair.word none)
