-- Words that ascend.
use Rattle.std.proofs.Common.{◌≡◌, ◌≢◌, ℕ, ◌+◌, ◌<◌, ◌≤◌, Bool, false, cond, Some, List, [], ◌∷◌, ◌++◌, length, get_or, slice_get, refl, sym, ap, subst, ◌∙◌, arith, ◌⊎◌, inl, inr}
use Rattle.std.specs.List.{AllPairs, Contains, IsDistinct, dedup, dedup_from}
use Rattle.std.specs.List.Sorted.{IsStrictlySortedBy, IsSorted, IsPermutation}
use Rattle.std.specs.Ordering.{nat_cmp}
use Rattle.std.specs.Str.{bytes_eq}
use Rattle.std.specs.Cmp.Lexicographic.{slice_cmp, nat_list_cmp_total, nat_list_eq_equiv, texts_ties, bytes_decides}
use Rattle.std.proofs.lemmas.Bool.{cases_lt}
use Rattle.std.proofs.lemmas.List.Elements.{Contains-append_left, Contains-push, Contains-push_cases, Contains-get_or}
use Rattle.std.proofs.lemmas.List.Quantifiers.{all_pairs_push}
use Rattle.std.proofs.lemmas.List.Kept.{IsStrictlySortedBy-dedup}
use Rattle.std.proofs.lemmas.List.Sorted.{Contains-permutation, IsPermutation-sym}
use Rattle.std.proofs.lemmas.Map.Keys.{IsDistinct-IsPermutation, IsDistinct-head, IsDistinct-tail}
use Rattle.std.proofs.lemmas.Map.Made.{IsDistinct-from_AllPairs}
use Rattle.std.proofs.lemmas.Option.{slice_get-get_or}
use Rattle.mt_counts.specs.Names.{AreDistinct}
use Rattle.mt_counts.specs.Tallies.{IsAt, AreOnce, HasPlaced, ListsOnce}
use Rattle.mt_counts.specs.Counted.{is_two}
use Rattle.mt_counts.specs.Tables.{text_at, named_word, counted, AreInside}
use Rattle.mt_counts.specs.Listed.{StandsFirst, AreFirstWords}
use Rattle.mt_counts.specs.declared.tables.Tables.{Tables}
use Rattle.mt_counts.proofs.Totals.{total-map}
use Rattle.mt_counts.proofs.Lists.{total-some, two_same}
use Rattle.mt_counts.proofs.Keys.{name_counts, count_there, text_is}

-- ---- texts that differ, in order, ascend

flipped : (a b : List ℕ) → bytes_eq a b ≡ bytes_eq b a
flipped a b = (nat_list_eq_equiv).symm a b

kept_all : (x : List ℕ) (xs : List (List ℕ)) → IsDistinct bytes_eq (x ∷ xs) → dedup_from bytes_eq x xs ≡ x ∷ xs
kept_all x [] h = refl
kept_all x (y ∷ ys) h =
    let apart : bytes_eq y x ≡ false = flipped y x ∙ (IsDistinct-head bytes_eq x (y ∷ ys) h).0 in
    ap (λ (b : Bool). cond b (dedup_from bytes_eq x ys) (x ∷ dedup_from bytes_eq y ys)) apart ∙ ap (λ (zs : List (List ℕ)). x ∷ zs) (kept_all y ys (IsDistinct-tail bytes_eq x (y ∷ ys) h))

all_kept : (xs : List (List ℕ)) → IsDistinct bytes_eq xs → dedup bytes_eq xs ≡ xs
all_kept [] h = refl
all_kept (x ∷ xs) h = kept_all x xs h

strictly : (xs : List (List ℕ)) → IsSorted (slice_cmp nat_cmp) xs → IsDistinct bytes_eq xs → IsStrictlySortedBy (slice_cmp nat_cmp) xs
strictly xs sorted distinct = subst (IsStrictlySortedBy (slice_cmp nat_cmp)) (all_kept xs distinct) (IsStrictlySortedBy-dedup nat_list_cmp_total texts_ties xs sorted)

pub sorted_words : (t : Tables) (old new : List (List ℕ)) → ListsOnce (StandsFirst (counted t)) old → IsPermutation old new → IsSorted (slice_cmp nat_cmp) new → AreFirstWords (counted t) new
sorted_words t old new all permuted sorted = record {
  ascending = strictly new sorted (IsDistinct-IsPermutation bytes_eq flipped old new permuted (IsDistinct-from_AllPairs bytes_decides old all.once));
  only = λ word h. all.only word (back word h);
  each = λ word s. Contains-permutation old new word permuted (all.each word s);
}
  where
    back : (word : List ℕ) → Contains new word → Contains old word
    back word h = Contains-permutation new old word (IsPermutation-sym old new permuted) h

-- ---- the words of the first rows are listed

pub record AreListed (t : Tables) (k : ℕ) (words : List (List ℕ)) : Type 0 where
  pub once : AllPairs (λ x y. x ≢ y) words
  pub only : (word : List ℕ) → Contains words word → (x : ℕ) × (x < k) × (slice_get t.words x ≡ Some word) × HasPlaced t.rows x
  pub each : (x : ℕ) → x < k → HasPlaced t.rows x → Contains words (text_at t.words x)

pub listed_none : (t : Tables) (words : List (List ℕ)) → words ≡ [] → AreListed t 0 words
listed_none t words e = rw e (record { once = λ i j d l m. absurd (omega (arith, m)); only = λ word h. absurd (omega (arith, h.1)); each = λ x l. absurd (omega (arith, l)) })

pub listed_more : (t : Tables) (k : ℕ) (words next : List (List ℕ)) (word : List ℕ) → AreDistinct t.words → AreListed t k words → HasPlaced t.rows k → slice_get t.words k ≡ Some word → next ≡ words ++ word ∷ [] → AreListed t (k + 1) next
listed_more t k words next word distinct listed has there e = rw e (record {
  once = all_pairs_push (λ (x y : List ℕ). x ≢ y) words word listed.once (λ i d l. λ (same : get_or words i d ≡ word). new i d l same);
  only = λ other h. from other (Contains-push_cases words word other h);
  each = λ x l placed. put x l placed (cases_lt x k);
})
  where
    new : (i : ℕ) (d : List ℕ) → i < length words → get_or words i d ≡ word → ⊥
    new i d l same =
        let old = listed.only (get_or words i d) (Contains-get_or words i d l) in
        let is = distinct word old.0 k (old.2 ∙ ap Some same) there in
        omega (arith, old.1, is)

    from : (other : List ℕ) → Contains words other ⊎ (word ≡ other) → (x : ℕ) × (x < k + 1) × (slice_get t.words x ≡ Some other) × HasPlaced t.rows x
    from other (inl h) = let old = listed.only other h in (old.0, omega (arith, old.1), old.2, old.3)
    from other (inr same) = (k, omega arith, there ∙ ap Some same, has)

    put : (x : ℕ) → x < k + 1 → HasPlaced t.rows x → (x < k) ⊎ (k ≤ x) → Contains (words ++ word ∷ []) (text_at t.words x)
    put x l placed (inl low) = Contains-append_left words (word ∷ []) (text_at t.words x) (listed.each x low placed)
    put x l placed (inr high) =
        let is : x ≡ k = omega (arith, l, high) in
        subst (Contains (words ++ word ∷ [])) (sym (ap (text_at t.words) is ∙ text_is t.words k word there)) (Contains-push words word)

pub listed_past : (t : Tables) (k : ℕ) (words : List (List ℕ)) → AreListed t k words → (HasPlaced t.rows k → ⊥) → AreListed t (k + 1) words
listed_past t k words listed none = record {
  once = listed.once;
  only = λ word h. let old = listed.only word h in (old.0, omega (arith, old.1), old.2, old.3);
  each = λ x l placed. put x l placed (cases_lt x k);
}
  where
    put : (x : ℕ) → x < k + 1 → HasPlaced t.rows x → (x < k) ⊎ (k ≤ x) → Contains words (text_at t.words x)
    put x l placed (inl low) = listed.each x low placed
    put x l placed (inr high) = let is : x ≡ k = omega (arith, l, high) in absurd (none (subst (HasPlaced t.rows) is placed))

pub listed_all : (t : Tables) (k : ℕ) (words : List (List ℕ)) → AreInside t → AreDistinct t.names → AreDistinct t.words → AreOnce t.rows → AreListed t k words → length t.words ≤ k → ListsOnce (StandsFirst (counted t)) words
listed_all t k words inside names_differ words_differ once listed l = record {
  once = listed.once;
  only = λ word h. let old = listed.only word h in stands word old.0 old.2 old.3;
  each = λ word first. put word first;
}
  where
    stands : (word : List ℕ) (x : ℕ) → slice_get t.words x ≡ Some word → HasPlaced t.rows x → StandsFirst (counted t) word
    stands word x there placed =
        let p = placed.is in
        let at : IsAt t.rows (x, p.member) placed.place = record { count = p.count; there = p.there } in
        let name = text_at t.names p.member in
        let is_name : slice_get t.names p.member ≡ Some name = slice_get-get_or t.names p.member [] (inside.rows (x, p.member) placed.place at).1 in
        let counts = name_counts t.names t.words t.rows inside.rows name word x p.member names_differ words_differ is_name there ∙ count_there t.rows (x, p.member) p.count placed.place once p.there in
        record { name = name; some = omega (arith, counts, p.some) }

    put : (word : List ℕ) → StandsFirst (counted t) word → Contains words word
    put word first =
        let test : List ℕ × List ℕ → Bool = is_two first.name word in
        let h = total-some (λ k. test (named_word t.names t.words k)) t.rows (subst (λ (n : ℕ). 0 < n) (total-map (named_word t.names t.words) test t.rows) first.some) in
        let low = inside.rows h.key h.place (record { count = h.count; there = h.there }) in
        let same = two_same first.name word (named_word t.names t.words h.key) h.passes in
        let placed : HasPlaced t.rows h.key.0 = record { place = h.place; is = record { member = h.key.1; count = h.count; there = h.there; some = h.some } } in
        subst (Contains words) (sym same.1) (listed.each h.key.0 (omega (arith, low.0, l)) placed)
