-- The best of several lists, each of which has the best of some words.
use Rattle.std.proofs.Common.{◌≡◌, ℕ, zero, suc, ◌<◌, ◌≤◌, Bool, true, false, cond, List, [], ◌∷◌, ◌++◌, length, get_or, append-nil, append_assoc, length-append, refl, sym, ◌∙◌, ap, subst, arith, ◌⊎◌, inl, inr}
use Rattle.std.specs.Cmp.{IsStrictWeakOrder}
use Rattle.std.specs.List.{AllByRecursion, AllZip, flat_map, sum_by}
use Rattle.std.specs.List.Sorted.{IsPermutation}
use Rattle.std.proofs.lemmas.Bool.{cases_lt, true≢false}
use Rattle.std.proofs.lemmas.Grind.{flat_map-append}
use Rattle.std.proofs.lemmas.List.Elements.{recursion_from_All, All-from_recursion}
use Rattle.std.proofs.lemmas.List.Sorted.{IsPermutation-refl, IsPermutation-trans, IsPermutation-append, length_permutation, sum_by-IsPermutation}
use Rattle.std.proofs.lemmas.List.Sums.{sum_by-cons, sum_by-append}
use Rattle.mt_word_sketch_spec.specs.Order.{Weighed}
use Rattle.mt_ranks.specs.Bests.{comes_before, IsBest}
use Rattle.mt_ranks.proofs.Tops.{NotBefore, weighed_weak, all_weaker, none_left, all_append, no_best}

-- ---- how many come before one

abbrev counts : Weighed → Weighed → ℕ
counts a x = cond (comes_before x a) 1 0

abbrev early : Weighed → List Weighed → ℕ
early a xs = sum_by (counts a) xs

counts_is : (a x : Weighed) (b : Bool) → comes_before x a ≡ b → counts a x ≡ cond b 1 0
counts_is a x b e = ap (λ (c : Bool). cond c 1 0) e

counts_few : (a x : Weighed) → counts a x ≤ 1
counts_few a x = by (comes_before x a) refl
  where
    by : (b : Bool) → comes_before x a ≡ b → counts a x ≤ 1
    by true e = let is = counts_is a x true e in omega (arith, is)
    by false e = let is = counts_is a x false e in omega (arith, is)

early_few : (a : Weighed) (xs : List Weighed) → early a xs ≤ length xs
early_few a [] = omega arith
early_few a (x ∷ xs) = omega (arith, sum_by-cons (counts a) x xs, counts_few a x, early_few a xs)

none_early : (a : Weighed) (xs : List Weighed) → AllByRecursion (NotBefore a) xs → early a xs ≡ 0
none_early a [] h = refl
none_early a (x ∷ xs) h = omega (arith, sum_by-cons (counts a) x xs, counts_is a x false h.0, none_early a xs h.1)

-- what one comes before that comes before a, comes before a
all_early : (a b : Weighed) (xs : List Weighed) → comes_before b a ≡ true → AllByRecursion (λ x. NotBefore x b) xs → early a xs ≡ length xs
all_early a b [] early h = refl
all_early a b (x ∷ xs) before h = omega (arith, sum_by-cons (counts a) x xs, counts_is a x true (by (comes_before x a) refl), all_early a b xs before h.1)
  where
    by : (c : Bool) → comes_before x a ≡ c → comes_before x a ≡ true
    by true e = e
    by false e = let o : IsStrictWeakOrder comes_before = weighed_weak in absurd (true≢false (sym before ∙ o.chain b x a h.0 e))

not_itself : (a : Weighed) → comes_before a a ≡ false
not_itself a = by (comes_before a a) refl
  where
    by : (c : Bool) → comes_before a a ≡ c → comes_before a a ≡ false
    by true e = let o : IsStrictWeakOrder comes_before = weighed_weak in o.one_way a a e
    by false e = e

some_late : (a d : Weighed) (xs : List Weighed) (k : ℕ) → k < length xs → get_or xs k d ≡ a → early a xs < length xs
some_late a d [] k low e = absurd (omega arith)
some_late a d (x ∷ xs) zero low e = omega (arith, sum_by-cons (counts a) x xs, counts_is a x false (ap (λ (y : Weighed). comes_before y a) e ∙ not_itself a), early_few a xs)
some_late a d (x ∷ xs) (suc k) low e = omega (arith, sum_by-cons (counts a) x xs, counts_few a x, some_late a d xs k (omega arith) e)

-- ---- one list more

module _ (max : ℕ) (seen part list new : List Weighed) (best : IsBest max part list) (top : IsBest max (seen ++ list) new) where
  -- where the list is full, what it leaves out comes before none of the best
  full_late : max ≤ length list → (a d : Weighed) (k : ℕ) → k < length new → get_or new k d ≡ a → AllByRecursion (NotBefore a) best.rest
  full_late full a d k low is = recursion_from_All (NotBefore a) best.rest (λ j e m. by (get_or best.rest j e) (all_weaker {P = λ x. AllByRecursion (NotBefore x) best.rest} {Q = λ x. NotBefore x (get_or best.rest j e)} (λ x p. All-from_recursion (NotBefore x) best.rest p j e m) list best.above) (comes_before (get_or best.rest j e) a) refl)
    where
      after : AllByRecursion (NotBefore a) top.rest
      after = subst (λ (x : Weighed). AllByRecursion (NotBefore x) top.rest) is (All-from_recursion (λ x. AllByRecursion (NotBefore x) top.rest) new top.above k d low)

      by : (b : Weighed) → AllByRecursion (λ x. NotBefore x b) list → (c : Bool) → comes_before b a ≡ c → comes_before b a ≡ false
      by b h false e = e
      by b h true e =
          let one : early a (new ++ top.rest) ≡ early a (seen ++ list) = sum_by-IsPermutation (counts a) (seen ++ list) (new ++ top.rest) top.same in
          absurd (omega (arith, one, sum_by-append (counts a) new top.rest, sum_by-append (counts a) seen list, all_early a b list e h, none_early a top.rest after, some_late a d new k low is, top.count, full))

  late : (max ≤ length part) ⊎ (length part < max) → (k : ℕ) (d : Weighed) → k < length new → AllByRecursion (NotBefore (get_or new k d)) best.rest
  late (inl many) k d low = full_late (omega (arith, best.count, many)) (get_or new k d) d k low refl
  late (inr few) k d low =
      let all : length (list ++ best.rest) ≡ length part = length_permutation part (list ++ best.rest) best.same in
      let short : length list ≡ length part = omega (arith, best.count, few) in
      subst (λ (xs : List Weighed). AllByRecursion (NotBefore (get_or new k d)) xs) (sym (none_left list best.rest (length part) all short)) tt

  either : (max ≤ length part) ⊎ (length part < max)
  either = by (cases_lt (length part) max)
    where
      by : (length part < max) ⊎ (max ≤ length part) → (max ≤ length part) ⊎ (length part < max)
      by (inl l) = inr l
      by (inr l) = inl l

  pub part_more : IsBest max (seen ++ part) new
  part_more =
      let one : IsPermutation (seen ++ part) (seen ++ (list ++ best.rest)) = IsPermutation-append seen seen part (list ++ best.rest) (IsPermutation-refl seen) best.same in
      let two : IsPermutation ((seen ++ list) ++ best.rest) ((new ++ top.rest) ++ best.rest) = IsPermutation-append (seen ++ list) (new ++ top.rest) best.rest best.rest top.same (IsPermutation-refl best.rest) in
      record {
        rest = top.rest ++ best.rest;
        same = subst (λ (xs : List Weighed). IsPermutation (seen ++ part) xs) (append_assoc new top.rest best.rest)
            (IsPermutation-trans (seen ++ part) ((seen ++ list) ++ best.rest) ((new ++ top.rest) ++ best.rest) (subst (λ (xs : List Weighed). IsPermutation (seen ++ part) xs) (sym (append_assoc seen list best.rest)) one) two);
        count = omega (arith, top.count, best.count, length-append seen list, length-append seen part);
        above = recursion_from_All (λ a. AllByRecursion (NotBefore a) (top.rest ++ best.rest)) new
            (λ k d low. all_append (get_or new k d) top.rest best.rest (All-from_recursion (λ x. AllByRecursion (NotBefore x) top.rest) new top.above k d low) (late either k d low));
      }

-- ---- all lists

record Last (max : ℕ) (parts lists : List (List Weighed)) (list : List Weighed) : Type 0 where
  front : List (List Weighed)
  part : List Weighed
  is : parts ≡ front ++ part ∷ []
  each : AllZip (IsBest max) front lists
  best : IsBest max part list

last_of : (max : ℕ) (parts lists : List (List Weighed)) (list : List Weighed) → AllZip (IsBest max) parts (lists ++ list ∷ []) → Last max parts lists list
last_of max [] [] list h = absurd h
last_of max [] (l ∷ lists) list h = absurd h
last_of max (part ∷ []) [] list h = record { front = []; part = part; is = refl; each = tt; best = h.0 }
last_of max (part ∷ other ∷ parts) [] list h = absurd h.1
last_of max (part ∷ parts) (l ∷ lists) list h =
    let again = last_of max parts lists list h.1 in
    record { front = part ∷ again.front; part = again.part; is = ap (λ (ps : List (List Weighed)). part ∷ ps) again.is; each = (h.0, again.each); best = again.best }

abbrev pub AreBest : ℕ → List (List Weighed) → List Weighed → Type 0
AreBest max lists kept = (parts : List (List Weighed)) → AllZip (IsBest max) parts lists → IsBest max (flat_map (λ part. part) parts) kept

pub none_best : (max : ℕ) (kept : List Weighed) → kept ≡ [] → AreBest max [] kept
none_best max kept none [] h = no_best max kept none
none_best max kept none (part ∷ parts) h = absurd h

pub list_more : (max : ℕ) (lists : List (List Weighed)) (list old new : List Weighed) → AreBest max lists old → ((seen : List Weighed) → IsBest max seen old → IsBest max (seen ++ list) new) → AreBest max (lists ++ list ∷ []) new
list_more max lists list old new before more parts h =
    let last = last_of max parts lists list h in
    let front = flat_map (λ part. part) last.front in
    let whole : flat_map (λ part. part) parts ≡ front ++ last.part =
    ap (λ (ps : List (List Weighed)). flat_map (λ part. part) ps) last.is ∙ flat_map-append (λ (part : List Weighed). part) last.front (last.part ∷ []) ∙ ap (λ (xs : List Weighed). front ++ xs) (append-nil last.part) in
    subst (λ (xs : List Weighed). IsBest max xs new) (sym whole) (part_more max front last.part list new last.best (more front (before last.front last.each)))

pub all_lists : (max : ℕ) (taken rest lists : List (List Weighed)) (kept : List Weighed) → taken ++ rest ≡ lists → length rest ≡ 0 → AreBest max taken kept → AreBest max lists kept
all_lists max taken [] lists kept e l best = subst (λ (ls : List (List Weighed)). AreBest max ls kept) (sym (append-nil taken) ∙ e) best
all_lists max taken (x ∷ rest) lists kept e l best = absurd (omega arith)
