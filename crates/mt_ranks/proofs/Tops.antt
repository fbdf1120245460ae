-- The first so many.
use Rattle.std.proofs.Common.{◌≡◌, ℕ, suc, ◌<◌, ◌≤◌, Bool, true, false, cond, List, [], ◌∷◌, ◌++◌, length, take, min, get_or, append-nil, length-append, refl, sym, ◌∙◌, ap, subst, arith, ◌⊎◌, inl, inr}
use Rattle.std.specs.declared.cmp.Ordering.{Ordering}
use Rattle.std.specs.declared.cmp.Ordering.TheVariants.{Less, Equal, Greater}
use Rattle.std.specs.Ordering.{ordering_reverse, is_lt, is_le}
use Rattle.std.specs.Cmp.{IsTotalOrder, IsStrictWeakOrder, IsEquivalence}
use Rattle.std.specs.Cmp.Lexicographic.{nat_list_eq_equiv, bytes_decides}
use Rattle.std.specs.List.{AllByRecursion, Contains, IsDistinct}
use Rattle.std.specs.List.Sorted.{IsPermutation, IsSortedBy, IsStrictlySortedBy}
use Rattle.std.specs.Str.{bytes_eq}
use Rattle.std.specs.BinaryHeap.{IsUpperBound}
use Rattle.std.proofs.Math.Seq.{take-append_seam}
use Rattle.std.proofs.lemmas.Bool.{cases_lt, true≢false}
use Rattle.std.proofs.lemmas.List.{take_all, get_or_default}
use Rattle.std.proofs.lemmas.List.Elements.{recursion_from_All, All-from_recursion}
use Rattle.std.proofs.lemmas.List.Sorted.{ranks_by, sorted_far, IsPermutation-refl, IsPermutation-trans, IsPermutation-sym, IsPermutation-cons, IsPermutation-middle, IsPermutation-append, IsPermutation-append_left, IsPermutation-push_more, All-permutation, Contains-permutation, length_permutation}
use Rattle.std.proofs.lemmas.Map.Keys.{IsDistinct-IsPermutation}
use Rattle.mt_word_sketch_spec.specs.Ranks.{FirstRanked}
use Rattle.mt_word_sketch_spec.specs.Order.{Weighed, ranked_of, weighed_cmp, weighed_total, same_word}
use Rattle.mt_ranks.specs.Bests.{AreDistinct, comes_before, IsBest}

-- ---- the order

pub weighed_weak : IsStrictWeakOrder comes_before
weighed_weak = ranks_by weighed_total (λ (w : Weighed). w)

-- one of two comes before the other, where their words differ
before_other : (a b : Weighed) → comes_before b a ≡ false → bytes_eq a.word b.word ≡ false → weighed_cmp a b ≡ Less
before_other a b h d = by (weighed_cmp b a) refl
  where
    by : (o : Ordering) → weighed_cmp b a ≡ o → weighed_cmp a b ≡ Less
    by Less e = absurd (true≢false (sym (ap is_lt e) ∙ h))
    by Equal e = absurd (true≢false (sym ((bytes_decides a.word b.word).1 (sym (same_word (ranked_of b) (ranked_of a) e))) ∙ d))
    by Greater e = let o : IsTotalOrder weighed_cmp = weighed_total in o.antisymm a b ∙ ap ordering_reverse e

-- ---- lists in which none comes before an earlier one

abbrev pub NotBefore : Weighed → Weighed → Type 0
NotBefore a b = comes_before b a ≡ false

abbrev IsUp : List Weighed → Type 0
IsUp [] = Unit {0}
IsUp (x ∷ xs) = AllByRecursion (NotBefore x) xs × IsUp xs

pub all_weaker : {P Q : Weighed → Type 0} → ((c : Weighed) → P c → Q c) → (xs : List Weighed) → AllByRecursion P xs → AllByRecursion Q xs
all_weaker f [] h = tt
all_weaker f (x ∷ xs) h = (f x h.0, all_weaker f xs h.1)

up_from_far : (xs : List Weighed) → ((i j : ℕ) (d : Weighed) → i < j → j < length xs → comes_before (get_or xs j d) (get_or xs i d) ≡ false) → IsUp xs
up_from_far [] far = tt
up_from_far (x ∷ xs) far = (recursion_from_All (NotBefore x) xs (λ k d l. far 0 (suc k) d (omega arith) (omega arith)), up_from_far xs (λ i j d l m. far (suc i) (suc j) d (omega arith) (omega arith)))

up_from_sorted : (xs : List Weighed) → IsSortedBy comes_before xs → IsUp xs
up_from_sorted xs up = up_from_far xs (λ i j d l m. sorted_far comes_before weighed_weak xs up i j d (omega arith) m)

pub all_append : (c : Weighed) (us vs : List Weighed) → AllByRecursion (NotBefore c) us → AllByRecursion (NotBefore c) vs → AllByRecursion (NotBefore c) (us ++ vs)
all_append c [] vs p q = q
all_append c (u ∷ us) vs p q = (p.0, all_append c us vs p.1 q)

up_append : (xs ys : List Weighed) → IsUp xs → IsUp ys → AllByRecursion (λ a. AllByRecursion (NotBefore a) ys) xs → IsUp (xs ++ ys)
up_append [] ys h g across = g
up_append (x ∷ xs) ys h g across = (all_append x xs ys h.0 across.0, up_append xs ys h.1 g across.1)

-- with values that differ, each comes before all later ones
strict_from_up : (xs : List Weighed) → IsUp xs → AreDistinct xs → IsStrictlySortedBy weighed_cmp xs
unfolding IsStrictlySortedBy IsDistinct
strict_from_up [] h d = tt
strict_from_up (x ∷ xs) h d = (each x xs h.0 d.0, strict_from_up xs h.1 d.1)
  where
    each : (c : Weighed) (us : List Weighed) → AllByRecursion (NotBefore c) us → AllByRecursion (λ u. bytes_eq c.word u.word ≡ false) us → AllByRecursion (λ u. weighed_cmp c u ≡ Less) us
    each c [] p q = tt
    each c (u ∷ us) p q = (before_other c u p.0 q.0, each c us p.1 q.1)

-- ---- each list has a sorted one

abbrev insert : Weighed → List Weighed → List Weighed
insert x [] = x ∷ []
insert x (y ∷ ys) = cond (comes_before y x) (y ∷ insert x ys) (x ∷ y ∷ ys)

all_insert : (P : Weighed → Type 0) (x : Weighed) (ys : List Weighed) → P x → AllByRecursion P ys → AllByRecursion P (insert x ys)
all_insert P x [] p h = (p, tt)
all_insert P x (y ∷ ys) p h = by (comes_before y x) (all_insert P x ys p h.1)
  where
    by : (b : Bool) → AllByRecursion P (insert x ys) → AllByRecursion P (cond b (y ∷ insert x ys) (x ∷ y ∷ ys))
    by true again = (h.0, again)
    by false again = (p, h)

up_insert : (x : Weighed) (ys : List Weighed) → IsUp ys → IsUp (insert x ys)
up_insert x [] h = (tt, tt)
up_insert x (y ∷ ys) h = by (comes_before y x) refl (up_insert x ys h.1)
  where
    by : (b : Bool) → comes_before y x ≡ b → IsUp (insert x ys) → IsUp (cond b (y ∷ insert x ys) (x ∷ y ∷ ys))
    by true e again = let o : IsStrictWeakOrder comes_before = weighed_weak in (all_insert (NotBefore y) x ys (o.one_way y x e) h.0, again)
    by false e again = let o : IsStrictWeakOrder comes_before = weighed_weak in ((e, all_weaker {P = NotBefore y} {Q = NotBefore x} (λ z p. o.chain z y x p e) ys h.0), h)

same_insert : (x : Weighed) (ys : List Weighed) → IsPermutation (x ∷ ys) (insert x ys)
same_insert x [] = IsPermutation-refl (x ∷ [])
same_insert x (y ∷ ys) = by (comes_before y x) (same_insert x ys)
  where
    by : (b : Bool) → IsPermutation (x ∷ ys) (insert x ys) → IsPermutation (x ∷ y ∷ ys) (cond b (y ∷ insert x ys) (x ∷ y ∷ ys))
    by true again = IsPermutation-trans (x ∷ y ∷ ys) (y ∷ x ∷ ys) (y ∷ insert x ys) (IsPermutation-sym (y ∷ x ∷ ys) (x ∷ y ∷ ys) (IsPermutation-middle (y ∷ []) x ys)) (IsPermutation-cons y (x ∷ ys) (insert x ys) again)
    by false again = IsPermutation-refl (x ∷ y ∷ ys)

abbrev sorted : List Weighed → List Weighed
sorted [] = []
sorted (x ∷ xs) = insert x (sorted xs)

up_sorted : (xs : List Weighed) → IsUp (sorted xs)
up_sorted [] = tt
up_sorted (x ∷ xs) = up_insert x (sorted xs) (up_sorted xs)

same_sorted : (xs : List Weighed) → IsPermutation xs (sorted xs)
same_sorted [] = IsPermutation-refl []
same_sorted (x ∷ xs) = IsPermutation-trans (x ∷ xs) (x ∷ sorted xs) (insert x (sorted xs)) (IsPermutation-cons x xs (sorted xs) (same_sorted xs)) (same_insert x (sorted xs))

-- ---- the first so many

all_moved : (P : Weighed → Type 0) (xs ys : List Weighed) → IsPermutation xs ys → AllByRecursion P xs → AllByRecursion P ys
all_moved P xs ys moved h = recursion_from_All P ys (All-permutation P xs ys moved (All-from_recursion P xs h))

distinct_moved : (xs ys : List Weighed) → IsPermutation xs ys → AreDistinct xs → AreDistinct ys
distinct_moved xs ys moved h =
    let equal : IsEquivalence bytes_eq = nat_list_eq_equiv in
    IsDistinct-IsPermutation (λ (a b : Weighed). bytes_eq a.word b.word) (λ a b. equal.symm a.word b.word) xs ys moved h

pub none_left : (xs ys : List Weighed) (n : ℕ) → length (xs ++ ys) ≡ n → length xs ≡ n → ys ≡ []
none_left xs [] n e f = refl
none_left xs (y ∷ ys) n e f = absurd (omega (arith, length-append xs (y ∷ ys)))

first_of : (max n : ℕ) (top rest : List Weighed) → length top ≡ min max n → length (top ++ rest) ≡ n → top ≡ take max (top ++ rest)
first_of max n top rest count all = by (cases_lt n max)
  where
    by : (n < max) ⊎ (max ≤ n) → top ≡ take max (top ++ rest)
    by (inl l) =
        let short : length top ≡ n = omega arith in
        let none : rest ≡ [] = none_left top rest n all short in
        let whole : top ++ rest ≡ top = ap (λ (r : List Weighed). top ++ r) none ∙ append-nil top in
        sym (ap (take max) whole ∙ take_all max top (omega arith))
    by (inr l) =
        let full : length top ≡ max = omega arith in
        sym (ap (λ (k : ℕ). take k (top ++ rest)) (sym full) ∙ take-append_seam top rest)

-- the best so many, sorted, are the first so many
pub top_of_best : (max : ℕ) (items kept top : List Weighed) → AreDistinct items → IsBest max items kept → IsPermutation kept top → IsSortedBy comes_before top → FirstRanked ranked_of (Contains items) max top
top_of_best max items kept top distinct best moved up =
    let rest = sorted best.rest in
    let across : AllByRecursion (λ a. AllByRecursion (NotBefore a) rest) top = all_moved (λ a. AllByRecursion (NotBefore a) rest) kept top moved
    (all_weaker {P = λ a. AllByRecursion (NotBefore a) best.rest} {Q = λ a. AllByRecursion (NotBefore a) rest} (λ a p. all_moved (NotBefore a) best.rest rest (same_sorted best.rest) p) kept best.above) in
    let same : IsPermutation items (top ++ rest) = IsPermutation-trans items (kept ++ best.rest) (top ++ rest) best.same (IsPermutation-append kept top best.rest rest moved (same_sorted best.rest)) in
    record {
      all = top ++ rest;
      are = record {
        ascending = strict_from_up (top ++ rest) (up_append top rest (up_from_sorted top up) (up_sorted best.rest) across) (distinct_moved items (top ++ rest) same distinct);
        only = λ x h. Contains-permutation (top ++ rest) items x (IsPermutation-sym items (top ++ rest) same) h;
        each = λ x h. Contains-permutation items (top ++ rest) x same h;
      };
      first = first_of max (length items) top rest (length_permutation kept top moved ∙ best.count) (length_permutation items (top ++ rest) same);
    }

-- ---- one more

pub no_best : (max : ℕ) (kept : List Weighed) → kept ≡ [] → IsBest max [] kept
no_best max kept e = rw e (record { rest = []; same = IsPermutation-refl []; count = omega arith; above = tt })

pub all_known : (P : Weighed → Type 0) (xs : List Weighed) → ((c : Weighed) → P c) → AllByRecursion P xs
all_known P [] f = tt
all_known P (x ∷ xs) f = (f x, all_known P xs f)

-- there is room for it
pub best_pushed : (max : ℕ) (seen old new : List Weighed) (item : Weighed) → IsBest max seen old → length old < max → IsPermutation (item ∷ old) new → IsBest max (seen ++ item ∷ []) new
best_pushed max seen old new item best room moved =
    let all : length (old ++ best.rest) ≡ length seen = length_permutation seen (old ++ best.rest) best.same in
    let count : length old ≡ length seen = omega (arith, best.count) in
    let none : best.rest ≡ [] = none_left old best.rest (length seen) all count in
    let one : IsPermutation seen old = subst (λ (r : List Weighed). IsPermutation seen r) (ap (λ (r : List Weighed). old ++ r) none ∙ append-nil old) best.same in
    record {
      rest = [];
      same = subst (λ (r : List Weighed). IsPermutation (seen ++ item ∷ []) r) (sym (append-nil new)) (IsPermutation-push_more seen old new item one moved);
      count = length_permutation (item ∷ old) new moved ∙ omega (arith, best.count, length-append seen (item ∷ []));
      above = all_known (λ a. AllByRecursion (NotBefore a) []) new (λ c. tt);
    }

paired : (out : Weighed) (rest xs : List Weighed) → AllByRecursion (λ a. NotBefore a out) xs → AllByRecursion (λ a. AllByRecursion (NotBefore a) rest) xs → AllByRecursion (λ a. AllByRecursion (NotBefore a) (out ∷ rest)) xs
paired out rest [] h g = tt
paired out rest (x ∷ xs) h g = ((h.0, g.0), paired out rest xs h.1 g.1)

-- one is left out
left_out : (max : ℕ) (seen old new : List Weighed) (item out : Weighed) (best : IsBest max seen old) → max ≤ length old → IsPermutation (item ∷ old) (out ∷ new) → AllByRecursion (λ a. NotBefore a out) new →
    AllByRecursion (λ a. AllByRecursion (NotBefore a) best.rest) new → IsBest max (seen ++ item ∷ []) new
left_out max seen old new item out best full moved after above =
    let rest = best.rest in
    let one : IsPermutation (seen ++ item ∷ []) (item ∷ (old ++ rest)) = IsPermutation-push_more seen (old ++ rest) (item ∷ (old ++ rest)) item best.same (IsPermutation-refl (item ∷ (old ++ rest))) in
    let two : IsPermutation (item ∷ (old ++ rest)) (out ∷ (new ++ rest)) = IsPermutation-append_left rest (item ∷ old) (out ∷ new) moved in
    let three : IsPermutation (out ∷ (new ++ rest)) (new ++ out ∷ rest) = IsPermutation-sym (new ++ out ∷ rest) (out ∷ (new ++ rest)) (IsPermutation-middle new out rest) in
    record {
      rest = out ∷ rest;
      same = IsPermutation-trans (seen ++ item ∷ []) (item ∷ (old ++ rest)) (new ++ out ∷ rest) one (IsPermutation-trans (item ∷ (old ++ rest)) (out ∷ (new ++ rest)) (new ++ out ∷ rest) two three);
      count = omega (arith, best.count, length_permutation (item ∷ old) (out ∷ new) moved, length-append seen (item ∷ []));
      above = paired out rest new after above;
    }

-- there is no room at all
pub best_of_none : (max : ℕ) (seen old : List Weighed) (item : Weighed) → IsBest max seen old → max ≤ length old → length old ≡ 0 → IsBest max (seen ++ item ∷ []) old
best_of_none max seen [] item best full e = left_out max seen [] [] item item best full (IsPermutation-refl (item ∷ [])) tt tt
best_of_none max seen (x ∷ xs) item best full e = absurd (omega arith)

-- it does not come before the last
pub best_passed : (max : ℕ) (seen old : List Weighed) (item last : Weighed) → IsBest max seen old → max ≤ length old → comes_before item last ≡ false → IsUpperBound weighed_cmp last old → IsBest max (seen ++ item ∷ []) old
best_passed max seen old item last best full later bound =
    let o : IsStrictWeakOrder comes_before = weighed_weak in
    left_out max seen old old item item best full (IsPermutation-refl (item ∷ old)) (all_weaker {P = λ a. comes_before last a ≡ false} {Q = λ a. NotBefore a item} (λ a p. o.chain item last a later p) old bound) best.above

-- it takes the place of the last
pub best_replaced : (max : ℕ) (seen old left new : List Weighed) (item last : Weighed) → IsBest max seen old → max ≤ length old → comes_before item last ≡ true → IsPermutation old (last ∷ left) → IsUpperBound weighed_cmp last left →
    IsPermutation (item ∷ left) new → IsBest max (seen ++ item ∷ []) new
best_replaced max seen old left new item last best full earlier popped bound pushed =
    let o : IsStrictWeakOrder comes_before = weighed_weak in
    let before : comes_before last item ≡ false = o.one_way item last earlier in
    let one : IsPermutation (item ∷ old) (item ∷ last ∷ left) = IsPermutation-cons item old (last ∷ left) popped in
    let two : IsPermutation (item ∷ last ∷ left) (last ∷ item ∷ left) = IsPermutation-middle (item ∷ []) last left in
    let three : IsPermutation (last ∷ item ∷ left) (last ∷ new) = IsPermutation-cons last (item ∷ left) new pushed in
    let moved : IsPermutation (item ∷ old) (last ∷ new) = IsPermutation-trans (item ∷ old) (item ∷ last ∷ left) (last ∷ new) one (IsPermutation-trans (item ∷ last ∷ left) (last ∷ item ∷ left) (last ∷ new) two three) in
    let was : AllByRecursion (λ a. AllByRecursion (NotBefore a) best.rest) (last ∷ left) = all_moved (λ a. AllByRecursion (NotBefore a) best.rest) old (last ∷ left) popped best.above in
    let now : AllByRecursion (λ a. AllByRecursion (NotBefore a) best.rest) (item ∷ left) = (all_weaker {P = NotBefore last} {Q = NotBefore item} (λ b p. o.chain b last item p before) best.rest was.0, was.1) in
    left_out max seen old new item last best full moved
    (all_moved (λ a. NotBefore a last) (item ∷ left) new pushed (before, bound))
    (all_moved (λ a. AllByRecursion (NotBefore a) best.rest) (item ∷ left) new pushed now)

-- what a comparison by `<=` says
pub le_passes : (a b : Weighed) → is_le (weighed_cmp a b) ≡ true → comes_before b a ≡ false
le_passes a b h = by (weighed_cmp a b) refl h
  where
    by : (o : Ordering) → weighed_cmp a b ≡ o → is_le o ≡ true → comes_before b a ≡ false
    by Less e h = let o : IsTotalOrder weighed_cmp = weighed_total in ap is_lt (o.antisymm b a ∙ ap ordering_reverse e)
    by Equal e h = let o : IsTotalOrder weighed_cmp = weighed_total in ap is_lt (o.antisymm b a ∙ ap ordering_reverse e)
    by Greater e h = absurd (true≢false (sym h))

pub le_fails : (a b : Weighed) → is_le (weighed_cmp a b) ≡ false → comes_before b a ≡ true
le_fails a b h = by (weighed_cmp a b) refl h
  where
    by : (o : Ordering) → weighed_cmp a b ≡ o → is_le o ≡ false → comes_before b a ≡ true
    by Less e h = absurd (true≢false h)
    by Equal e h = absurd (true≢false h)
    by Greater e h = let o : IsTotalOrder weighed_cmp = weighed_total in ap is_lt (o.antisymm b a ∙ ap ordering_reverse e)

pub same_top : (xs : List Weighed) (a b : Weighed) → a ≡ get_or xs 0 a → b ≡ get_or xs 0 b → 0 < length xs → a ≡ b
same_top xs a b e f l = e ∙ get_or_default xs 0 a b l ∙ sym f

-- at the end all are seen
pub all_seen : (max : ℕ) (seen rest items kept : List Weighed) → seen ++ rest ≡ items → length rest ≡ 0 → IsBest max seen kept → IsBest max items kept
all_seen max seen [] items kept e l best = subst (λ (xs : List Weighed). IsBest max xs kept) (sym (append-nil seen) ∙ e) best
all_seen max seen (x ∷ xs) items kept e l best = absurd (omega arith)

pub none_there : (n : ℕ) → (0 < n → false ≡ true) → n ≡ 0
none_there n h = by (cases_lt 0 n)
  where
    by : (0 < n) ⊎ (n ≤ 0) → n ≡ 0
    by (inl l) = absurd (true≢false (sym (h l)))
    by (inr l) = omega arith
