-- Lists of values: each has a lexicon, and one only.
use Rattle.std.proofs.Common.{◌≡◌, ℕ, zero, suc, ◌+◌, ◌^◌, ◌<◌, ◌≤◌, List, [], ◌∷◌, length, get_or, refl, sym, ◌∙◌, ap₂, subst, arith, ◌⊎◌, inl, inr}
use Rattle.std.specs.Ordering.{nat_cmp}
use Rattle.std.specs.Cmp.Lexicographic.{slice_cmp}
use Rattle.std.specs.declared.cmp.Ordering.{Ordering}
use Rattle.std.specs.declared.cmp.Ordering.TheVariants.{Less, Equal, Greater}
use Rattle.std.specs.List.{All, Contains}
use Rattle.std.proofs.lemmas.List.Elements.{All-nil, All-cons, All-head, All-tail, All-weaker, All-from_get_or, All-contains, All-contains_itself, Contains-get_or, Contains-append_right}
use Rattle.std.proofs.lemmas.List.Kept.{AllPairs-cons}
use Rattle.mt_store_spec.specs.Lexicons.{IsBelow, IsAscending, IsLexiconOf, AreFew, HaveALexicon, HaveOneLexicon, IsToldByMembers, IsShortest}
use Rattle.mt_lexicon.proofs.Order.{chained, not_below_itself, flipped, same_from_equal}

-- ---- members

first_member : (x : List ℕ) (xs : List (List ℕ)) → Contains (x ∷ xs) x
first_member x xs = (0, omega arith, refl)

later_member : (x z : List ℕ) (xs : List (List ℕ)) → Contains xs z → Contains (x ∷ xs) z
later_member x z xs c = Contains-append_right (x ∷ []) xs z c

member_at : (x z : List ℕ) (xs : List (List ℕ)) (k : ℕ) → k < length (x ∷ xs) → get_or (x ∷ xs) k z ≡ z → (x ≡ z) ⊎ Contains xs z
member_at x z xs zero l e = inl e
member_at x z xs (suc k) l e = inr (k, omega arith, e)

member_cases : (x z : List ℕ) (xs : List (List ℕ)) → Contains (x ∷ xs) z → (x ≡ z) ⊎ Contains xs z
member_cases x z xs c = member_at x z xs c.0 c.1 c.2

no_member : (z : List ℕ) → Contains [] z → ⊥
no_member z c = let l = c.1 in omega arith

-- members of a list that are not its first are members of the rest
not_first : (y : List ℕ) (ys some : List (List ℕ)) → All (Contains (y ∷ ys)) some → ((z : List ℕ) → Contains some z → y ≡ z → ⊥) → All (Contains ys) some
not_first y ys some h apart = All-from_get_or (Contains ys) some [] (λ i l.
    elim (member_cases y (get_or some i []) ys (h i [] l)) [ inl e ↦ absurd (apart (get_or some i []) (Contains-get_or some i [] l) e) | inr c ↦ c ])

-- ---- ascending lists

first_below : (x : List ℕ) (xs : List (List ℕ)) → IsAscending (x ∷ xs) → All (IsBelow x) xs
first_below x xs up = All-from_get_or (IsBelow x) xs [] (λ i l. up 0 (suc i) [] (omega arith) (omega arith))

rest_ascending : (x : List ℕ) (xs : List (List ℕ)) → IsAscending (x ∷ xs) → IsAscending xs
rest_ascending x xs up = λ i j d b l. up (suc i) (suc j) d (omega arith) (omega arith)

-- what is above all values of a list is none of them
below_all : (y : List ℕ) (some : List (List ℕ)) → All (IsBelow y) some → (z : List ℕ) → Contains some z → y ≡ z → ⊥
below_all y some h z c e = not_below_itself y (subst (IsBelow y) (sym e) (All-contains (IsBelow y) some z h c))

-- what is below the first is below all
below_first : (y x : List ℕ) (xs : List (List ℕ)) → IsAscending (x ∷ xs) → IsBelow y x → All (IsBelow y) (x ∷ xs)
below_first y x xs up h = All-cons (IsBelow y) x xs h (All-weaker (IsBelow x) (IsBelow y) (λ z b. chained y x z h b) xs (first_below x xs up))

-- the rest of one list is within the rest of another where they begin alike
rests_within : (x y : List ℕ) (xs ys : List (List ℕ)) → IsAscending (x ∷ xs) → y ≡ x → All (Contains (y ∷ ys)) (x ∷ xs) → All (Contains ys) xs
rests_within x y xs ys up e h =
    not_first y ys xs (All-tail (Contains (y ∷ ys)) x xs h) (λ z c g. below_all x xs (first_below x xs up) z c (sym e ∙ g))

-- an ascending list is no longer than another that holds it
pub inside : (a b : List (List ℕ)) → IsAscending a → IsAscending b → All (Contains b) a → length a ≤ length b
inside [] b up rise h = omega arith
inside (x ∷ xs) [] up rise h = absurd (no_member x (All-head (Contains []) x xs h))
inside (x ∷ xs) (y ∷ ys) up rise h =
    elim (member_cases y x ys (All-head (Contains (y ∷ ys)) x xs h)) [
      | inl e ↦
          let l = inside xs ys (rest_ascending x xs up) (rest_ascending y ys rise) (rests_within x y xs ys up e h) in
          omega arith
      | inr c ↦
          let low : IsBelow y x = All-contains (IsBelow y) ys x (first_below y ys rise) c in
          let l = inside (x ∷ xs) ys up (rest_ascending y ys rise) (not_first y ys (x ∷ xs) h (below_all y (x ∷ xs) (below_first y x xs up low))) in
          omega arith
    ]

-- where lists hold each other's first values, they begin alike
begin_alike : (x y : List ℕ) (xs ys : List (List ℕ)) → IsAscending (x ∷ xs) → IsAscending (y ∷ ys) → Contains (y ∷ ys) x → Contains (x ∷ xs) y → y ≡ x
begin_alike x y xs ys up rise c d =
    elim (member_cases y x ys c) [
      | inl e ↦ e
      | inr c ↦ elim (member_cases x y xs d) [
        | inl e ↦ sym e
        | inr d ↦ absurd (not_below_itself y (chained y x y (All-contains (IsBelow y) ys x (first_below y ys rise) c) (All-contains (IsBelow x) xs y (first_below x xs up) d)))
      ]
    ]

-- ascending lists that hold each other are one
pub same_members : (a b : List (List ℕ)) → IsAscending a → IsAscending b → All (Contains b) a → All (Contains a) b → a ≡ b
same_members [] [] up rise h g = refl
same_members [] (y ∷ ys) up rise h g = absurd (no_member y (All-head (Contains []) y ys g))
same_members (x ∷ xs) [] up rise h g = absurd (no_member x (All-head (Contains []) x xs h))
same_members (x ∷ xs) (y ∷ ys) up rise h g =
    let e : y ≡ x = begin_alike x y xs ys up rise (All-head (Contains (y ∷ ys)) x xs h) (All-head (Contains (x ∷ xs)) y ys g) in
    ap₂ ◌∷◌ (sym e) (same_members xs ys (rest_ascending x xs up) (rest_ascending y ys rise) (rests_within x y xs ys up e h) (rests_within y x ys xs rise (sym e) g))

-- ---- a lexicon is there

-- the values of a list and one more
record Inserted (v : List ℕ) (xs ys : List (List ℕ)) : Type 0 where
  pub ascending : IsAscending ys
  pub now : Contains ys v
  pub kept : All (Contains ys) xs
  pub only : (z : List ℕ) → Contains ys z → (v ≡ z) ⊎ Contains xs z
  pub short : length ys ≤ length xs + 1

kept_later : (x : List ℕ) (ys xs : List (List ℕ)) → All (Contains ys) xs → All (Contains (x ∷ ys)) xs
kept_later x ys xs h = All-weaker (Contains ys) (Contains (x ∷ ys)) (λ z c. later_member x z ys c) xs h

inserted : (v : List ℕ) (xs : List (List ℕ)) → IsAscending xs → (ys : List (List ℕ)) × Inserted v xs ys
inserted v [] up = (
  v ∷ [],
  record {
    ascending = λ i j d b l. absurd (omega arith);
    now = first_member v [];
    kept = All-nil (Contains (v ∷ []));
    only = λ z c. member_cases v z [] c;
    short = omega arith;
  },
)
inserted v (x ∷ xs) up = by (slice_cmp nat_cmp v x) refl (inserted v xs (rest_ascending x xs up))
  where
    by : (o : Ordering) → slice_cmp nat_cmp v x ≡ o → (ys : List (List ℕ)) × Inserted v xs ys → (ys : List (List ℕ)) × Inserted v (x ∷ xs) ys
    by Less e more = (
      v ∷ x ∷ xs,
      record {
        ascending = AllPairs-cons IsBelow v (x ∷ xs) (below_first v x xs up e) up;
        now = first_member v (x ∷ xs);
        kept = kept_later v (x ∷ xs) (x ∷ xs) (All-contains_itself (x ∷ xs));
        only = λ z c. member_cases v z (x ∷ xs) c;
        short = omega arith;
      },
    )
    by Equal e more = (
      x ∷ xs,
      record {
        ascending = up;
        now = subst (Contains (x ∷ xs)) (sym (same_from_equal v x e)) (first_member x xs);
        kept = All-contains_itself (x ∷ xs);
        only = λ z c. inr c;
        short = omega arith;
      },
    )
    by Greater e (ys, h) = (
      x ∷ ys,
      record {
        ascending = AllPairs-cons IsBelow x ys (All-from_get_or (IsBelow x) ys [] (λ i l. above (get_or ys i []) (h.only (get_or ys i []) (Contains-get_or ys i [] l)))) h.ascending;
        now = later_member x v ys h.now;
        kept = All-cons (Contains (x ∷ ys)) x xs (first_member x ys) (kept_later x ys xs h.kept);
        only = λ z c. elim (member_cases x z ys c) [
          | inl f ↦ inr (subst (Contains (x ∷ xs)) f (first_member x xs))
          | inr d ↦ elim (h.only z d) [ inl f ↦ inl f | inr g ↦ inr (later_member x z xs g) ]
        ];
        short = let s = h.short in omega arith;
      },
    )
      where
        above : (z : List ℕ) → (v ≡ z) ⊎ Contains xs z → IsBelow x z
        above z (inl f) = subst (IsBelow x) f (flipped v x e)
        above z (inr c) = All-contains (IsBelow x) xs z (first_below x xs up) c

-- a lexicon that is no longer than the list of the values
shorter : (values : List (List ℕ)) → (lexicon : List (List ℕ)) × IsLexiconOf values lexicon × (length lexicon ≤ length values)
shorter [] = ([], record { ascending = λ i j d b l. absurd (omega arith); all = All-nil (Contains []); only = All-nil (Contains []) }, omega arith)
shorter (v ∷ values) = more (shorter values)
  where
    more : (lexicon : List (List ℕ)) × IsLexiconOf values lexicon × (length lexicon ≤ length values) → (lexicon : List (List ℕ)) × IsLexiconOf (v ∷ values) lexicon × (length lexicon ≤ length (v ∷ values))
    more (old, is, short) = with_it (inserted v old is.ascending)
      where
        with_it : (new : List (List ℕ)) × Inserted v old new → (lexicon : List (List ℕ)) × IsLexiconOf (v ∷ values) lexicon × (length lexicon ≤ length (v ∷ values))
        with_it (new, h) = (
          new,
          record {
            ascending = h.ascending;
            all = All-cons (Contains new) v values h.now (All-weaker (Contains old) (Contains new) (λ z c. All-contains (Contains new) old z h.kept c) values is.all);
            only = All-from_get_or (Contains (v ∷ values)) new [] (λ i l. from (get_or new i []) (h.only (get_or new i []) (Contains-get_or new i [] l)));
          },
          let s = h.short in omega arith,
        )
          where
            from : (z : List ℕ) → (v ≡ z) ⊎ Contains old z → Contains (v ∷ values) z
            from z (inl f) = subst (Contains (v ∷ values)) f (first_member v values)
            from z (inr c) = later_member v z values (All-contains (Contains values) old z is.only c)

-- ---- the laws

pub a_lexicon : HaveALexicon
a_lexicon = λ values. let s = shorter values in (s.0, s.1)

within_other : (values others a b : List (List ℕ)) → All (Contains others) values → IsLexiconOf values a → IsLexiconOf others b → All (Contains b) a
within_other values others a b h g f = All-weaker (Contains values) (Contains b) (λ z c. All-contains (Contains b) others z f.all (All-contains (Contains others) values z h c)) a g.only

pub told_by_members : IsToldByMembers
told_by_members = λ values others a b h k g f.
    same_members a b g.ascending f.ascending (within_other values others a b h g f) (within_other others values b a k f g)

pub one_lexicon : HaveOneLexicon
one_lexicon = λ values a b g f. told_by_members values values a b (All-contains_itself values) (All-contains_itself values) g f

pub shortest : IsShortest
shortest = λ values others lexicon h g.
    let s = shorter others in
    let l = inside lexicon s.0 g.ascending s.1.ascending (within_other values others lexicon s.0 h g s.1) in
    let m = s.2 in
    omega arith

-- ---- few values

-- few values are few distinct ones
pub few_when_short : (values : List (List ℕ)) → length values < 2 ^ 32 → AreFew values
few_when_short values l = λ lexicon h. let m = shortest values values lexicon (All-contains_itself values) h in omega arith

-- an ascending list of some of few values is short
pub few_some : (all some : List (List ℕ)) → AreFew all → IsAscending some → All (Contains all) some → length some < 2 ^ 32
few_some all some few up h =
    let s = shorter all in
    let l = inside some s.0 up s.1.ascending (All-weaker (Contains all) (Contains s.0) (λ z c. All-contains (Contains s.0) all z s.1.all c) some h) in
    let m = few s.0 s.1 in
    omega arith

-- values among few values are few
pub few_part : (all part : List (List ℕ)) → AreFew all → All (Contains all) part → AreFew part
few_part all part few h = λ lexicon g.
    few_some all lexicon few g.ascending (All-weaker (Contains part) (Contains all) (λ z c. All-contains (Contains all) part z h c) lexicon g.only)
