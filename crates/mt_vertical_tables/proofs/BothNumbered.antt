-- Values by their numbers in a lexicon, and lexicons put together.
use Rattle.std.proofs.Common.{◌≡◌, ℕ, ◌+◌, ◌^◌, ◌<◌, ◌≤◌, List, [], ◌∷◌, ◌++◌, length, get_or, refl, sym, ◌∙◌, ap, ap₂, subst, arith, append-nil, length-append, ◌⊎◌, inl, inr}
use Rattle.std.specs.List.{All, AllZip, Contains}
use Rattle.std.specs.Option.{option_map}
use Rattle.std.proofs.lemmas.List.{ext_get_or, length-map, get_or-map, map-append}
use Rattle.std.proofs.lemmas.List.Elements.{All-append, All-contains, All-contains_itself, All-weaker, Contains-append_cases, Contains-append_left, Contains-append_right}
use Rattle.std.proofs.lemmas.Option.{get_or_from_slice_get, slice_get-get_or, slice_get-map}
use Rattle.mt_store_spec.specs.Lexicons.{AreFew, IsLexiconOf, IsShortest, Renumbers, all_values}
use Rattle.mt_lexicon.specs.Joins.{renumbered}
use Rattle.mt_lexicon.proofs.Joined.{all_renumbered}
use Rattle.mt_segment.proofs.Renumbered.{numbers_within, renumbers_then}
use Rattle.mt_segment.specs.Numbered.{stands_for}

-- numbers of a lexicon are those of the values for which they stand
pub stand : (lexicon : List (List ℕ)) (numbers : List ℕ) → All (λ n. n < length lexicon) numbers → Renumbers numbers (stands_for lexicon numbers) lexicon
stand lexicon numbers low = record {
  count = sym (length-map numbers (λ n. get_or lexicon n []));
  same = λ k l.
      let within : k < length numbers = omega (arith, length-map numbers (λ (n : ℕ). get_or lexicon n [])) in
      slice_get-get_or lexicon (get_or numbers k 0) [] (low k 0 within)
      ∙ sym (slice_get-map (λ (n : ℕ). get_or lexicon n []) numbers k ∙ ap (option_map (λ (n : ℕ). get_or lexicon n [])) (slice_get-get_or numbers k 0 within));
}

-- and they stand for these alone
pub stand_for : (lexicon values : List (List ℕ)) (numbers : List ℕ) → Renumbers numbers values lexicon → stands_for lexicon numbers ≡ values
stand_for lexicon values numbers h =
    let count : length (stands_for lexicon numbers) ≡ length values = length-map numbers (λ n. get_or lexicon n []) ∙ h.count in
    ext_get_or [] (stands_for lexicon numbers) values count (λ k l.
    let within : k < length values = omega (arith, count, l) in
    get_or-map (λ (n : ℕ). get_or lexicon n []) numbers k 0 [] (omega (arith, h.count, within))
    ∙ get_or_from_slice_get lexicon (get_or numbers k 0) (get_or values k []) [] (h.same k within ∙ slice_get-get_or values k [] within))

pub length_stands : (lexicon : List (List ℕ)) (numbers : List ℕ) → length (stands_for lexicon numbers) ≡ length numbers
length_stands lexicon numbers = length-map numbers (λ n. get_or lexicon n [])

-- ---- two lexicons

few_when_short : IsShortest → (values : List (List ℕ)) → length values < 2 ^ 32 → AreFew values
few_when_short shortest values l = λ lexicon h. let m = shortest values values lexicon (All-contains_itself values) h in omega arith

one_pushed : (none one : List (List (List ℕ))) (a : List (List ℕ)) → none ≡ [] → one ≡ none ++ a ∷ [] → one ≡ a ∷ []
one_pushed none one a e f = rw e at f

two_pushed : (none one two : List (List (List ℕ))) (a b : List (List ℕ)) → none ≡ [] → one ≡ none ++ a ∷ [] → two ≡ one ++ b ∷ [] → two ≡ a ∷ b ∷ []
two_pushed none one two a b e f g = rw (one_pushed none one a e f) at g

pub two_few : IsShortest → (none one two : List (List (List ℕ))) (a b : List (List ℕ)) → none ≡ [] → one ≡ none ++ a ∷ [] → two ≡ one ++ b ∷ [] → length a + length b < 2 ^ 32 → AreFew (all_values two)
two_few shortest none one two a b e f g l =
    let short : length (all_values (a ∷ b ∷ [])) < 2 ^ 32 = omega (arith, length-append a (b ++ []), length-append b [], l) in
    rw (two_pushed none one two a b e f g) (few_when_short shortest (all_values (a ∷ b ∷ [])) short)

-- a lexicon is no longer than its values
pub no_longer : IsShortest → (values lexicon : List (List ℕ)) → IsLexiconOf values lexicon → length lexicon ≤ length values
no_longer shortest values lexicon h = shortest values values lexicon (All-contains_itself values) h

-- what is so of both of two things
module _ {X Y : Type 0} (R : X → Y → Type 0) (a b : X) where
  pub two_long : (all : List Y) → AllZip R (a ∷ b ∷ []) all → length all ≡ 2
  two_long [] h = absurd h
  two_long (x ∷ []) h = absurd h.1
  two_long (x ∷ y ∷ []) h = refl
  two_long (x ∷ y ∷ z ∷ all) h = absurd h.1.1

  pub at_first : (all : List Y) (x : Y) → AllZip R (a ∷ b ∷ []) all → x ≡ get_or all 0 x → R a x
  at_first [] x h e = absurd h
  at_first (y ∷ all) x h e = subst (R a) (sym e) h.0

  pub at_second : (all : List Y) (x : Y) → AllZip R (a ∷ b ∷ []) all → x ≡ get_or all 1 x → R b x
  at_second [] x h e = absurd h
  at_second (y ∷ []) x h e = absurd h.1
  at_second (y ∷ z ∷ all) x h e = subst (R b) (sym e) h.1.0

-- values that have numbers in lexicons, which have numbers in a lexicon of both
module _ (first second lexicon : List (List ℕ)) (own more next others : List ℕ)
    (of_first : IsLexiconOf (stands_for first own) first) (of_second : IsLexiconOf (stands_for second more) second) (low : All (λ n. n < length first) own) (below : All (λ n. n < length second) more)
    (joined : IsLexiconOf (all_values (first ∷ second ∷ [])) lexicon) (goes : Renumbers next first lexicon) (go : Renumbers others second lexicon) where
  firsts : Renumbers (renumbered next own) (stands_for first own) lexicon
  firsts = renumbers_then own next (stands_for first own) first lexicon (stand first own low) goes

  seconds : Renumbers (renumbered others more) (stands_for second more) lexicon
  seconds = renumbers_then more others (stands_for second more) second lexicon (stand second more below) go

  pub both_stand : stands_for lexicon (renumbered next own ++ renumbered others more) ≡ stands_for first own ++ stands_for second more
  both_stand =
      map-append (λ n. get_or lexicon n []) (renumbered next own) (renumbered others more)
      ∙ ap₂ (λ (vs ws : List (List ℕ)). vs ++ ws) (stand_for lexicon (stands_for first own) (renumbered next own) firsts) (stand_for lexicon (stands_for second more) (renumbered others more) seconds)

  pub both_low : All (λ n. n < length lexicon) (renumbered next own ++ renumbered others more)
  both_low =
      All-append (λ (n : ℕ). n < length lexicon) (renumbered next own) (renumbered others more) (numbers_within (renumbered next own) (stands_for first own) lexicon firsts)
      (numbers_within (renumbered others more) (stands_for second more) lexicon seconds)

  from : (x : List ℕ) → Contains first x ⊎ Contains (second ++ []) x → Contains (stands_for first own ++ stands_for second more) x
  from x (inl c) = Contains-append_left (stands_for first own) (stands_for second more) x (All-contains (Contains (stands_for first own)) first x of_first.only c)
  from x (inr c) =
      Contains-append_right (stands_for first own) (stands_for second more) x
      (All-contains (Contains (stands_for second more)) second x of_second.only (subst (λ (vs : List (List ℕ)). Contains vs x) (append-nil second) c))

  lexicon_of_both : IsLexiconOf (stands_for first own ++ stands_for second more) lexicon
  lexicon_of_both = record {
    ascending = joined.ascending;
    all = All-append (Contains lexicon) (stands_for first own) (stands_for second more) (all_renumbered (stands_for first own) lexicon (renumbered next own) firsts)
        (all_renumbered (stands_for second more) lexicon (renumbered others more) seconds);
    only = All-weaker (Contains (first ++ (second ++ []))) (Contains (stands_for first own ++ stands_for second more)) (λ x c. from x (Contains-append_cases first (second ++ []) x c)) lexicon joined.only;
  }

  pub both_told : IsLexiconOf (stands_for lexicon (renumbered next own ++ renumbered others more)) lexicon
  both_told = subst (λ (vs : List (List ℕ)). IsLexiconOf vs lexicon) (sym both_stand) lexicon_of_both
