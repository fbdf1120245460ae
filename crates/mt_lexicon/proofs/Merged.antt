-- Parts that are joined in halves.
use Rattle.std.proofs.Common.{◌≡◌, ℕ, ◌<◌, List, [], ◌∷◌, ◌++◌, length, map, take, drop, sym, ◌∙◌, ap, ap₂, subst, arith, ◌⊎◌, inl, inr, length-append, append-nil}
use Rattle.std.specs.List.{All, AllZip, Contains}
use Rattle.std.proofs.lemmas.List.{map-append, take-append-drop, nil_from_length}
use Rattle.std.proofs.lemmas.List.Concat.{flat_map-append}
use Rattle.std.proofs.lemmas.List.Elements.{All-nil, All-cons, All-append, All-weaker, All-contains, All-contains_itself, Contains-append_left, Contains-append_right, Contains-append_cases}
use Rattle.mt_store_spec.specs.Lexicons.{IsLexiconOf, Renumbers, AreFew, all_values}
use Rattle.mt_lexicon.specs.Joins.{Joins, JoinsMerged, Merges, renumbered}
use Rattle.mt_lexicon.proofs.Lexicons.{few_part}
use Rattle.mt_lexicon.proofs.Renumbered.{numbers_within, renumbers_then}

-- ---- few parts

pub none_merged : (parts : List (List (List ℕ))) (values : List (List ℕ)) (all : List (List ℕ)) → parts ≡ [] → values ≡ [] → all ≡ [] → Merges parts values all
none_merged parts values all e f g =
    let done : Merges [] [] [] = record {
      lexicon = record { ascending = λ i j d b l. absurd (omega arith); all = All-nil (Contains []); only = All-nil (Contains []) };
      short = omega arith;
      each = tt;
    } in
    rw (e, f, g) done

pub one_merged : (parts : List (List (List ℕ))) (part empty values : List (List ℕ)) (numbers others : List ℕ) (all : List (List ℕ)) → parts ≡ part ∷ [] → empty ≡ [] → Joins part empty values numbers others → all ≡ numbers ∷ [] →
    Merges parts values all
one_merged parts part empty values numbers others all e none h g =
    let j : Joins part [] values numbers others = subst (λ (x : List (List ℕ)). Joins part x values numbers others) none h in
    let done : Merges (part ∷ []) values (numbers ∷ []) = record {
      lexicon = j.lexicon;
      short = omega (arith, j.short, length-append part []);
      each = (j.numbers, tt);
    } in
    rw (e, g) done

pub two_merged : (parts : List (List (List ℕ))) (part other values : List (List ℕ)) (numbers others : List ℕ) (all : List (List ℕ)) → parts ≡ part ∷ other ∷ [] → Joins part other values numbers others → all ≡ numbers ∷ others ∷ [] →
    Merges parts values all
two_merged parts part other values numbers others all e j g =
    let same : other ++ [] ≡ other = append-nil other in
    let done : Merges (part ∷ other ∷ []) values (numbers ∷ others ∷ []) = record {
      lexicon = subst (λ (x : List (List ℕ)). IsLexiconOf (part ++ x) values) (sym same) j.lexicon;
      short = omega (arith, j.short, length-append part (other ++ []), ap length same);
      each = (j.numbers, (j.others, tt));
    } in
    rw (e, g) done

-- ---- halves

abbrev Each : List (List (List ℕ)) → List (List ℕ) → List (List ℕ) → Type 0
Each parts values all = AllZip (λ part numbers. Renumbers numbers part values) parts all

pub all_within : (parts : List (List (List ℕ))) (values : List (List ℕ)) (all : List (List ℕ)) → Each parts values all → All (λ numbers. All (λ n. n < length values) numbers) all
all_within [] values [] h = All-nil (λ numbers. All (λ n. n < length values) numbers)
all_within [] values (numbers ∷ all) h = absurd h
all_within (part ∷ parts) values [] h = absurd h
all_within (part ∷ parts) values (numbers ∷ all) h =
    All-cons (λ numbers. All (λ n. n < length values) numbers) numbers all (numbers_within numbers part values h.0) (all_within parts values all h.1)

each_then : (parts : List (List (List ℕ))) (middle new : List (List ℕ)) (next : List ℕ) (all : List (List ℕ)) → Each parts middle all → Renumbers next middle new → Each parts new (map (renumbered next) all)
each_then [] middle new next [] h g = tt
each_then [] middle new next (numbers ∷ all) h g = absurd h
each_then (part ∷ parts) middle new next [] h g = absurd h
each_then (part ∷ parts) middle new next (numbers ∷ all) h g = (renumbers_then numbers next part middle new h.0 g, each_then parts middle new next all h.1 g)

each_append : (parts others : List (List (List ℕ))) (values : List (List ℕ)) (all rest : List (List ℕ)) → Each parts values all → Each others values rest → Each (parts ++ others) values (all ++ rest)
each_append [] others values [] rest h g = g
each_append [] others values (numbers ∷ all) rest h g = absurd h
each_append (part ∷ parts) others values [] rest h g = absurd h
each_append (part ∷ parts) others values (numbers ∷ all) rest h g = (h.0, each_append parts others values all rest h.1 g)

lexicon_of_both : (ones others first second values : List (List ℕ)) → IsLexiconOf ones first → IsLexiconOf others second → IsLexiconOf (first ++ second) values → IsLexiconOf (ones ++ others) values
lexicon_of_both ones others first second values h g j = record {
  ascending = j.ascending;
  all = All-append (Contains values) ones others
      (All-weaker (Contains first) (Contains values) (λ x c. All-contains (Contains values) (first ++ second) x j.all (Contains-append_left first second x c)) ones h.all)
      (All-weaker (Contains second) (Contains values) (λ x c. All-contains (Contains values) (first ++ second) x j.all (Contains-append_right first second x c)) others g.all);
  only = All-weaker (Contains (first ++ second)) (Contains (ones ++ others)) (λ x c. from x (Contains-append_cases first second x c)) values j.only;
}
  where
    from : (x : List ℕ) → Contains first x ⊎ Contains second x → Contains (ones ++ others) x
    from x (inl c) = Contains-append_left ones others x (All-contains (Contains ones) first x h.only c)
    from x (inr c) = Contains-append_right ones others x (All-contains (Contains others) second x g.only c)

pub halves_merged : (parts front back : List (List (List ℕ))) (first second values : List (List ℕ)) (firsts seconds all : List (List ℕ)) → parts ≡ front ++ back → Merges front first firsts → Merges back second seconds →
    JoinsMerged first second values firsts seconds all → Merges parts values all
halves_merged parts front back first second values firsts seconds all e h g j =
    let apart : all_values (front ++ back) ≡ all_values front ++ all_values back = flat_map-append (λ part. part) front back in
    let done : Merges (front ++ back) values (map (renumbered j.of_first) firsts ++ map (renumbered j.of_second) seconds) = record {
      lexicon = rw apart (lexicon_of_both (all_values front) (all_values back) first second values h.lexicon g.lexicon j.joined.lexicon);
      short = rw apart (omega (arith, length-append (all_values front) (all_values back), h.short, g.short, j.joined.short));
      each = each_append front back values (map (renumbered j.of_first) firsts) (map (renumbered j.of_second) seconds)
          (each_then front first values j.of_first firsts h.each j.joined.numbers) (each_then back second values j.of_second seconds g.each j.joined.others);
    } in
    rw (e, j.go_on) done

-- the parts in halves
pub in_halves : {X : Type 0} (f : X → List (List ℕ)) (n : ℕ) (parts front back : List X) → front ≡ take n parts → back ≡ drop n parts → map f parts ≡ map f front ++ map f back
in_halves f n parts front back e g = ap (map f) (sym (take-append-drop n parts) ∙ ap₂ ◌++◌ (sym e) (sym g)) ∙ map-append f front back

-- the values of each half are among those of the parts
both_halves : (parts front back : List (List (List ℕ))) → parts ≡ front ++ back → all_values front ++ all_values back ≡ all_values parts
both_halves parts front back e = sym (flat_map-append (λ part. part) front back) ∙ ap all_values (sym e)

front_values : (parts front back : List (List (List ℕ))) → parts ≡ front ++ back → (x : List ℕ) → Contains (all_values front) x → Contains (all_values parts) x
front_values parts front back e x c = subst (λ (all : List (List ℕ)). Contains all x) (both_halves parts front back e) (Contains-append_left (all_values front) (all_values back) x c)

back_values : (parts front back : List (List (List ℕ))) → parts ≡ front ++ back → (x : List ℕ) → Contains (all_values back) x → Contains (all_values parts) x
back_values parts front back e x c = subst (λ (all : List (List ℕ)). Contains all x) (both_halves parts front back e) (Contains-append_right (all_values front) (all_values back) x c)

pub front_few : (parts front back : List (List (List ℕ))) → parts ≡ front ++ back → AreFew (all_values parts) → AreFew (all_values front)
front_few parts front back e few =
    few_part (all_values parts) (all_values front) few
    (All-weaker (Contains (all_values front)) (Contains (all_values parts)) (front_values parts front back e) (all_values front) (All-contains_itself (all_values front)))

pub back_few : (parts front back : List (List (List ℕ))) → parts ≡ front ++ back → AreFew (all_values parts) → AreFew (all_values back)
back_few parts front back e few =
    few_part (all_values parts) (all_values back) few
    (All-weaker (Contains (all_values back)) (Contains (all_values parts)) (back_values parts front back e) (all_values back) (All-contains_itself (all_values back)))

-- and so are those of their lexicons
pub lexicons_few : (parts front back : List (List (List ℕ))) (first second : List (List ℕ)) → parts ≡ front ++ back → AreFew (all_values parts) → IsLexiconOf (all_values front) first → IsLexiconOf (all_values back) second →
    AreFew (first ++ second)
lexicons_few parts front back first second e few h g =
    few_part (all_values parts) (first ++ second) few
    (All-append (Contains (all_values parts)) first second
    (All-weaker (Contains (all_values front)) (Contains (all_values parts)) (front_values parts front back e) first h.only)
    (All-weaker (Contains (all_values back)) (Contains (all_values parts)) (back_values parts front back e) second g.only))

-- ---- what the code pushes and takes apart

pub one_pushed : {X : Type 0} (none one : List X) (a : X) → none ≡ [] → one ≡ none ++ a ∷ [] → one ≡ a ∷ []
one_pushed none one a e f = rw e at f

pub two_pushed : {X : Type 0} (none one two : List X) (a b : X) → none ≡ [] → one ≡ none ++ a ∷ [] → two ≡ one ++ b ∷ [] → two ≡ a ∷ b ∷ []
two_pushed none one two a b e f g = rw (one_pushed none one a e f) at g

pub two_shown : {X : Type 0} (f : X → List (List ℕ)) (parts others rest : List X) (a b : X) → parts ≡ a ∷ others → others ≡ b ∷ rest → length rest ≡ 0 → map f parts ≡ f a ∷ f b ∷ []
two_shown {X} f parts others rest a b e g h =
    let nil : rest ≡ [] = nil_from_length rest h in
    ap (map f) (e ∙ ap (λ (o : List X). a ∷ o) (g ∙ ap (λ (r : List X). b ∷ r) nil))
