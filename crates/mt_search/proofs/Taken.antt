-- The steps of a search, one segment after another.
use Rattle.std.proofs.Common.{◌≡◌, ℕ, zero, suc, ◌+◌, ◌-◌, ◌<◌, ◌≤◌, List, [], ◌∷◌, ◌++◌, get_or, length, map, sum, take, refl, sym, ◌∙◌, ap, subst, arith}
use Rattle.std.specs.List.{AllZip, sum_by}
use Rattle.std.proofs.lemmas.List.{take_more}
use Rattle.std.proofs.lemmas.List.Sums.{sum-map, sum_by-append}
use Rattle.mt_text_spec.specs.Registries.{Registry}
use Rattle.mt_text_spec.specs.Queries.{Query}
use Rattle.mt_query_spec.specs.Contents.{token_tests}
use Rattle.mt_match_spec.specs.Values.{Images}
use Rattle.mt_segment_spec.specs.Tables.{Tables, AreTablesOf}
use Rattle.mt_eval_spec.specs.Literals.{AreFew, FindEach}
use Rattle.mt_corpus_spec.specs.Groups.{Group, all_texts}
use Rattle.mt_search.specs.Steps.{TakesIn, TakesInAll, TakesOf}

-- ---- in one segment

pub taken : (tables : Tables) (query : Query) (old found new : ℕ) → old ≤ found → found ≤ new → FindEach tables (token_tests query.head) (found - old) → AreFew tables query.head (new - found) → TakesIn query tables (new - old)
taken tables query old found new l m finds few = record { find = found - old; finds = finds; looks = new - found; few = few; sum_is = omega (arith, l, m) }

-- no step is few
pub only_found : (tables : Tables) (query : Query) (old found : ℕ) → old ≤ found → FindEach tables (token_tests query.head) (found - old) → TakesIn query tables (found - old)
only_found tables query old found l finds = record { find = found - old; finds = finds; looks = 0; few = λ test places there are. omega arith; sum_is = omega (arith, l) }

-- ---- in the segments so far

pub record Taken (query : Query) (segments : List Tables) (steps : ℕ) : Type 0 where
  pub each : List ℕ
  pub takes : AllZip (TakesIn query) segments each
  pub sum_is : steps ≡ sum each

pub none_taken : (query : Query) (segments : List Tables) (steps : ℕ) → steps ≡ 0 → Taken query (take 0 segments) steps
none_taken query segments steps e = record { each = []; takes = tt; sum_is = e }

same_list : (xs : List ℕ) → map (λ (n : ℕ). n) xs ≡ xs
same_list [] = refl
same_list (x ∷ xs) = ap (λ (ys : List ℕ). x ∷ ys) (same_list xs)

plain : (xs : List ℕ) → sum xs ≡ sum_by (λ (n : ℕ). n) xs
plain xs = ap sum (sym (same_list xs)) ∙ sum-map (λ (n : ℕ). n) xs

sum_both : (xs ys : List ℕ) → sum (xs ++ ys) ≡ sum xs + sum ys
sum_both xs ys = let a = plain (xs ++ ys) in let b = sum_by-append (λ (n : ℕ). n) xs ys in let d = plain xs in let e = plain ys in omega (arith, a, b, d, e)

one_pair : {X Y : Type 0} (R : X → Y → Type 0) (xs : List X) (ys : List Y) (x : X) (y : Y) → AllZip R xs ys → R x y → AllZip R (xs ++ x ∷ []) (ys ++ y ∷ [])
one_pair R [] [] x y all one = (one, tt)
one_pair R [] (b ∷ ys) x y all one = absurd all
one_pair R (a ∷ xs) [] x y all one = absurd all
one_pair R (a ∷ xs) (b ∷ ys) x y all one = (all.0, one_pair R xs ys x y all.1 one)

pub one_taken : (query : Query) (segments : List Tables) (i : ℕ) (tables : Tables) (before steps after : ℕ) → i < length segments → tables ≡ get_or segments i tables → Taken query (take i segments) before → TakesIn query tables steps →
    after ≡ before + steps → Taken query (take (i + 1) segments) after
one_taken query segments i tables before steps after l is was one e = record {
  each = was.each ++ steps ∷ [];
  takes = subst (λ (ts : List Tables). AllZip (TakesIn query) ts (was.each ++ steps ∷ []))
      (sym (take_more segments i tables l ∙ ap (λ (t : Tables). take i segments ++ t ∷ []) (sym is)))
      (one_pair (TakesIn query) (take i segments) was.each tables steps was.takes one);
  sum_is = let both = sum_both was.each (steps ∷ []) in let sum = was.sum_is in omega (arith, e, both, sum);
}

-- ---- in the corpus

of_groups : (images : Images) (registry : Registry) (query : Query) (k : ℕ) (groups : List Group) (segments : List Tables) (each : List ℕ) → AllZip (λ group tables. AreTablesOf images registry (all_texts group) tables) groups segments →
    AllZip (TakesIn query) (take k segments) each → AllZip (TakesOf images registry query) (take k groups) each
of_groups images registry query zero groups segments [] all takes = tt
of_groups images registry query zero groups segments (n ∷ each) all takes = absurd takes
of_groups images registry query (suc k) [] [] [] all takes = tt
of_groups images registry query (suc k) [] [] (n ∷ each) all takes = absurd takes
of_groups images registry query (suc k) [] (t ∷ segments) each all takes = absurd all
of_groups images registry query (suc k) (g ∷ groups) [] each all takes = absurd all
of_groups images registry query (suc k) (g ∷ groups) (t ∷ segments) [] all takes = absurd takes
of_groups images registry query (suc k) (g ∷ groups) (t ∷ segments) (n ∷ each) all takes = (record { tables = t; are = all.0; takes = takes.0 }, of_groups images registry query k groups segments each all.1 takes.1)

pub in_all : (images : Images) (registry : Registry) (query : Query) (k : ℕ) (groups : List Group) (segments : List Tables) (steps : ℕ) → AllZip (λ group tables. AreTablesOf images registry (all_texts group) tables) groups segments →
    Taken query (take k segments) steps → TakesInAll images registry query groups steps
in_all images registry query k groups segments steps all taken = record { upto = k; each = taken.each; takes = of_groups images registry query k groups segments taken.each all taken.takes; sum_is = taken.sum_is }

pub nowhere : (images : Images) (registry : Registry) (query : Query) (groups : List Group) (steps : ℕ) → steps ≡ 0 → TakesInAll images registry query groups steps
nowhere images registry query groups steps e = record { upto = 0; each = []; takes = tt; sum_is = e }
