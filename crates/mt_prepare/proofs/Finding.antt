-- What it takes to find the values of `==` tests.
use Rattle.std.proofs.Common.{◌≡◌, ℕ, ◌+◌, ◌-◌, ◌*◌, ◌^◌, ◌≤◌, List, [], ◌∷◌, ◌++◌, length, map, sum, refl, sym, ◌∙◌, ap, subst, arith}
use Rattle.std.specs.List.{AllZip, sum_by}
use Rattle.std.proofs.lemmas.List.Sums.{sum-map, sum_by-append}
use Rattle.mt_text_spec.specs.Queries as q
use Rattle.mt_segment_spec.specs.Tables.{Tables, tables_at}
use Rattle.mt_eval_spec.specs.Literals.{FindEach, MayTake}

-- no step is enough
none_takes : (tables : Tables) (test : q.Test) → MayTake tables test 0
none_takes tables q.Any = tt
none_takes tables (q.Pattern attr text negated) = tt
none_takes tables (q.Literal attr text negated) = omega arith
none_takes tables (q.Not inner) = tt
none_takes tables (q.Both left right) = tt
none_takes tables (q.Either left right) = tt

pub none_found : (tables : Tables) (tests : List q.Test) → FindEach tables tests 0
none_found tables [] = record { each = []; may = tt; sum_is = refl }
none_found tables (test ∷ tests) = let rest = none_found tables tests in record { each = 0 ∷ rest.each; may = (none_takes tables test, rest.may); sum_is = let s = rest.sum_is in omega (arith, s) }

pub one_found : (tables : Tables) (attr : ℕ) (text : List ℕ) (negated : _) (steps : ℕ) → 2 ^ steps ≤ 2 * length (tables_at tables.attrs attr).lexicon + 1 → FindEach tables (q.Literal attr text negated ∷ []) steps
one_found tables attr text negated steps h = record { each = steps ∷ []; may = (h, tt); sum_is = omega arith }

zipped : (tables : Tables) (a b : List q.Test) (s t : List ℕ) → AllZip (MayTake tables) a s → AllZip (MayTake tables) b t → AllZip (MayTake tables) (a ++ b) (s ++ t)
zipped tables [] b [] t x y = y
zipped tables [] b (n ∷ s) t x y = absurd x
zipped tables (test ∷ a) b [] t x y = absurd x
zipped tables (test ∷ a) b (n ∷ s) t x y = (x.0, zipped tables a b s t x.1 y)

same_list : (xs : List ℕ) → map (λ (n : ℕ). n) xs ≡ xs
same_list [] = refl
same_list (x ∷ xs) = ap (λ (l : List ℕ). x ∷ l) (same_list xs)

plain : (xs : List ℕ) → sum xs ≡ sum_by (λ (n : ℕ). n) xs
plain xs = ap sum (sym (same_list xs)) ∙ sum-map (λ (n : ℕ). n) xs

sum_both : (xs ys : List ℕ) → sum (xs ++ ys) ≡ sum xs + sum ys
sum_both xs ys = let a = plain (xs ++ ys) in let b = sum_by-append (λ (n : ℕ). n) xs ys in let d = plain xs in let e = plain ys in omega (arith, a, b, d, e)

both_found : (tables : Tables) (a b : List q.Test) (m n : ℕ) → FindEach tables a m → FindEach tables b n → FindEach tables (a ++ b) (m + n)
both_found tables a b m n x y = record {
  each = x.each ++ y.each;
  may = zipped tables a b x.each y.each x.may y.may;
  sum_is = let e = x.sum_is in let f = y.sum_is in let s = sum_both x.each y.each in omega (arith, e, f, s);
}

-- the tests of one part and then of another
pub found_then : (tables : Tables) (a b : List q.Test) (old middle new : ℕ) → old ≤ middle → middle ≤ new → FindEach tables a (middle - old) → FindEach tables b (new - middle) → FindEach tables (a ++ b) (new - old)
found_then tables a b old middle new l h x y = subst (FindEach tables (a ++ b)) (let e : (middle - old) + (new - middle) ≡ new - old = omega arith in e) (both_found tables a b (middle - old) (new - middle) x y)

-- or of the first alone
pub found_first : (tables : Tables) (a b : List q.Test) (steps : ℕ) → FindEach tables a steps → FindEach tables (a ++ b) steps
found_first tables a b steps x = subst (FindEach tables (a ++ b)) (let e : steps + 0 ≡ steps = omega arith in e) (both_found tables a b steps 0 x (none_found tables b))

-- nothing was found
pub found_none : (tables : Tables) (tests : List q.Test) (old new : ℕ) → new ≡ old → FindEach tables tests (new - old)
found_none tables tests old new e = subst (FindEach tables tests) (let z : 0 ≡ new - old = omega (arith, e) in z) (none_found tables tests)
