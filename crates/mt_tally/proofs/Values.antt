-- Values of a segment are equal where their numbers are, and only there.
use Rattle.std.proofs.Common.{◌≡◌, ℕ, ◌<◌, ◌≤◌, ◌⊎◌, inl, inr, Bool, true, nat_eq, Decides, Some, slice_get, List, [], length, get_or, sym, ◌∙◌, ap, arith}
use Rattle.std.specs.Ordering.{nat_cmp}
use Rattle.std.specs.Cmp.Lexicographic.{slice_cmp, nat_list_cmp_total, pointwise, bytes_decides}
use Rattle.std.specs.declared.cmp.Ordering.TheVariants.{Equal}
use Rattle.std.proofs.lemmas.Bool.{cases_lt}
use Rattle.std.proofs.lemmas.Bool.Decides.{nat_tests}
use Rattle.std.proofs.lemmas.Option.{get_or_from_slice_get}
use Rattle.std.proofs.lemmas.Cmp.{tied_itself}
use Rattle.mt_store_spec.specs.Lexicons.{IsAscending, IsBelow}

never_below : (a b : List ℕ) → a ≡ b → IsBelow a b → ⊥
never_below a b same h = let e : slice_cmp nat_cmp a a ≡ Equal = tied_itself nat_list_cmp_total a in let again = ap (slice_cmp nat_cmp a) same ∙ h in cc

pub one_number : (lexicon : List (List ℕ)) (i j : ℕ) → IsAscending lexicon → i < length lexicon → j < length lexicon → get_or lexicon i [] ≡ get_or lexicon j [] → i ≡ j
one_number lexicon i j up here there same = by (cases_lt i j) (cases_lt j i)
  where
    by : (i < j) ⊎ (j ≤ i) → (j < i) ⊎ (i ≤ j) → i ≡ j
    by (inl l) other = absurd (never_below _ _ same (up i j [] l there))
    by (inr l) (inl m) = absurd (never_below _ _ (sym same) (up j i [] m here))
    by (inr l) (inr m) = omega arith

-- two values of a lexicon by their numbers
pub same_number : (lexicon : List (List ℕ)) (i j : ℕ) (value other : List ℕ) → IsAscending lexicon → i < length lexicon → j < length lexicon → value ≡ get_or lexicon i [] → other ≡ get_or lexicon j [] →
    Decides (nat_eq i j) (value ≡ other)
same_number lexicon i j value other up here there is so = (
  (λ e. is ∙ ap (λ (n : ℕ). get_or lexicon n []) (equal i j e) ∙ sym so),
  (λ e. itself i j (one_number lexicon i j up here there (sym is ∙ e ∙ so))),
)
  where
    equal : (m n : ℕ) → nat_eq m n ≡ true → m ≡ n
    equal m n e = grind (arith, nat_tests)

    itself : (m n : ℕ) → m ≡ n → nat_eq m n ≡ true
    itself m n e = grind (arith, nat_tests)

-- the value that a number stands for in a lexicon
pub told_by : (lexicon lent : List (List ℕ)) (number at : ℕ) (value : List ℕ) → lent ≡ lexicon → number ≡ at → slice_get lent number ≡ Some value → get_or lexicon at [] ≡ value
told_by lexicon lent number at value same is e = ap (λ (l : List (List ℕ)). get_or l at []) (sym same) ∙ ap (λ (n : ℕ). get_or lent n []) (sym is) ∙ get_or_from_slice_get lent number value [] e

-- two values by their bytes
pub same_bytes : (one other value what : List ℕ) (same : Bool) → same ≡ pointwise nat_eq one other → value ≡ one → what ≡ other → Decides same (value ≡ what)
same_bytes one other value what same is a b = (
  (λ e. a ∙ (bytes_decides one other).0 (sym is ∙ e) ∙ sym b),
  (λ e. is ∙ (bytes_decides one other).1 (sym a ∙ e ∙ b)),
)
