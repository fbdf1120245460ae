-- The rows in some texts are those of all texts that lie in one of them.
use Rattle.std.proofs.Common.{◌≡◌, ℕ, zero, suc, ◌<◌, ◌==◌, ◌||◌, Bool, true, false, List, [], ◌∷◌, length, get_or, refl, ap, arith}
use Rattle.std.specs.List.{Contains, filter}
use Rattle.std.proofs.lemmas.Bool.Decides.{nat_tests}
use Rattle.std.proofs.lemmas.List.Kept.{IsStrictlySortedBy-filter}
use Rattle.mt_text_spec.specs.Texts.{Row}
use Rattle.mt_text_spec.specs.Orders.{row_cmp}
use Rattle.mt_match_laws.specs.Laws.{HaveRows}
use Rattle.mt_eval_laws.specs.Laws.{RowsAreTold, HaveRowsIn}
use Rattle.mt_eval_laws.proofs.Members.{was_member, passes, is_member}

abbrev is_listed : List ℕ → ℕ → Bool
is_listed [] n = false
is_listed (text ∷ texts) n = (text == n) || is_listed texts n

same_number : (m n : ℕ) → (m == n) ≡ true → m ≡ n
same_number m n e = grind (arith, nat_tests)

itself : (m n : ℕ) → m ≡ n → (m == n) ≡ true
itself m n e = grind (arith, nat_tests)

listed_by : (text : ℕ) (texts : List ℕ) (n : ℕ) (b : Bool) → (text == n) ≡ b → (is_listed texts n ≡ true → Contains texts n) → (b || is_listed texts n) ≡ true → Contains (text ∷ texts) n
listed_by text texts n true is more h = (0, omega arith, same_number text n is)
listed_by text texts n false is more h = let (k, l, at) = more h in (suc k, omega (arith, l), at)

listed : (texts : List ℕ) (n : ℕ) → is_listed texts n ≡ true → Contains texts n
listed [] n e = let none : ⊥ = cc in absurd none
listed (text ∷ texts) n e = listed_by text texts n (text == n) refl (λ h. listed texts n h) e

is_in : (texts : List ℕ) (n k : ℕ) → k < length texts → get_or texts k n ≡ n → is_listed texts n ≡ true
is_in [] n k l e = absurd (omega (arith, l))
is_in (text ∷ texts) n zero l e = ap (λ b. b || is_listed texts n) (itself text n e)
is_in (text ∷ texts) n (suc k) l e = by (text == n) (is_in texts n k (omega (arith, l)) e)
  where
    by : (b : Bool) → is_listed texts n ≡ true → (b || is_listed texts n) ≡ true
    by true h = refl
    by false h = h

pub have_in : HaveRows → RowsAreTold → HaveRowsIn
have_in have told registry tables texts expr under valid =
    let by = under.by in
    let all = have under.images registry by.corpus expr in
    let same = told under.images registry by.corpus tables texts expr (record { registry_valid = by.valid; valid = by.texts; are = by.are }) valid in
    let here : Row → Bool = λ row. is_listed texts row.span.text in (
      filter here all.0,
      record {
        ascending = IsStrictlySortedBy-filter row_cmp here all.0 all.1.ascending;
        only = λ row h. same.back row (listed texts row.span.text (passes here all.0 row h), all.1.only row (was_member here all.0 row h));
        each = λ row h. let is = same.on row h in is_member here all.0 row (all.1.each row is.1) (is_in texts row.span.text is.0.0 is.0.1 is.0.2);
      },
    )
