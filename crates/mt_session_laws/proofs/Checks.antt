-- Laws of checks, whatever they are.
use Rattle.std.proofs.Common.{◌≡◌, ◌⊎◌, inl, inr, List, [], ◌∷◌, ◌++◌, sym, ◌∙◌}
use Rattle.mt_session_spec.specs.Refusals.{Refusal}
use Rattle.mt_session_spec.specs.Checks.{Check, When, Passes, FirstStands, NoneStands, IsSingle, AreSingle}
use Rattle.mt_session_laws.proofs.Never.{either}

-- ## One check

pub no_cause : {cause : Type 0} {refusal : Refusal} → (cause → ⊥) → Passes (When cause refusal)
no_cause none given w = none w.there

pub single_when : {cause : Type 0} (refusal : Refusal) → IsSingle (When cause refusal)
single_when refusal a b v w = v.is ∙ sym w.is

-- ## Lists of checks

pub first_or_none : (checks : List Check) → (((refusal : Refusal) × FirstStands checks refusal) ⊎ NoneStands checks → ⊥) → ⊥
first_or_none [] k = k (inr tt)
first_or_none (check ∷ later) k = either ((refusal : Refusal) × check refusal) (λ d. elim d [
  | inl stands ↦ k (inl (stands.0, inl stands.1))
  | inr none ↦ first_or_none later (λ e. elim e [
    | inl found ↦ k (inl (found.0, inr ((λ refusal c. none (refusal, c)), found.1)))
    | inr pass ↦ k (inr ((λ refusal c. none (refusal, c)), pass))
  ])
])

pub one_first : (checks : List Check) → AreSingle checks → (a b : Refusal) → FirstStands checks a → FirstStands checks b → a ≡ b
one_first [] single a b f g = absurd f
one_first (check ∷ later) single a b (inl s) (inl t) = single.0 a b s t
one_first (check ∷ later) single a b (inl s) (inr g) = absurd (g.0 a s)
one_first (check ∷ later) single a b (inr f) (inl t) = absurd (f.0 b t)
one_first (check ∷ later) single a b (inr f) (inr g) = one_first later single.1 a b f.1 g.1

pub not_both : (checks : List Check) (a : Refusal) → FirstStands checks a → NoneStands checks → ⊥
not_both [] a f none = f
not_both (check ∷ later) a (inl s) none = none.0 a s
not_both (check ∷ later) a (inr f) none = not_both later a f.1 none.1

-- a front that several commands share
pub single_append : (front own : List Check) → AreSingle front → AreSingle own → AreSingle (front ++ own)
single_append [] own f s = s
single_append (check ∷ later) own f s = (f.0, single_append later own f.1 s)
