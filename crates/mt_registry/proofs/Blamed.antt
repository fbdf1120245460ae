-- The first statement that has a cause.
use Rattle.std.proofs.Common.{ℕ, ◌≡◌, ◌+◌, ◌<◌, ◌⊎◌, inl, inr, List, [], ◌∷◌, ◌++◌, length, take, drop, get_or, sym, ◌∙◌, ap, subst, arith, None, Some}
use Rattle.std.specs.Prelude.{slice_index_or}
use Rattle.std.proofs.lemmas.Grind.{common_steps}
use Rattle.std.proofs.lemmas.List.{take_more}
use Rattle.mt_file_spec.specs.RegistryFile.{Statement, RegistryCause, IsCause}
use Rattle.mt_registry.specs.Misstated.{AreUnblamed, FirstBlamed, Blamed, IsFirstCause}
use Rattle.mt_registry.proofs.Splits.{no_split, snoc_split}

pub none_blamed : (mappers : List (List ℕ)) (all : List Statement) (unclosed : ℕ) → AreUnblamed mappers all unclosed []
none_blamed mappers all unclosed earlier statement later cause e has = no_split earlier statement later e

by_split : (mappers : List (List ℕ)) (all : List Statement) (unclosed : ℕ) (front : List Statement) (last : Statement) (earlier : List Statement) (statement : Statement) (cause : RegistryCause) →
    AreUnblamed mappers all unclosed front → IsFirstCause mappers all unclosed front last None →
    ((earlier ≡ front) × (statement ≡ last)) ⊎ ((l : List Statement) × (front ≡ earlier ++ statement ∷ l)) → IsCause mappers all unclosed earlier statement cause → ⊥
by_split mappers all unclosed front last earlier statement cause before here (inl w) has =
    here cause (subst (λ (e : List Statement). IsCause mappers all unclosed e last cause) w.0 (subst (λ (s : Statement). IsCause mappers all unclosed earlier s cause) w.1 has))
by_split mappers all unclosed front last earlier statement cause before here (inr w) has = before earlier statement w.0 cause w.1 has

pub one_more_unblamed : (mappers : List (List ℕ)) (all : List Statement) (unclosed : ℕ) (front : List Statement) (last : Statement) (more : List Statement) →
    AreUnblamed mappers all unclosed front → IsFirstCause mappers all unclosed front last None → more ≡ front ++ last ∷ [] → AreUnblamed mappers all unclosed more
one_more_unblamed mappers all unclosed front last more before here e earlier statement later cause split has =
    by_split mappers all unclosed front last earlier statement cause before here (snoc_split front last earlier statement later (sym e ∙ split)) has

pub take_one_more : (all : List Statement) (i : ℕ) (s : Statement) → i < length all → s ≡ slice_index_or all i s → take (i + 1) all ≡ take i all ++ s ∷ []
take_one_more all i s l e = take_more all i s l ∙ ap (λ t. take i all ++ t ∷ []) (sym e)

cut_at : (all : List Statement) (i : ℕ) (s : Statement) → i < length all → all ≡ take i all ++ get_or all i s ∷ drop (i + 1) all
cut_at all i s l = grind (arith, common_steps)

pub first_blamed_at : (mappers : List (List ℕ)) (all : List Statement) (unclosed i : ℕ) (s : Statement) (blamed : Blamed) → i < length all → s ≡ slice_index_or all i s → AreUnblamed mappers all unclosed (take i all) →
    s.line ≡ blamed.line → IsFirstCause mappers all unclosed (take i all) s (Some blamed.cause) → FirstBlamed mappers all unclosed blamed
first_blamed_at mappers all unclosed i s blamed l e before line here = record {
  earlier = take i all;
  statement = s;
  later = drop (i + 1) all;
  are = cut_at all i s l ∙ ap (λ t. take i all ++ t ∷ drop (i + 1) all) (sym e);
  before = before;
  line = line;
  here = here;
}
