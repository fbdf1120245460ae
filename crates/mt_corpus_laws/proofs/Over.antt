-- A query has too many rows where its head or some operand has.
use Rattle.std.proofs.Common.{ℕ, zero, suc, ◌<◌, ◌⊎◌, inl, inr, List, [], ◌∷◌, ◌++◌, length, arith}
use Rattle.mt_text_spec.specs.Registries.{Registry}
use Rattle.mt_text_spec.specs.Texts.{Text}
use Rattle.mt_text_spec.specs.Queries.{Expr, Filters, NoMore, More}
use Rattle.mt_match_spec.specs.Values.{Images}
use Rattle.mt_match_spec.specs.Kept.{HasTooMany, OverAny}
use Rattle.mt_eval_spec.specs.RowsIn.{operands, expr_at}
use Rattle.mt_corpus_laws.specs.Joined.{SomeHasTooMany, OverIsSome}

module _ (images : Images) (registry : Registry) (corpus : List Text) where
  abbrev Some : List Expr → Type 0
  Some = SomeHasTooMany images registry corpus

  abbrev Has : Expr → Type 0
  Has = HasTooMany images registry corpus

  none : Some [] → ⊥
  none s = let l = s.within in omega (arith, l)

  here : (expr : Expr) (exprs : List Expr) → Has expr → Some (expr ∷ exprs)
  here expr exprs h = record { number = 0; within = omega arith; has = h }

  behind : (expr : Expr) (exprs : List Expr) → Some exprs → Some (expr ∷ exprs)
  behind expr exprs s = let l = s.within in record { number = suc s.number; within = omega (arith, l); has = s.has }

  either : (expr : Expr) (exprs : List Expr) → Some (expr ∷ exprs) → Has expr ⊎ Some exprs
  either expr exprs s = by s.number s.within s.has
    where
      by : (number : ℕ) → number < suc (length exprs) → Has (expr_at (expr ∷ exprs) number) → Has expr ⊎ Some exprs
      by zero l h = inl h
      by (suc number) l h = inr (record { number = number; within = omega (arith, l); has = h })

  in_front : (exprs others : List Expr) → Some exprs → Some (exprs ++ others)
  in_front [] others s = absurd (none s)
  in_front (expr ∷ exprs) others s = elim (either expr exprs s) [ inl h ↦ here expr (exprs ++ others) h | inr more ↦ behind expr (exprs ++ others) (in_front exprs others more) ]

  in_back : (exprs others : List Expr) → Some others → Some (exprs ++ others)
  in_back [] others s = s
  in_back (expr ∷ exprs) others s = behind expr (exprs ++ others) (in_back exprs others s)

  of_both : (exprs others : List Expr) → Some (exprs ++ others) → Some exprs ⊎ Some others
  of_both [] others s = inr s
  of_both (expr ∷ exprs) others s = elim (either expr (exprs ++ others) s) [
    | inl h ↦ inl (here expr exprs h)
    | inr more ↦ elim (of_both exprs others more) [ inl m ↦ inl (behind expr exprs m) | inr m ↦ inr m ]
  ]

  some_operand : (filters : Filters) → OverAny images registry corpus filters → Some (operands filters)
  some_operand NoMore o = absurd o
  some_operand (More kind head filters others) o = by o (λ h. some_operand filters h) (λ h. some_operand others h)
    where
      by : OverAny images registry corpus (More kind head filters others) → (OverAny images registry corpus filters → Some (operands filters)) → (OverAny images registry corpus others → Some (operands others)) →
          Some (head ∷ (operands filters ++ operands others))
      by (inl h) own rest = here head (operands filters ++ operands others) h
      by (inr (inl h)) own rest = behind head (operands filters ++ operands others) (in_front (operands filters) (operands others) (own h))
      by (inr (inr h)) own rest = behind head (operands filters ++ operands others) (in_back (operands filters) (operands others) (rest h))

  operand_over : (filters : Filters) → Some (operands filters) → OverAny images registry corpus filters
  operand_over NoMore s = absurd (none s)
  operand_over (More kind head filters others) s = elim (either head (operands filters ++ operands others) s) [
    | inl h ↦ inl h
    | inr more ↦ elim (of_both (operands filters) (operands others) more) [ inl m ↦ inr (inl (operand_over filters m)) | inr m ↦ inr (inr (operand_over others m)) ]
  ]

pub over_some : OverIsSome
over_some images registry corpus query = record {
  on = λ over. elim over [
    | inl h ↦ here images registry corpus query.head (operands query.filters) h
    | inr h ↦ behind images registry corpus query.head (operands query.filters) (some_operand images registry corpus query.filters h)
  ];
  back = λ s. elim (either images registry corpus query.head (operands query.filters) s) [ inl h ↦ inl h | inr more ↦ inr (operand_over images registry corpus query.filters more) ];
}
