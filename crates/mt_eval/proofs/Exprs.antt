-- The head and the operands of a valid query are valid, and name what the segment has.
use Rattle.std.proofs.Common.{◌≡◌, ℕ, zero, suc, ◌<◌, List, [], ◌∷◌, length, get_or, refl, ap, subst, arith}
use Rattle.std.specs.List.{All, AllZip}
use Rattle.std.proofs.lemmas.List.Elements.{All-nil, All-cons, All-append}
use Rattle.mt_text_spec.specs.Registries.{Registry}
use Rattle.mt_text_spec.specs.Queries.{Expr, Filters, NoMore, More, Query}
use Rattle.mt_query_spec.specs.Valid.{ValidExpr, ValidFilters}
use Rattle.mt_segment_spec.specs.Tables.{Tables}
use Rattle.mt_eval_spec.specs.Told.{IsFor}
use Rattle.mt_eval_spec.specs.RowsIn.{expr_at, heads, operands}

valid_operands : (registry : Registry) (filters : Filters) → ValidFilters registry filters → All (ValidExpr registry) (operands filters)
valid_operands registry NoMore v = All-nil (ValidExpr registry)
valid_operands registry (More kind head filters others) v =
    All-cons (ValidExpr registry) head _ v.0 (All-append (ValidExpr registry) (operands filters) (operands others) (valid_operands registry filters v.2) (valid_operands registry others v.3))

pub valid_at : (tables : Tables) (query : Query) (is : IsFor tables query) (number : ℕ) (expr : Expr) → number < length (heads query) → expr_at (heads query) number ≡ expr → ValidExpr is.registry expr
valid_at tables query is number expr l e = subst (ValidExpr is.registry) e (All-cons (ValidExpr is.registry) query.head (operands query.filters) is.fits.head (valid_operands is.registry query.filters is.fits.filters) number _ l)

-- what stands at one place of two lists that go together
pub together : {X Y : Type 0} (R : X → Y → Type 0) (xs : List X) (ys : List Y) (i : ℕ) (d : X) (e : Y) → AllZip R xs ys → i < length xs → R (get_or xs i d) (get_or ys i e)
together R [] [] i d e all l = absurd (omega (arith, l))
together R [] (y ∷ ys) i d e all l = absurd all
together R (x ∷ xs) [] i d e all l = absurd all
together R (x ∷ xs) (y ∷ ys) zero d e all l = all.0
together R (x ∷ xs) (y ∷ ys) (suc i) d e all l = together R xs ys i d e all.1 (omega (arith, l))

pub same_count : {X Y : Type 0} (R : X → Y → Type 0) (xs : List X) (ys : List Y) → AllZip R xs ys → length ys ≡ length xs
same_count R [] [] all = refl
same_count R [] (y ∷ ys) all = absurd all
same_count R (x ∷ xs) [] all = absurd all
same_count R (x ∷ xs) (y ∷ ys) all = ap suc (same_count R xs ys all.1)
