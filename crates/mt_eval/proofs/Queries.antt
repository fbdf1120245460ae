-- What is known of a query that is for a segment, and of the rows that it keeps there.
use Rattle.std.proofs.Common.{◌≡◌, ℕ, ◌+◌, ◌<◌, List, [], ◌∷◌, length, get_or, sym, ap, subst, arith}
use Rattle.std.specs.List.{All, Contains}
use Rattle.std.specs.List.Sorted.{IsStrictlySortedBy}
use Rattle.std.proofs.lemmas.List.{get_or_default}
use Rattle.std.proofs.lemmas.List.Elements.{All-nil, All-cons, All-contains}
use Rattle.mt_text_spec.specs.Registries.{Registry}
use Rattle.mt_text_spec.specs.Texts.{Row}
use Rattle.mt_text_spec.specs.Queries.{Expr, Cond, Query}
use Rattle.mt_text_spec.specs.Orders.{row_cmp}
use Rattle.mt_query_spec.specs.Valid.{ValidConds}
use Rattle.mt_match_spec.specs.Rows.{ListsAll}
use Rattle.mt_segment_spec.specs.Tables.{Tables}
use Rattle.mt_eval_spec.specs.Told.{IsFor}
use Rattle.mt_eval_spec.specs.RowsIn.{IsRowIn, KeptIn, MeetsIn, PassesAllIn, RowsIn, expr_at, heads, operands}
use Rattle.mt_eval_laws.specs.Laws.{LabelsAreInside}
use Rattle.mt_tally.specs.Conds.{AreFor}
use Rattle.mt_tally.specs.Conds as conds
use Rattle.mt_eval.specs.Conds.{StandsIn}
use Rattle.mt_eval.specs.Runs.{AreTexts, StandAt}
use Rattle.mt_eval.proofs.Rooms.{stand_back}

-- ---- all expressions

pub all_stand : (query : Query) → StandAt (heads query) (query.head ∷ operands query.filters) 0
all_stand query = record { within = omega arith; each = λ i l. ap (expr_at (heads query)) (let none : 0 + i ≡ i = omega arith in none) }

pub operands_stand : (query : Query) → StandAt (heads query) (operands query.filters) 1
operands_stand query = stand_back (heads query) (query.head ∷ []) (operands query.filters) 0 (all_stand query)

-- ---- conditions

each_for : (tables : Tables) (registry : Registry) (head : Expr) (all : List Cond) → length tables.attrs ≡ length registry.attrs → ValidConds registry head all → All (conds.IsFor tables) all
each_for tables registry head [] count v = All-nil (conds.IsFor tables)
each_for tables registry head (c ∷ all) count v =
    All-cons (conds.IsFor tables) c all (record { left = let l = v.0.left_attr in omega (arith, count, l); right = let r = v.0.right_attr in omega (arith, count, r) }) (each_for tables registry head all count v.1)

pub conds_for : (tables : Tables) (query : Query) → IsFor tables query → AreFor tables query.conds
conds_for tables query is = each_for tables is.registry query.head query.conds is.under.by.are.attr_count is.fits.conds

-- ---- rows

pub rows_stand : LabelsAreInside → (tables : Tables) (texts : List ℕ) (head : Expr) (rows : List Row) (P : Row → Type 0) → AreTexts tables texts → ((row : Row) → P row → IsRowIn tables texts head row) → ListsAll row_cmp P rows → All (StandsIn tables) rows
rows_stand inside tables texts head rows P are is lists = λ k d l.
    let row = get_or rows k d in
    let here : IsRowIn tables texts head row = is row (lists.only row (k, l, same_default rows k d row l)) in
    record { text = All-contains (λ text. text < length tables.texts) texts row.span.text are.within here.listed; labels = λ label place set. inside tables texts head row label place here set }
  where
    same_default : (rows : List Row) (k : ℕ) (d e : Row) → k < length rows → get_or rows k e ≡ get_or rows k d
    same_default rows k d e l = get_or_default rows k e d l

-- the head's rows that all filters let pass and that meet all conditions are those that the query keeps
pub kept_are : (tables : Tables) (texts : List ℕ) (query : Query) (found passed left : List Row) → RowsIn tables texts query.head found →
    ListsAll row_cmp (λ row. Contains found row × PassesAllIn tables texts query.filters row.span) passed → ListsAll row_cmp (λ row. Contains passed row × All (MeetsIn tables row) query.conds) left → KeptIn tables texts query left
kept_are tables texts query found passed left are pass meet = record {
  ascending = meet.ascending;
  only = λ row c. let m = meet.only row c in let p = pass.only row m.0 in record { is_row = are.only row p.0; passes = p.1; meets = m.1 };
  each = λ row k. meet.each row (pass.each row (are.each row k.is_row, k.passes), k.meets);
}

-- no condition leaves all rows
pub all_meet : (tables : Tables) (rows : List Row) (all : List Cond) → all ≡ [] → IsStrictlySortedBy row_cmp rows → ListsAll row_cmp (λ row. Contains rows row × All (MeetsIn tables row) all) rows
all_meet tables rows all none up = record { ascending = up; only = λ row c. (c, subst (All (MeetsIn tables row)) (sym none) (All-nil (MeetsIn tables row))); each = λ row h. h.0 }
