-- When two queries are equal, as a test: the trees that stand for them are.
use Rattle.std.specs.Prelude.{◌≡◌, refl, Bool, true, false, nat_eq, ◌&&◌}
use Rattle.std.specs.Bool.{Decides}
use Rattle.std.specs.Cmp.{IsEquivalence, decided, unsigned_Decides}
use mathlib.Core.Path.{ap, sym}
use mathlib.Core.Bool.{true≢false}
use base.Stored.{Gv, gnil, gnum, gcons, num}
use Rattle.mt_text_spec.specs.Queries as q
use Rattle.mt_cql.specs.Codes.{first, second, query_tree, query_code}

-- whether two trees are equal
abbrev pub same_trees : Gv → Gv → Bool
same_trees gnil gnil = true
same_trees (gnum m) (gnum n) = nat_eq m n
same_trees (gcons a b) (gcons c d) = same_trees a c && same_trees b d
same_trees _ _ = false

abbrev is_nil : Gv → Bool
is_nil gnil = true
is_nil _ = false

abbrev is_num : Gv → Bool
is_num (gnum n) = true
is_num _ = false

both_so : (s t : Bool) → (s && t) ≡ true → (s ≡ true) × (t ≡ true)
both_so true t h = (refl, h)
both_so false t h = absurd (true≢false (sym h))

so_both : (s t : Bool) → s ≡ true → t ≡ true → (s && t) ≡ true
so_both s t g h = λ i. g i && h i

trees_decide : (a b : Gv) → Decides (same_trees a b) (a ≡ b)
trees_decide gnil gnil = (λ e. refl, λ e. refl)
trees_decide gnil (gnum n) = (λ e. absurd (true≢false (sym e)), λ e. absurd (true≢false (ap is_nil e)))
trees_decide gnil (gcons c d) = (λ e. absurd (true≢false (sym e)), λ e. absurd (true≢false (ap is_nil e)))
trees_decide (gnum m) gnil = (λ e. absurd (true≢false (sym e)), λ e. absurd (true≢false (ap is_num e)))
trees_decide (gnum m) (gnum n) = (λ e. ap gnum ((unsigned_Decides m n).0 e), λ e. (unsigned_Decides m n).1 (ap num e))
trees_decide (gnum m) (gcons c d) = (λ e. absurd (true≢false (sym e)), λ e. absurd (true≢false (ap is_num e)))
trees_decide (gcons a b) gnil = (λ e. absurd (true≢false (sym e)), λ e. absurd (true≢false (sym (ap is_nil e))))
trees_decide (gcons a b) (gnum n) = (λ e. absurd (true≢false (sym e)), λ e. absurd (true≢false (sym (ap is_num e))))
trees_decide (gcons a b) (gcons c d) = (
  λ e. let p = both_so (same_trees a c) (same_trees b d) e in λ i. gcons ((trees_decide a c).0 p.0 i) ((trees_decide b d).0 p.1 i),
  λ e. so_both (same_trees a c) (same_trees b d) ((trees_decide a c).1 (ap first e)) ((trees_decide b d).1 (ap second e)),
)

-- whether two queries are equal
abbrev pub same_query : q.Query → q.Query → Bool
same_query a b = same_trees (query_tree a) (query_tree b)

-- the test holds of equal queries and of no others
pub same_query-decides : (a b : q.Query) → Decides (same_query a b) (a ≡ b)
same_query-decides a b = (
  λ e. query_code.inj a b ((trees_decide (query_tree a) (query_tree b)).0 e),
  λ e. (trees_decide (query_tree a) (query_tree b)).1 (ap query_tree e),
)

pub same_query-equiv : IsEquivalence same_query
same_query-equiv = decided same_query same_query-decides
