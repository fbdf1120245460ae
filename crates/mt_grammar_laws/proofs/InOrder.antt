-- A query of a grammar is in order, and not much greater than a valid one.
use Rattle.std.proofs.Common.{◌≡◌, ℕ, ◌+◌, ◌<◌, ◌≤◌, false, Option, None, Some, length, arith, refl, sym, subst, nat_lt}
use Rattle.std.specs.Prelude.{◌||◌}
use Rattle.std.proofs.lemmas.Bool.Decides.{nat_tests}
use Rattle.mt_text_spec.specs.Registries.{Registry}
use Rattle.mt_text_spec.specs.Queries.{Any, Whole, Within, Filters, NoMore, More, Query, RelationKind}
use Rattle.mt_query_spec.specs.Measures.{filter_nodes, filter_size, nodes, size}
use Rattle.mt_query_spec.specs.Valid.{ValidExpr, ValidFilters, ValidConds, ValidQuery}
use Rattle.mt_grammar_spec.specs.ReadGrammar.{filter_behind, limited}
use Rattle.mt_grammar_spec.specs.ValidGrammar.{ValidLimit, IsGrammarQuery}

-- the filter of a limit
abbrev within : ℕ → Filters
within kind = More Within (Whole kind Any) NoMore NoMore

filters_valid : (registry : Registry) (kind : ℕ) (filters : Filters) → kind < length registry.kinds → ValidFilters registry filters → ValidFilters registry (filter_behind filters (within kind))
filters_valid registry kind NoMore low v = ((low, tt), (λ n. refl), tt, tt)
filters_valid registry kind (More by head filters others) low v = (v.0, v.1, v.2, filters_valid registry kind others low v.3)

nodes_more : (kind : ℕ) (filters : Filters) → filter_nodes (filter_behind filters (within kind)) ≡ filter_nodes filters + 3
nodes_more kind NoMore = refl
nodes_more kind (More by head filters others) = omega (arith, nodes_more kind others)

size_more : (kind : ℕ) (filters : Filters) → filter_size (filter_behind filters (within kind)) ≡ filter_size filters + 1
size_more kind NoMore = refl
size_more kind (More by head filters others) = omega (arith, size_more kind others)

pub record IsInOrder (registry : Registry) (query : Query) : Type 0 where
  pub head : ValidExpr registry query.head
  pub filters : ValidFilters registry query.filters
  pub conds : ValidConds registry query.head query.conds
  pub nodes : nodes query ≤ 259
  pub size : size query ≤ 4097

not_below : (a b n m : ℕ) → (nat_lt a n || nat_lt b m) ≡ false → (n ≤ a) × (m ≤ b)
not_below a b n m h = (grind (arith, nat_tests), grind (arith, nat_tests))

limited_in_order : (registry : Registry) (own : Query) (limit : Option ℕ) → ValidQuery registry own → ValidLimit registry limit → IsInOrder registry (limited limit own)
limited_in_order registry own None v l =
    let b = not_below 256 4096 (nodes own) (size own) v.small in
    record { head = v.head; filters = v.filters; conds = v.conds; nodes = omega (arith, b.0); size = omega (arith, b.1) }
limited_in_order registry own (Some kind) v l =
    let b = not_below 256 4096 (nodes own) (size own) v.small in
    let n = nodes_more kind own.filters in
    let s = size_more kind own.filters in
    record { head = v.head; filters = filters_valid registry kind own.filters l v.filters; conds = v.conds; nodes = omega (arith, b.0, n); size = omega (arith, b.1, s) }

pub in_order : (registry : Registry) (kind : RelationKind) (query : Query) → IsGrammarQuery registry kind query → IsInOrder registry query
in_order registry kind query q = subst (IsInOrder registry) (sym q.is) (limited_in_order registry q.own q.limit q.valid q.declared)
