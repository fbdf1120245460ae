use Rattle.std.proofs.Common.{sym, ◌∙◌, ap}
use Rattle.std.specs.Prelude.{reverse}
use Rattle.mt_text_spec.specs.Queries as q
use Rattle.mt_cql.specs.Shape.{filters_shape}
use Rattle.mt_cql.specs.Read.{filter_seen}
use Rattle.mt_cql.proofs.Chains.{back_all, chained_back}
use Rattle.mt_cql.proofs.parts.chained.Goals as goal

pub loop-filter-init : goal.loop-filter-init
loop-filter-init c = ap (λ x. chained_back x q.NoMore) (c.of-filters.ensures ∙ ap reverse c.into_vec.ensures) ∙ back_all c.args.filters

pub loop-filter-preserved : goal.loop-filter-preserved
loop-filter-preserved c =
    ap (λ x. chained_back c.pop.new.self (q.More (filter_seen x).kind (filter_seen x).head (filter_seen x).filters (filters_shape c.in_ok-new-2.field-0.value))) c.in_ok-new.ensures.ok
    ∙ ap (λ y. chained_back c.pop.new.self (q.More (filter_seen c.in-Some.filter).kind (filter_seen c.in-Some.filter).head (filter_seen c.in-Some.filter).filters (filters_shape y))) c.in_ok-new-2.ensures.ok
    ∙ sym (ap (λ x. chained_back x (filters_shape c.loop-filter.chain)) c.in-Some.ensures) ∙ c.loop-filter.invariant
