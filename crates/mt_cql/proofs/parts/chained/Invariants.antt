use Rattle.std.proofs.Common.{◌≡◌, length, map}
use Rattle.mt_query_spec.specs.Meaning as meaning
use Rattle.mt_cql.specs.Shape.{filters_shape}
use Rattle.mt_cql.specs.Read.{filter_seen}
use Rattle.mt_cql.proofs.Chains.{chained_back}
use Rattle.mt_cql.proofs.parts.chained.Given as goal

abbrev pub invariant-loop-filter : goal.invariant-loop-filter
invariant-loop-filter l = chained_back l.filters (filters_shape l.chain) ≡ meaning.chained (map filter_seen l.fn.filters)

abbrev pub decreases-loop-filter : goal.decreases-loop-filter
decreases-loop-filter l = length l.filters
