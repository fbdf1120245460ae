use Rattle.std.proofs.Common.{ap, arith, length}
use Rattle.mt_mapper.proofs.Counts.{halfway}
use Rattle.mt_mapper.proofs.mapping.images.Goals as goal

pub returns-in_err-map-clause-halfway : goal.returns-in_err-map-clause-halfway
returns-in_err-map-clause-halfway g c =
    halfway c.from_residual-in_err-map.result _ _ c.loop-value.value-index _ _ c.loop-value.invariant.calls c.map.ensures.calls (omega (arith, ap length c.as_slice-value-items.ensures))

pub returns-in_err-push-clause-halfway : goal.returns-in_err-push-clause-halfway
returns-in_err-push-clause-halfway g c =
    halfway c.from_residual-in_err-push.result _ _ c.loop-value.value-index _ _ c.loop-value.invariant.calls c.map.ensures.calls (omega (arith, ap length c.as_slice-value-items.ensures))
