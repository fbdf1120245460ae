use Rattle.std.proofs.Common.{◌≡◌, ◌+◌, ◌-◌, Some, slice_get, ap, ◌∙◌, arith}
use Rattle.mt_rows.proofs.Sweeps.{back_step, all_early}
use Rattle.mt_rows.proofs.filters.retreat.Goals as goal

pub loop-span-preserved : goal.loop-span-preserved
loop-span-preserved c =
    let operand = c.args.operand.now in
    let left = c.loop-span.back.left in
    let best = c.loop-span.back.best in
    let f = c.loop-span.invariant in
    let next = c.in-Some.ensures.some in
    let same : left - 1 ≡ next.0 = omega (arith, next.1) in
    let here : slice_get operand (left - 1) ≡ Some c.in-Some.span = ap (slice_get operand) same ∙ next.2 in
    let one : left ≡ left - 1 + 1 = omega (arith, next.1) in
    back_step operand left (left - 1) best c.nearer.new.best c.in-Some.span c.args.to f one here next.3 (c.nearer.ensures operand (left - 1) c.requires.operand here (rw (← one) f.nearest))

pub returns-clause-rest : goal.returns-clause-rest
returns-clause-rest c = all_early c.args.operand.now c.loop-span.back.left c.args.to c.requires.operand c.loop-span.invariant.within c.in_default.ensures.none
