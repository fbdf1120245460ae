use Rattle.std.proofs.Common.{arith}
use Rattle.mt_automaton.proofs.Gaps.{spread_more}
use Rattle.mt_automaton.proofs.reach.spread.Goals as goal

pub loop-done-preserved : goal.loop-done-preserved
loop-done-preserved c = record {
  within = omega (arith, c.stride-step.ensures.high, c.loop-done.invariant.within);
  spread = spread_more c.args.way c.loop-done.done c.stride-step.result c.args.set c.loop-done.set c.shift.new.set c.joined-set.result c.stride-step.ensures.low c.loop-done.invariant.spread
      (rw c.in_ok-more.ensures at c.shift.ensures) c.joined-set.ensures.width c.joined-set.ensures.places;
}
