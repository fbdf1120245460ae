use Rattle.mt_vertical.proofs.structs.gather.Goals as goal
use Rattle.mt_vertical.proofs.Filled.{moved, counted, gathered_more}

pub loop-instances-preserved : goal.loop-instances-preserved
loop-instances-preserved c = record {
  yielded = moved _ _ _ _ _ c.in-Some.ensures.steps.0 c.loop-instances.invariant.yielded;
  count = counted _ _ _ c.loop-instances.invariant.count;
  all = gathered_more _ _ _ _ _ _ _ c.in_ok-all.ensures c.in_ok-ended.ensures c.loop-instances.invariant.count c.loop-instances.invariant.all;
}
