use Rattle.mt_vertical.proofs.structs.Structs.new.Goals as goal
use Rattle.mt_vertical.proofs.Filled.{copy_push}

pub loop-preserved : goal.loop-preserved
loop-preserved c = copy_push _ _ _ _ _ c.in_ok-push.ensures.items c.loop.invariant c.new.ensures
