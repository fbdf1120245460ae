use Rattle.std.proofs.Common.{arith}
use Rattle.std.proofs.lemmas.List.Elements.{all_zip_more}
use Rattle.mt_base.proofs.list.List.copy.Goals as goal

pub loop-item-preserved : goal.loop-item-preserved
loop-item-preserved g c =
    rw c.in_ok-push.ensures.items (all_zip_more g.T.Clone.is_clone c.deref-item-items.result.now c.loop-item.items.items c.loop-item.item-index c.item-item.result c.in_ok-clone.field-0 (omega arith) c.item-item.is c.loop-item.invariant c.in_ok-clone.ensures.cases)
