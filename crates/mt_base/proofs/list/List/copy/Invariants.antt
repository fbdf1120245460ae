-- The copies so far are of the items so far.
use Rattle.std.proofs.Common.{take}
use Rattle.std.specs.List.{AllZip}
use Rattle.mt_base.proofs.list.List.copy.Given as goal

abbrev pub invariant-loop-item : goal.invariant-loop-item
invariant-loop-item g l = AllZip g.T.Clone.is_clone (take l.item-index l.item-items) l.items.items
