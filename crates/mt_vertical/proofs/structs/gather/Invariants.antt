use Rattle.std.proofs.Common.{◌≡◌, ◌++◌, length}
use Rattle.std.specs.Vec.Iter.{into_iter_items}
use Rattle.mt_vertical.specs.Readers.{gathered}
use Rattle.mt_vertical.proofs.structs.gather.Given as goal

abbrev pub invariant-loop-instances : goal.invariant-loop-instances
invariant-loop-instances l = record {
  yielded : l.yielded ++ into_iter_items l.instances-iterator ≡ l.fn.kinds.items;
  count : l.kind ≡ length l.yielded;
  all : l.all.items ≡ gathered 0 l.place l.yielded;
}
