-- The best of all words of the lists so far are kept.
use Rattle.std.proofs.Common.{◌≡◌, ◌++◌}
use Rattle.std.specs.BinaryHeap.{heap_items, IsHeap}
use Rattle.std.specs.Vec.Iter.{into_iter_items}
use Rattle.mt_word_sketch_spec.specs.Order.{weighed_cmp}
use Rattle.mt_ranks.proofs.Merging.{AreBest}
use Rattle.mt_ranks.proofs.best.first_of_all.Given as goal

abbrev pub invariant-loop-list : goal.invariant-loop-list
invariant-loop-list l = record {
  seen : l.yielded ++ into_iter_items l.list-iterator ≡ l.fn.lists.items;
  heap : IsHeap weighed_cmp (heap_items l.kept);
  best : AreBest l.max l.yielded (heap_items l.kept);
}
