-- The best of those seen are kept.
use Rattle.std.proofs.Common.{◌≡◌, ◌++◌, List}
use Rattle.std.specs.BinaryHeap.{heap_items, IsHeap}
use Rattle.std.specs.Vec.Iter.{into_iter_items}
use Rattle.mt_word_sketch_spec.specs.Order.{Weighed, weighed_cmp}
use Rattle.mt_ranks.specs.Bests.{IsBest}
use Rattle.mt_ranks.proofs.best.offer_all.Given as goal

abbrev pub invariant-loop-word : goal.invariant-loop-word
invariant-loop-word l = record {
  seen : l.yielded ++ into_iter_items l.word-iterator ≡ l.fn.words;
  heap : IsHeap weighed_cmp (heap_items l.kept);
  best : (seen : List Weighed) → IsBest l.max seen (heap_items l.initial.kept) → IsBest l.max (seen ++ l.yielded) (heap_items l.kept);
}
