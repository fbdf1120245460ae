use Rattle.std.proofs.Common.{List, arith, sym, subst}
use Rattle.std.specs.BinaryHeap.{heap_items}
use Rattle.std.specs.List.{Contains}
use Rattle.std.specs.Vec.Iter.{into_iter_items}
use Rattle.mt_word_sketch_spec.specs.Ranks.{FirstRanked}
use Rattle.mt_word_sketch_spec.specs.Order.{Weighed, ranked_of}
use Rattle.mt_ranks.proofs.Tops.{top_of_best, all_seen}
use Rattle.mt_ranks.proofs.best.first.Goals as goal

pub returns : goal.returns
returns c =
    let i = c.loop-word.invariant in
    let kept = heap_items c.loop-word.kept in
    let best = all_seen c.args.max c.loop-word.yielded (into_iter_items c.loop-word.word-iterator) c.args.words kept i.seen (omega (arith, c.loop-word.word-iterator.rest.ok, c.in-None.ensures.steps)) i.best in
    subst (λ (shown : List Weighed). FirstRanked ranked_of (Contains c.args.words) c.args.max shown) (sym c.from_vec.ensures)
    (top_of_best c.args.max c.args.words kept c.into_sorted_vec.result.items c.requires best c.into_sorted_vec.ensures.permutation (c.into_sorted_vec.ensures.sorted i.heap))
