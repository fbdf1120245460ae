use Rattle.std.proofs.Common.{List, rules, arith, sym, subst}
use Rattle.std.proofs.lemmas.Grind.{common_steps}
use Rattle.std.specs.BinaryHeap.{heap_items}
use Rattle.std.specs.List.{Contains, flat_map}
use Rattle.std.specs.Vec.Iter.{into_iter_items}
use Rattle.mt_word_sketch_spec.specs.Ranks.{FirstRanked}
use Rattle.mt_word_sketch_spec.specs.Order.{Weighed, ranked_of}
use Rattle.mt_ranks.proofs.Tops.{top_of_best}
use Rattle.mt_ranks.proofs.Merging.{none_best, list_more, all_lists}
use Rattle.mt_ranks.proofs.best.first_of_all.Goals as goal

pub loop-list-init : goal.loop-list-init
loop-list-init c = record {
  seen = search rules;
  heap = c.new-kept.ensures.heap_order;
  best = none_best c.args.max (heap_items c.new-kept.result) c.new-kept.ensures.items;
}

pub loop-list-preserved : goal.loop-list-preserved
loop-list-preserved c =
    let i = c.loop-list.invariant in
    record {
      seen = grind (arith, common_steps);
      heap = c.in_ok-offer_all.ensures.heap;
      best = list_more c.args.max c.loop-list.yielded c.in-Some.list (heap_items c.loop-list.kept) (heap_items c.offer_all.new.kept) i.best c.in_ok-offer_all.ensures.best;
    }

pub returns : goal.returns
returns c = λ parts zipped distinct.
    let i = c.loop-list.invariant in
    let kept = heap_items c.loop-list.kept in
    let all = flat_map (λ part. part) parts in
    let best = all_lists c.args.max c.loop-list.yielded (into_iter_items c.loop-list.list-iterator) c.args.lists.items kept i.seen (omega (arith, c.loop-list.list-iterator.rest.ok, c.in-None.ensures.steps)) i.best parts zipped in
    subst (λ (shown : List Weighed). FirstRanked ranked_of (Contains all) c.args.max shown) (sym c.from_vec.ensures)
    (top_of_best c.args.max all kept c.into_sorted_vec.result.items distinct best c.into_sorted_vec.ensures.permutation (c.into_sorted_vec.ensures.sorted i.heap))
