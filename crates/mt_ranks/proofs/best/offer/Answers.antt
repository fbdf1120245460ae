use Rattle.std.proofs.Common.{◌<◌, ◌≤◌, length, ◌≡◌, arith, true, sym, ◌∙◌, subst}
use Rattle.std.specs.BinaryHeap.{heap_items}
use Rattle.mt_word_sketch_spec.specs.Order.{Weighed}
use Rattle.mt_ranks.specs.Bests.{comes_before}
use Rattle.mt_ranks.proofs.Tops.{best_pushed, best_of_none, best_passed, best_replaced, le_passes, le_fails, same_top, none_there}
use Rattle.mt_ranks.proofs.best.offer.Goals as goal

pub returns-then-len-max-clause-best : goal.returns-then-len-max-clause-best
returns-then-len-max-clause-best g c = λ seen best. best_pushed c.args.max seen (heap_items c.args.kept.now) (heap_items c.push.new.self) c.args.word best (omega (arith, c.args.kept.now.data.ok)) c.in_ok-push.ensures.permutation

pub returns-then-le-clause-best : goal.returns-then-le-clause-best
returns-then-le-clause-best g c = λ seen best.
    best_passed c.args.max seen (heap_items c.args.kept.now) c.args.word c.in-Some.last.now best (omega (arith, c.args.kept.now.data.ok)) (le_passes c.in-Some.last.now c.args.word (sym c.le.ensures ∙ c.if-le.true)) (c.in-Some.ensures.greatest c.requires)

pub returns-in-None-clause-best : goal.returns-in-None-clause-best
returns-in-None-clause-best g c = λ seen best. best_of_none c.args.max seen (heap_items c.args.kept.now) c.args.word best (omega (arith, c.args.kept.now.data.ok)) (none_there (length (heap_items c.args.kept.now)) (λ l. c.in-None.ensures.variant.1 (omega (arith, c.args.kept.now.data.ok))))

pub returns-in_ok-push-in-Some-pop-clause-best : goal.returns-in_ok-push-in-Some-pop-clause-best
returns-in_ok-push-in-Some-pop-clause-best g c = λ seen best.
    let full : c.args.max ≤ length (heap_items c.args.kept.now) = omega (arith, c.args.kept.now.data.ok) in
    let some : 0 < length (heap_items c.args.kept.now) = omega (arith, c.args.kept.now.data.ok, c.in-Some-pop.ensures.len) in
    let last = c.in-Some-pop.field-0 in
    let earlier = subst (λ (x : Weighed). comes_before c.args.word x ≡ true) (same_top (heap_items c.args.kept.now) c.in-Some.last.now last c.in-Some.ensures.lookup c.in-Some-pop.ensures.top some) (le_fails c.in-Some.last.now c.args.word (sym c.le.ensures ∙ c.if-le.false)) in
    best_replaced c.args.max seen (heap_items c.args.kept.now) (heap_items c.pop.new.self) (heap_items c.push-in-Some-pop.new.self) c.args.word last best full earlier c.in-Some-pop.ensures.permutation (c.in-Some-pop.ensures.below_top c.requires) c.in_ok-push-in-Some-pop.ensures.permutation
