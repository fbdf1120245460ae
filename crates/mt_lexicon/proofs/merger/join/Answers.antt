use Rattle.std.proofs.Common.{◌∙◌, ◌++◌, Some, subst, arith}
use Rattle.std.specs.declared.cmp.Ordering.{Ordering}
use Rattle.std.specs.declared.cmp.Ordering.TheVariants.{Less, Equal, Greater}
use Rattle.mt_lexicon.specs.Joins.{ComesNext}
use Rattle.mt_lexicon.proofs.Joined.{first_more, second_more, both_more, all_joined}
use Rattle.mt_lexicon.proofs.Lexicons.{few_some}
use Rattle.mt_lexicon.proofs.Order.{ended}
use Rattle.mt_lexicon.proofs.merger.join.Goals as goal

pub overflow_cast-number : goal.overflow_cast-number
overflow_cast-number c =
    let short = few_some (c.args.first.now ++ c.args.second.now) c.loop-order.values c.requires c.loop-order.invariant.ascending c.loop-order.invariant.only in
    omega (arith, c.len-number.ensures)

pub from_strings-requires-clause-few : goal.from_strings-requires-clause-few
from_strings-requires-clause-few c =
    rw c.shrink_to_fit.ensures (few_some (c.args.first.now ++ c.args.second.now) c.loop-order.values c.requires c.loop-order.invariant.ascending c.loop-order.invariant.only)

pub loop-order-preserved-in-Less : goal.loop-order-preserved-in-Less
loop-order-preserved-in-Less c =
    let next : ComesNext c.args.first.now c.loop-order.i c.args.second.now c.loop-order.j (Some Less) =
    subst (λ (o : Ordering). ComesNext c.args.first.now c.loop-order.i c.args.second.now c.loop-order.j (Some o)) c.in-Less.is c.in-Some.ensures in
    rw (c.in_ok-push-in-Less.ensures.ok, c.in_ok-push-in-Less-2.ensures.items)
    (first_more c.args.first.now c.loop-order.i c.args.second.now c.loop-order.j c.loop-order.values c.loop-order.numbers.items c.loop-order.others.items c.len-number.result c.value.result.now c.loop-order.invariant c.len-number.ensures
    c.len.ensures.ascending c.value.ensures next.1)

pub loop-order-preserved-in-Greater : goal.loop-order-preserved-in-Greater
loop-order-preserved-in-Greater c =
    let next : ComesNext c.args.first.now c.loop-order.i c.args.second.now c.loop-order.j (Some Greater) =
    subst (λ (o : Ordering). ComesNext c.args.first.now c.loop-order.i c.args.second.now c.loop-order.j (Some o)) c.in-Greater.is c.in-Some.ensures in
    rw (c.in_ok-push-in-Greater.ensures.ok, c.in_ok-push-in-Greater-2.ensures.items)
    (second_more c.args.first.now c.loop-order.i c.args.second.now c.loop-order.j c.loop-order.values c.loop-order.numbers.items c.loop-order.others.items c.len-number.result c.value-in-Greater.result.now c.loop-order.invariant c.len-number.ensures
    c.len-2.ensures.ascending c.value-in-Greater.ensures next.1)

pub loop-order-preserved : goal.loop-order-preserved
loop-order-preserved c =
    let next : ComesNext c.args.first.now c.loop-order.i c.args.second.now c.loop-order.j (Some Equal) =
    subst (λ (o : Ordering). ComesNext c.args.first.now c.loop-order.i c.args.second.now c.loop-order.j (Some o)) c.in-Equal.is c.in-Some.ensures in
    rw (c.in_ok-push-in-Equal.ensures.ok, c.in_ok-push-in-Equal-2.ensures.items, c.in_ok-push-in-Equal-3.ensures.items)
    (both_more c.args.first.now c.loop-order.i c.args.second.now c.loop-order.j c.loop-order.values c.loop-order.numbers.items c.loop-order.others.items c.len-number.result c.value-in-Equal.result.now c.loop-order.invariant c.len-number.ensures
    c.len.ensures.ascending c.len-2.ensures.ascending c.value-in-Equal.ensures next.1 next.2)

pub returns : goal.returns
returns c =
    all_joined c.args.first.now c.loop-order.i c.args.second.now c.loop-order.j c.loop-order.values c.from_strings.result c.loop-order.numbers.items c.loop-order.others.items c.from_vec.result c.from_vec-2.result c.loop-order.invariant
    (ended c.args.first.now c.loop-order.i c.args.second.now c.loop-order.j c.next_order.result c.next_order.ensures c.in_default.not-Some).0
    (ended c.args.first.now c.loop-order.i c.args.second.now c.loop-order.j c.next_order.result c.next_order.ensures c.in_default.not-Some).1
    (c.from_strings.ensures ∙ c.shrink_to_fit.ensures) c.from_vec.ensures c.from_vec-2.ensures
