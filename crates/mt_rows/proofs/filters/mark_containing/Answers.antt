use Rattle.std.proofs.Common.{◌≡◌, ◌+◌, ◌-◌, ◌<◌, length, refl, arith}
use Rattle.std.proofs.lemmas.Option.{slice_get_read}
use Rattle.mt_rows.proofs.Marking.{containing_none, containing_more, containing_all}
use Rattle.mt_rows.proofs.filters.mark_containing.Goals as goal

pub loop-i-init : goal.loop-i-init
loop-i-init c =
    containing_none c.args.spans.now c.args.operand.now c.args.negated c.resize.new.self.items (length c.args.operand.now) (length c.args.spans.now) (omega (arith, c.in_ok-resize.ensures.len, c.resize.new.self.ok.0)) refl refl

pub bounds-spans-i : goal.bounds-spans-i
bounds-spans-i c = omega (arith, c.loop-i.invariant.within, c.loop-i-test.true)

pub retreat-requires-clause-back : goal.retreat-requires-clause-back
retreat-requires-clause-back c =
    let spans = c.args.spans.now in
    let i = c.loop-i.i in
    let inside : i - 1 < length spans = omega (arith, c.loop-i.invariant.within, c.loop-i-test.true) in
    c.loop-i.invariant.ahead (i - 1) c.index-spans-i.result (omega (arith, c.loop-i-test.true)) (slice_get_read spans (length spans) (i - 1) c.index-spans-i.result refl inside c.index-spans-i.is)

pub loop-i-preserved : goal.loop-i-preserved
loop-i-preserved c =
    let new = c.retreat.new.back in
    let i = c.loop-i.i in
    let one : i ≡ i - 1 + 1 = omega (arith, c.loop-i-test.true) in
    containing_more c.args.spans.now c.args.operand.now c.args.negated c.loop-i.back.0 new.left c.loop-i.back.1.0 new.best c.loop-i.marks.items i (i - 1) c.index-spans-i.result c.ends_by.result c.flipped.result
    c.requires.spans c.loop-i.invariant one c.index-spans-i.is c.retreat.ensures.back c.retreat.ensures.rest c.ends_by.ensures c.flipped.ensures.plain c.flipped.ensures.turned

pub returns : goal.returns
returns c =
    let all : c.loop-i.i ≡ 0 = omega (arith, c.loop-i-test.false) in
    containing_all c.args.spans.now c.args.operand.now c.args.negated c.loop-i.back.0 c.loop-i.back.1.0 c.loop-i.marks.items c.loop-i.i c.loop-i.invariant all
