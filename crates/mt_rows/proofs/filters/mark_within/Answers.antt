use Rattle.std.proofs.Common.{length, refl, arith}
use Rattle.std.proofs.lemmas.Option.{slice_get_read}
use Rattle.mt_rows.proofs.Marking.{within_none, within_more, within_all}
use Rattle.mt_rows.proofs.filters.mark_within.Goals as goal

pub loop-i-init : goal.loop-i-init
loop-i-init c = within_none c.args.spans.now c.args.operand.now c.args.negated c.resize.new.self.items (omega (arith, c.in_ok-resize.ensures.len, c.resize.new.self.ok.0))

pub advance-requires-clause-front : goal.advance-requires-clause-front
advance-requires-clause-front c =
    let spans = c.args.spans.now in
    c.loop-i.invariant.ahead c.loop-i.i c.index-spans-i.result (omega arith) (slice_get_read spans (length spans) c.loop-i.i c.index-spans-i.result refl c.loop-i-test.true c.index-spans-i.is)

pub loop-i-preserved : goal.loop-i-preserved
loop-i-preserved c =
    let new = c.advance.new.front in
    within_more c.args.spans.now c.args.operand.now c.args.negated c.loop-i.front.0 new.taken c.loop-i.front.1.0 new.best c.loop-i.marks.items c.loop-i.i c.index-spans-i.result c.reaches.result c.flipped.result
    c.requires.spans c.loop-i.invariant c.loop-i-test.true c.index-spans-i.is c.advance.ensures.front c.advance.ensures.rest c.reaches.ensures c.flipped.ensures.plain c.flipped.ensures.turned

pub returns : goal.returns
returns c = within_all c.args.spans.now c.args.operand.now c.args.negated c.loop-i.front.0 c.loop-i.front.1.0 c.loop-i.marks.items c.loop-i.i c.loop-i.invariant c.loop-i-test.false
