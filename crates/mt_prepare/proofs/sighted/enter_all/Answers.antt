use Rattle.std.proofs.Common.{◌∙◌, ◌<◌, length, arith}
use Rattle.std.proofs.lemmas.List.{length-set}
use Rattle.mt_prepare.proofs.Sights.{list_is, one_more}
use Rattle.mt_prepare.proofs.sighted.enter_all.Goals as goal

pub enter-requires-clause-spans : goal.enter-requires-clause-spans
enter-requires-clause-spans c =
    let low : c.loop-at.at < length c.args.spans.now = omega (arith, c.loop-at-test.true, c.requires.spans_count) in
    rw (list_is c.args.spans.now c.loop-at.at c.index-spans-at.result c.as_slice.result.now low c.as_slice.ensures c.index-spans-at.is) (c.requires.spans c.loop-at.at c.loop-at-test.true)

pub loop-at-preserved : goal.loop-at-preserved
loop-at-preserved c =
    let low : c.loop-at.at < length c.args.spans.now = omega (arith, c.loop-at-test.true, c.requires.spans_count) in
    let there : c.loop-at.at < length c.loop-at.tags = omega (arith, c.loop-at-test.true, c.requires.count, c.loop-at.invariant.count) in
    let is = list_is c.args.spans.now c.loop-at.at c.index-spans-at.result c.as_slice.result.now low c.as_slice.ensures c.index-spans-at.is in
    record {
      count = length-set c.loop-at.tags c.loop-at.at c.enter.new.self ∙ c.loop-at.invariant.count;
      entered = one_more c.args.segment.now c.args.text c.loop-at.at c.args.kinds.now c.args.spans.now c.loop-at.tags c.enter.new.self there c.loop-at.invariant.entered (rw is at c.in_ok-enter.ensures);
    }

pub returns-clause-entered : goal.returns-clause-entered
returns-clause-entered c = λ n d test l are. c.loop-at.invariant.entered n d test (omega (arith, l, c.loop-at-test.false)) are
