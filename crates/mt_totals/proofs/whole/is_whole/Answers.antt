use Rattle.std.proofs.Common.{◌<◌, length, arith}
use Rattle.mt_search.proofs.Groups.{as_many}
use Rattle.mt_totals.proofs.AllLive.{all_whole, next_as_many}
use Rattle.mt_totals.proofs.whole.is_whole.Goals as goal

pub get-requires : goal.get-requires
get-requires c = let count = as_many c.held.result.0.now c.held.result.1.now c.held.ensures.numbers in omega (arith, count, c.loop-i-test.true, c.len-i-end.ensures)

pub loop-i-preserved : goal.loop-i-preserved
loop-i-preserved c =
    let segments = c.held.result.0.now in
    let live = c.held.result.1.now in
    let count = as_many segments live c.held.ensures.numbers in
    let low : c.loop-i.i < length segments = omega (arith, c.loop-i-test.true, c.len-i-end.ensures) in
    next_as_many segments live c.loop-i.i c.get-in-loop-i.result.now c.get.result.now low (omega (arith, low, count)) c.get-in-loop-i.ensures c.get.ensures
    (omega (arith, c.if-len-texts.false, c.len.ensures, c.texts.ensures.count)) c.loop-i.invariant

pub returns : goal.returns
returns c = λ yes images by.
    let corpus = c.args.corpus.now in
    all_whole images corpus.registry corpus.groups c.held.result.0.now c.held.result.1.now (c.held.ensures.stand images by) c.loop-i.i (omega (arith, c.loop-i-test.false, c.len-i-end.ensures)) c.loop-i.invariant
