use Rattle.std.proofs.Common.{arith}
use Rattle.mt_shell.proofs.Listing.{same_long, numbers_there, one_more, all_lines}
use Rattle.mt_shell.proofs.state.listing.group_lines.Goals as goal

pub bounds-live-i : goal.bounds-live-i
bounds-live-i c = omega (arith, same_long c.args.segments.now c.args.live.now c.requires, c.loop-i-test.true)

pub group_line-requires : goal.group_line-requires
group_line-requires c =
    numbers_there c.args.segments.now c.args.live.now c.loop-i.i c.index-segments-i.result c.index-live-i.result c.as_slice.result.now c.requires c.loop-i-test.true c.index-segments-i.is c.index-live-i.is c.as_slice.ensures

pub loop-i-preserved : goal.loop-i-preserved
loop-i-preserved c =
    one_more c.args.segments.now c.args.live.now c.loop-i.i c.index-segments-i.result c.index-live-i.result c.as_slice.result.now c.loop-i.lines c.in_ok-line.line c.extend.new.self c.requires c.loop-i-test.true c.index-segments-i.is c.index-live-i.is
    c.as_slice.ensures c.loop-i.invariant c.in_ok-line.ensures (rw c.as_slice-in-loop-i.ensures at c.in_ok-extend.ensures.ok)

pub returns : goal.returns
returns c = all_lines c.args.segments.now c.args.live.now c.loop-i.i c.loop-i.lines c.loop-i-test.false c.requires c.loop-i.invariant
