use Rattle.std.proofs.Common.{◌+◌, ◌-◌, ◌/◌, arith, rules}
use Rattle.mt_prepare.specs.TagRows.{IsBefore}
use Rattle.mt_prepare.proofs.Spans.{up_to, from_on}
use Rattle.mt_prepare.proofs.tag_rows.first_from.Goals as goal

pub loop-low-preserved-then-is_before : goal.loop-low-preserved-then-is_before
loop-low-preserved-then-is_before c =
    let one = c.index-spans-middle.result in
    let low : IsBefore one c.args.key = search rules in
    record {
      order = omega arith;
      within = c.loop-low.invariant.within;
      before = up_to c.args.spans.now c.args.key one (c.loop-low.low + (c.loop-low.high - c.loop-low.low) / 2) c.requires.sorted (omega arith) c.index-spans-middle.is low;
      behind = c.loop-low.invariant.behind;
    }

pub loop-low-preserved : goal.loop-low-preserved
loop-low-preserved c =
    let one = c.index-spans-middle.result in
    let high : ¬ IsBefore one c.args.key = search rules in
    record {
      order = omega arith;
      within = omega arith;
      before = c.loop-low.invariant.before;
      behind = from_on c.args.spans.now c.args.key one (c.loop-low.low + (c.loop-low.high - c.loop-low.low) / 2) c.requires.sorted (omega arith) c.index-spans-middle.is high;
    }
