use Rattle.std.proofs.Common.{◌≡◌, ◌+◌, min, ap, arith}
use Rattle.mt_shapes.proofs.Matches.{next_stretch, all_stretches}
use Rattle.mt_shapes.proofs.table.add_gap.Goals as goal

pub loop-count-preserved : goal.loop-count-preserved
loop-count-preserved c = record {
  within = λ some. omega (arith, c.loop-count-test.true);
  added = next_stretch c.args.last c.args.least c.loop-count.count c.args.out.now.items c.loop-count.out.items c.add_stretch.new.out.items c.loop-count.auto.count c.loop-count.invariant.added c.in_ok-add_stretch.ensures;
}

pub returns : goal.returns
returns c =
    let least_is : c.min-end.result ≡ min c.args.most c.args.last = c.min-end.ensures in
    all_stretches c.args.last c.args.least c.loop-count.count c.args.most (c.min-end.result + 1) c.args.out.now.items c.loop-count.out.items (ap (λ n. n + 1) least_is) c.loop-count-test.false c.loop-count.invariant.within
    c.loop-count.invariant.added
