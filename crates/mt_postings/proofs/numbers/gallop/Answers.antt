use Rattle.std.proofs.Common.{◌+◌, ◌*◌, arith}
use Rattle.mt_postings.proofs.Ascending.{not_below}
use Rattle.mt_postings.proofs.Deltas.{pow_more}
use Rattle.mt_postings.proofs.numbers.gallop.Goals as goal

pub loop-low-preserved : goal.loop-low-preserved
loop-low-preserved g c =
    let p = c.loop-low.invariant.power in
    let more = pow_more p.0 in
    let e = p.1 in
    let t = p.2 in
    record {
      within = omega arith;
      below = λ k s. let h = not_below c.args.positions.now k (2 * c.loop-low.low) c.requires (omega arith) c.loop-low-test.true in omega arith;
      power = (p.0 + 1, omega arith, omega arith);
    }
