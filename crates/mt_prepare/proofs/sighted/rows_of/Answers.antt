use Rattle.std.proofs.Common.{arith}
use Rattle.mt_prepare.specs.Sighted.{IsRowOfResolved}
use Rattle.mt_prepare.proofs.Sights.{next_zipped}
use Rattle.mt_prepare.proofs.sighted.rows_of.Goals as goal

pub loop-test-preserved : goal.loop-test-preserved
loop-test-preserved g c = record {
  rows = next_zipped (IsRowOfResolved c.args.segment.now) c.args.tests.now c.loop-test.test-index c.test-item.result c.loop-test.rows.items c.push.new.self.items c.in_ok-row_of.field-0 (omega arith) c.test-item.is c.loop-test.invariant.rows c.in_ok-row_of.ensures.row c.in_ok-push.ensures.items;
  known = c.in_ok-row_of.ensures.known;
  rises = omega (arith, c.loop-test.invariant.rises, c.in_ok-row_of.ensures.rises);
}
