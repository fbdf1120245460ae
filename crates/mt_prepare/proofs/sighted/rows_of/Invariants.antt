-- The rows of the tests so far.
use Rattle.std.proofs.Common.{◌≤◌, take}
use Rattle.std.specs.List.{AllZip}
use Rattle.mt_prepare.specs.KnownRows.{AreKnownIn}
use Rattle.mt_prepare.specs.Sighted.{IsRowOfResolved}
use Rattle.mt_prepare.proofs.sighted.rows_of.Given as goal

abbrev pub invariant-loop-test : goal.invariant-loop-test
invariant-loop-test g l = record {
  rows : AllZip (IsRowOfResolved l.segment) (take l.test-index l.tests) l.rows.items;
  known : AreKnownIn l.segment l.known;
  rises : l.initial.steps ≤ l.steps;
}
