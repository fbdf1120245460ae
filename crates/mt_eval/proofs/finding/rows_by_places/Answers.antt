use Rattle.std.proofs.Common.{arith}
use Rattle.mt_query_spec.specs.Contents.{token_tests}
use Rattle.mt_cql.specs.Shape.{shape}
use Rattle.mt_prepare.specs.Resolved.{Resolves}
use Rattle.mt_eval.proofs.Exprs.{same_count}
use Rattle.mt_eval.proofs.Sequenced.{some_test}
use Rattle.mt_eval.proofs.finding.rows_by_places.Goals as goal

pub rows_by_scan-requires-clause-tests : goal.rows_by_scan-requires-clause-tests
rows_by_scan-requires-clause-tests g c =
    rw c.as_slice-tests.ensures (record { is = c.is_scanned.ensures c.if-is_scanned.true; are = c.requires.ready.tests_are; attrs = c.requires.ready.attrs })

pub rows_by_scan-requires-clause-by : goal.rows_by_scan-requires-clause-by
rows_by_scan-requires-clause-by g c =
    let E = shape c.args.expr.now in
    let count = same_count (Resolves c.args.asked.now.segment.now) (token_tests E) c.args.ready.now.tests c.requires.ready.tests_are in
    let some = some_test E (c.is_scanned.ensures c.if-is_scanned.true) in
    rw c.as_slice-tests.ensures (omega (arith, count, some))

pub short_gap-requires : goal.short_gap-requires
short_gap-requires g c =
    let many = same_count (Resolves c.args.asked.now.segment.now) (token_tests (shape c.args.expr.now)) c.args.ready.now.tests c.requires.ready.tests_are in
    record { many = rw c.as_slice-tests.ensures many }

pub around-requires-clause-many : goal.around-requires-clause-many
around-requires-clause-many g c =
    rw c.as_slice-tests.ensures (same_count (Resolves c.args.asked.now.segment.now) (token_tests (shape c.args.expr.now)) c.args.ready.now.tests c.requires.ready.tests_are)

pub rows_by_gap-requires-clause-tests : goal.rows_by_gap-requires-clause-tests
rows_by_gap-requires-clause-tests g c =
    c.around.ensures.tests c.args.asked.now.segment.now (rw c.as_slice-tests.ensures c.requires.ready.tests_are) (rw c.as_slice-tests.ensures c.requires.ready.attrs)
