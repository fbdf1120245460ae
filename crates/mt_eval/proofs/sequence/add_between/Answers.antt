use Rattle.std.proofs.Common.{arith}
use Rattle.mt_cql.specs.Shape.{shape}
use Rattle.mt_query_spec.specs.Contents.{token_tests}
use Rattle.mt_prepare.specs.Resolved.{Resolves}
use Rattle.mt_eval.specs.Sequences.{row_from}
use Rattle.mt_eval.proofs.Exprs.{same_count}
use Rattle.mt_eval.proofs.Rowed.{as_row, many, no_row, one_row}
use Rattle.mt_eval.proofs.sequence.add_between.Goals as goal

pub returns-then-room-eq0-clause-more : goal.returns-then-room-eq0-clause-more
returns-then-room-eq0-clause-more g c = λ h.
    let T = c.args.segment.now in
    let E = shape c.args.sequence.now.expr.now in (
      c.if-room-eq0.true,
      row_from E c.args.text c.in-Some.begin,
      as_row T E c.args.sequence.now.tests.now c.args.text c.requires.tests c.requires.text c.args.sequence.now.by c.args.place c.in-Some.begin
          (rw (c.requires.first, c.requires.end) at c.in-Some.ensures.some),
    )

pub push_row-requires-clause-few : goal.push_row-requires-clause-few
push_row-requires-clause-few g c =
    let T = c.args.segment.now in
    let E = shape c.args.sequence.now.expr.now in
    let long = many T E c.args.sequence.now.tests.now c.args.text c.requires.tests c.requires.text in
    let inside = c.in-Some.ensures.some.inside in
    omega (arith, long, inside)

pub push_row-requires-clause-long : goal.push_row-requires-clause-long
push_row-requires-clause-long g c = same_count (Resolves c.args.segment.now) (token_tests (shape c.args.sequence.now.expr.now)) c.args.sequence.now.tests.now c.requires.tests.are

pub returns-in-None-clause-ok : goal.returns-in-None-clause-ok
returns-in-None-clause-ok g c =
    no_row c.args.segment.now (shape c.args.sequence.now.expr.now) c.args.sequence.now.tests.now c.args.text c.requires.tests c.requires.text c.args.sequence.now.by c.args.place c.args.room c.args.out.now
    (rw (c.requires.first, c.requires.end) at c.in-None.ensures.none)

pub returns-in_ok-push_row-in-Some-clause-ok : goal.returns-in_ok-push_row-in-Some-clause-ok
returns-in_ok-push_row-in-Some-clause-ok g c =
    one_row c.args.segment.now (shape c.args.sequence.now.expr.now) c.args.sequence.now.tests.now c.args.text c.requires.tests c.requires.text c.args.sequence.now.by c.args.place c.args.room c.in-Some.begin c.args.out.now c.push_row.new.out
    (rw (c.requires.first, c.requires.end) at c.in-Some.ensures.some) (omega (arith, c.if-room-eq0.false))
    c.in_ok-push_row-in-Some.ensures
