use Rattle.std.proofs.Common.{◌-◌, arith}
use Rattle.mt_cql.specs.Shape.{shape}
use Rattle.mt_eval.proofs.EachToken.{each_token, too_long}
use Rattle.mt_eval.proofs.every.add_tokens.Goals as goal

pub returns-then-end-first-clause-more : goal.returns-then-end-first-clause-more
returns-then-end-first-clause-more c = λ _.
    let T = c.args.segment.now in
    let E = shape c.args.sequence.now.expr.now in
    let b = c.text_bounds-first.ensures in
    too_long T E c.args.sequence.now.tests.now c.args.text c.requires.tests c.requires.text c.requires.unlabelled c.requires.any (c.text_bounds-first.result.1 - c.text_bounds-first.result.0) c.args.room
    (omega (arith, b.begin, b.end, b.order)) (omega (arith, c.if-end-first.true))

pub returns-clause-ok : goal.returns-clause-ok
returns-clause-ok c =
    let T = c.args.segment.now in
    let E = shape c.args.sequence.now.expr.now in
    let b = c.text_bounds-first.ensures in
    each_token T E c.args.sequence.now.tests.now c.args.text c.requires.tests c.requires.text c.requires.unlabelled c.requires.any (c.text_bounds-first.result.1 - c.text_bounds-first.result.0) c.args.room c.args.out.now c.push_tokens.new.out
    (omega (arith, b.begin, b.end, b.order)) (omega (arith, c.if-end-first.false)) c.in_ok-push_tokens.ensures
