use Rattle.mt_cql.specs.Shape.{test_shape}
use Rattle.mt_prepare.proofs.Found.{tag_listed}
use Rattle.mt_prepare.proofs.tags.spans_judged.Goals as goal

pub returns-clause-spans : goal.returns-clause-spans
returns-clause-spans g c =
    tag_listed c.spans_of.result c.args.segment.now (record { kind = c.args.kind; test = test_shape c.args.test.now }) c.in_ok-judge.judge c.in_ok-judge.ensures.judges c.spans_of.ensures.spans

pub returns-in_err-spans-clause-listed : goal.returns-in_err-spans-clause-listed
returns-in_err-spans-clause-listed g c = c.spans.ensures.known c.args.segment.now c.requires.spans

pub returns-clause-listed : goal.returns-clause-listed
returns-clause-listed g c = c.spans.ensures.known c.args.segment.now c.requires.spans
