use Rattle.std.proofs.Common.{refl}
use Rattle.mt_cql.specs.Shape.{test_shape}
use Rattle.mt_prepare.proofs.Readying.{adds_test}
use Rattle.mt_prepare.proofs.prepared.add_test.Goals as goal

pub returns-clause-ready : goal.returns-clause-ready
returns-clause-ready g c =
    adds_test c.push.result c.args.segment.now (test_shape c.args.test.now) c.in_ok-resolved.resolved c.args.ready.now (record { tests = c.push.new.self; tags = c.args.ready.now.tags })
    c.in_ok-resolved.ensures.resolves c.in_ok-resolved.ensures.number c.in_ok-resolved.ensures.attrs c.push.ensures.ok refl
