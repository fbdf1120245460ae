use Rattle.mt_eval.proofs.OverGaps.{tests_around}
use Rattle.mt_cql.specs.Shape.{shape}
use Rattle.mt_prepare.specs.declared.resolved.Resolved.{Resolved}
use Rattle.std.proofs.Common.{subst, sym, take, drop, length, ◌-◌, ◌+◌}
use Rattle.mt_eval.specs.Gapped.{AreTestsAround}
use Rattle.mt_eval.proofs.gap.around.Goals as goal

pub returns-clause-tests : goal.returns-clause-tests
returns-clause-tests c = λ tables zip attrs.
    let tests = c.args.tests.now in
    let number = c.args.gap.before in
    subst (λ (test : Resolved). AreTestsAround tables (shape c.args.expr.now) (take number tests) test (take (length tests - (number + 1)) (drop (number + 1) tests)) c.args.gap.least c.args.gap.most) (sym c.index-tests-number.is)
    (tests_around tables (shape c.args.expr.now) tests number c.args.gap.least c.args.gap.most c.index-tests-number.result c.requires.gap zip attrs)
