use Rattle.std.proofs.Common.{length, ◌+◌}
use Rattle.mt_cql.specs.Shape.{test_shape}
use Rattle.mt_eval_spec.specs.Asked.{test_patterns}
use Rattle.mt_prepare.proofs.Blamed.{later_part, behind}
use Rattle.mt_prepare.proofs.patterns.Patterns.+add_test.Goals as goal

pub returns-in_ok-add_test-in-Both-clause-blames : goal.returns-in_ok-add_test-in-Both-clause-blames
returns-in_ok-add_test-in-Both-clause-blames g t c =
    let refused = g.P.PatternShop.refused in
    rw c.in-Both.is
    (later_part c.add_test-in-Both-2.result (length c.args.self.now + 1) (length c.add_test-in-Both.new.self + 1) (test_patterns (test_shape c.in-Both.left.value)) (test_patterns (test_shape c.in-Both.right.value)) (refused c.args.shop.now) (refused c.add_test-in-Both.new.shop)
    (refused c.add_test-in-Both-2.new.shop) (behind c.add_test-in-Both.new.self c.args.self.now (test_patterns (test_shape c.in-Both.left.value)) (rw c.deref-in-Both.ensures at c.in_ok-add_test-in-Both.ensures.texts)) (rw c.deref-in-Both.ensures at c.in_ok-add_test-in-Both.ensures.patterns) c.in_ok-add_test-in-Both.ensures.kept
    (rw c.deref-in-Both-2.ensures at c.add_test-in-Both-2.ensures.blames))

pub returns-in_ok-add_test-in-Either-clause-blames : goal.returns-in_ok-add_test-in-Either-clause-blames
returns-in_ok-add_test-in-Either-clause-blames g t c =
    let refused = g.P.PatternShop.refused in
    rw c.in-Either.is
    (later_part c.add_test-in-Either-2.result (length c.args.self.now + 1) (length c.add_test-in-Either.new.self + 1) (test_patterns (test_shape c.in-Either.left.value)) (test_patterns (test_shape c.in-Either.right.value)) (refused c.args.shop.now) (refused c.add_test-in-Either.new.shop)
    (refused c.add_test-in-Either-2.new.shop) (behind c.add_test-in-Either.new.self c.args.self.now (test_patterns (test_shape c.in-Either.left.value)) (rw c.deref-in-Either.ensures at c.in_ok-add_test-in-Either.ensures.texts)) (rw c.deref-in-Either.ensures at c.in_ok-add_test-in-Either.ensures.patterns) c.in_ok-add_test-in-Either.ensures.kept
    (rw c.deref-in-Either-2.ensures at c.add_test-in-Either-2.ensures.blames))
