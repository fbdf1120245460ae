use Rattle.std.proofs.Common.{length, ◌+◌}
use Rattle.mt_cql.specs.Shape.{shape}
use Rattle.mt_eval_spec.specs.Asked.{expr_patterns}
use Rattle.mt_prepare.proofs.Blamed.{later_part, behind}
use Rattle.mt_prepare.proofs.patterns.Patterns.+add_expr.Goals as goal

pub returns-in_ok-add_expr-in-Seq-clause-blames : goal.returns-in_ok-add_expr-in-Seq-clause-blames
returns-in_ok-add_expr-in-Seq-clause-blames g t c =
    let refused = g.P.PatternShop.refused in
    rw c.in-Seq.is
    (later_part c.add_expr-in-Seq.result (length c.args.self.now + 1) (length c.add_expr.new.self + 1) (expr_patterns (shape c.in-Seq.left.value)) (expr_patterns (shape c.in-Seq.right.value)) (refused c.args.shop.now) (refused c.add_expr.new.shop)
    (refused c.add_expr-in-Seq.new.shop) (behind c.add_expr.new.self c.args.self.now (expr_patterns (shape c.in-Seq.left.value)) (rw c.deref.ensures at c.in_ok-add_expr-in-Seq.ensures.texts)) (rw c.deref.ensures at c.in_ok-add_expr-in-Seq.ensures.patterns) c.in_ok-add_expr-in-Seq.ensures.kept
    (rw c.deref-in-Seq.ensures at c.add_expr-in-Seq.ensures.blames))

pub returns-in_ok-add_expr-in-Choice-clause-blames : goal.returns-in_ok-add_expr-in-Choice-clause-blames
returns-in_ok-add_expr-in-Choice-clause-blames g t c =
    let refused = g.P.PatternShop.refused in
    rw c.in-Choice.is
    (later_part c.add_expr-in-Choice-2.result (length c.args.self.now + 1) (length c.add_expr-in-Choice.new.self + 1) (expr_patterns (shape c.in-Choice.left.value)) (expr_patterns (shape c.in-Choice.right.value)) (refused c.args.shop.now) (refused c.add_expr-in-Choice.new.shop)
    (refused c.add_expr-in-Choice-2.new.shop) (behind c.add_expr-in-Choice.new.self c.args.self.now (expr_patterns (shape c.in-Choice.left.value)) (rw c.deref-in-Choice.ensures at c.in_ok-add_expr-in-Choice.ensures.texts)) (rw c.deref-in-Choice.ensures at c.in_ok-add_expr-in-Choice.ensures.patterns) c.in_ok-add_expr-in-Choice.ensures.kept
    (rw c.deref-in-Choice-2.ensures at c.add_expr-in-Choice-2.ensures.blames))
