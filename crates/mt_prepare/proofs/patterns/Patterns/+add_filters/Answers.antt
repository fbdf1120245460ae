use Rattle.std.proofs.Common.{length, ◌+◌, ◌++◌, ◌∙◌, rules}
use Rattle.mt_cql.specs.Shape.{shape, filters_shape}
use Rattle.mt_eval_spec.specs.Asked.{expr_patterns, filters_patterns}
use Rattle.mt_prepare.specs.Built.{Blames}
use Rattle.mt_prepare.proofs.Blamed.{middle_part, last_part, all_three, behind, behind_two}
use Rattle.mt_prepare.proofs.patterns.Patterns.+add_filters.Goals as goal

pub returns-in_err-add_filters-in-More-clause-blames : goal.returns-in_err-add_filters-in-More-clause-blames
returns-in_err-add_filters-in-More-clause-blames g t c =
    let refused = g.P.PatternShop.refused in
    let head = expr_patterns (shape c.in-More.filter.value.head) in
    let inner = filters_patterns (filters_shape c.in-More.filter.value.filters) in
    let others = filters_patterns (filters_shape c.in-More.others.value) in
    let e = c.in_err-add_filters-in-More.field-0.0 in
    let k : Blames (length c.args.self.now + 1) (head ++ inner ++ others) (refused c.args.shop.now) (refused c.add_filters.new.shop) e =
    middle_part e (length c.args.self.now + 1) (length c.add_expr.new.self + 1) head inner others (refused c.args.shop.now) (refused c.add_expr.new.shop) (refused c.add_filters.new.shop)
    (behind c.add_expr.new.self c.args.self.now head (rw c.deref.ensures at c.in_ok-add_expr-in-More.ensures.texts)) (rw c.deref.ensures at c.in_ok-add_expr-in-More.ensures.patterns) c.in_ok-add_expr-in-More.ensures.kept
    (rw c.deref-in-More.ensures at c.in_err-add_filters-in-More.ensures.blames) in
    rw c.in-More.is (search (rules, k))

pub returns-in_ok-add_filters-in-More-clause-patterns : goal.returns-in_ok-add_filters-in-More-clause-patterns
returns-in_ok-add_filters-in-More-clause-patterns g t c =
    rw c.in-More.is
    (all_three c.add_filters-in-More.result (expr_patterns (shape c.in-More.filter.value.head)) (filters_patterns (filters_shape c.in-More.filter.value.filters)) (filters_patterns (filters_shape c.in-More.others.value))
    (rw c.deref.ensures at c.in_ok-add_expr-in-More.ensures.patterns) (rw c.deref-in-More.ensures at c.in_ok-add_filters-in-More.ensures.patterns) (rw c.deref-in-More-2.ensures at c.add_filters-in-More.ensures.patterns))

pub returns-in_ok-add_filters-in-More-clause-blames : goal.returns-in_ok-add_filters-in-More-clause-blames
returns-in_ok-add_filters-in-More-clause-blames g t c =
    let refused = g.P.PatternShop.refused in
    let head = expr_patterns (shape c.in-More.filter.value.head) in
    let inner = filters_patterns (filters_shape c.in-More.filter.value.filters) in
    let others = filters_patterns (filters_shape c.in-More.others.value) in
    rw c.in-More.is
    (last_part c.add_filters-in-More.result (length c.args.self.now + 1) (length c.add_filters.new.self + 1) head inner others (refused c.args.shop.now) (refused c.add_filters.new.shop) (refused c.add_filters-in-More.new.shop)
    (behind_two c.add_filters.new.self c.add_expr.new.self c.args.self.now head inner (rw c.deref-in-More.ensures at c.in_ok-add_filters-in-More.ensures.texts) (rw c.deref.ensures at c.in_ok-add_expr-in-More.ensures.texts))
    (rw c.deref.ensures at c.in_ok-add_expr-in-More.ensures.patterns) (rw c.deref-in-More.ensures at c.in_ok-add_filters-in-More.ensures.patterns) (c.in_ok-add_filters-in-More.ensures.kept ∙ c.in_ok-add_expr-in-More.ensures.kept)
    (rw c.deref-in-More-2.ensures at c.add_filters-in-More.ensures.blames))
