use Rattle.std.proofs.Common.{length, ◌+◌, ◌++◌, rules}
use Rattle.std.proofs.lemmas.List.Elements.{All-append}
use Rattle.mt_eval_spec.specs.Asked.{expr_patterns, filters_patterns}
use Rattle.mt_prepare.specs.Built.{Blames, IsWhole}
use Rattle.mt_prepare.proofs.Blamed.{behind_part, behind_none}
use Rattle.mt_prepare.proofs.patterns.Patterns.build.Goals as goal

pub returns-in_err-add_filters-clause-blames : goal.returns-in_err-add_filters-clause-blames
returns-in_err-add_filters-clause-blames g c =
    let refused = g.P.PatternShop.refused in
    let head = expr_patterns c.args.query.now.head in
    let others = filters_patterns c.args.query.now.filters in
    let e = c.in_err-add_filters.field-0.0 in
    let k : Blames 1 (head ++ others) (refused c.args.shop.now) (refused c.add_filters.new.shop) e =
    behind_part e 1 (length c.add_expr.new.self + 1) head others (refused c.args.shop.now) (refused c.add_expr.new.shop) (refused c.add_filters.new.shop)
    (behind_none c.add_expr.new.self c.new.result.items head (rw c.head.ensures at c.in_ok-add_expr.ensures.texts) c.new.ensures.items) (rw c.head.ensures at c.in_ok-add_expr.ensures.patterns) c.in_ok-add_expr.ensures.kept
    (rw c.filters.ensures at c.in_err-add_filters.ensures.blames) in
    search (rules, k)

pub returns-clause-patterns : goal.returns-clause-patterns
returns-clause-patterns g c =
    All-append IsWhole (expr_patterns c.args.query.now.head) (filters_patterns c.args.query.now.filters)
    (rw c.head.ensures at c.in_ok-add_expr.ensures.patterns) (rw c.filters.ensures at c.in_ok-add_filters.ensures.patterns)
