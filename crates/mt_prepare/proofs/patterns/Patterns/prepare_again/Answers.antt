use Rattle.std.proofs.Common.{◌∙◌, arith}
use Rattle.mt_prepare.proofs.Naming.{head_named, filters_named}
use Rattle.mt_prepare.proofs.Standing.{head_stands, operands_stand}
use Rattle.mt_prepare.proofs.Readying.{all_prepared}
use Rattle.mt_prepare.proofs.patterns.Patterns.prepare_again.Goals as goal

pub add-requires-clause-known : goal.add-requires-clause-known
add-requires-clause-known g c = rw c.head.ensures (head_named c.args.segment.now c.args.query.now c.requires.query)

pub add-requires-clause-stands : goal.add-requires-clause-stands
add-requires-clause-stands g c = rw c.head.ensures (head_stands c.args.self.now c.args.query.now c.requires.patterns)

pub add_operands-requires-clause-known : goal.add_operands-requires-clause-known
add_operands-requires-clause-known g c = rw c.filters.ensures (filters_named c.args.segment.now c.args.query.now c.requires.query)

pub add_operands-requires-clause-stands : goal.add_operands-requires-clause-stands
add_operands-requires-clause-stands g c =
    rw c.filters.ensures
    (operands_stand c.add.new.patterns c.add.new.asked c.args.query.now (c.in_ok-add.ensures.texts ∙ c.requires.patterns) (omega (arith, rw c.head.ensures at c.in_ok-add.ensures.asked)))

pub returns-clause-prepared : goal.returns-clause-prepared
returns-clause-prepared g c =
    rw c.into_list.ensures
    (all_prepared c.args.segment.now c.args.query.now c.over-exprs.result c.add.new.self c.add_operands.new.exprs c.over-exprs.ensures
    (rw c.head.ensures at c.in_ok-add.ensures.ready) (rw c.filters.ensures at c.in_ok-add_operands.ensures.ready))
