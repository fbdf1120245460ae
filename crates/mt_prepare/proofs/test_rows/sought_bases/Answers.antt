use Rattle.std.proofs.Common.{ℕ, get_or, sym, subst, rules, arith}
use Rattle.mt_places.specs.Places.{In}
use Rattle.mt_prepare.proofs.Sets.{nothing_said, one_said, all_said}
use Rattle.mt_prepare.proofs.test_rows.sought_bases.Goals as goal

pub loop-base-init : goal.loop-base-init
loop-base-init c = nothing_said (λ (base : ℕ). In c.args.numbers.now (get_or c.args.table.now base 0)) c.args.count c.in_ok-sought.sought.items (search rules)

pub loop-base-preserved : goal.loop-base-preserved
loop-base-preserved c =
    let numbers = c.args.numbers.now in
    one_said (λ (base : ℕ). In numbers (get_or c.args.table.now base 0)) c.args.count c.loop-base.base c.loop-base.sought.items c.contains.result (omega arith)
    (λ yes_is. subst (In numbers) c.get.ensures (c.contains.ensures.yes yes_is)) (λ no_is i. c.contains.ensures.no no_is (subst (In numbers) (sym c.get.ensures) i)) c.loop-base.invariant

pub returns : goal.returns
returns c = all_said (λ (base : ℕ). In c.args.numbers.now (get_or c.args.table.now base 0)) c.args.count c.loop-base.base c.loop-base.sought.items (omega arith) c.loop-base.invariant
