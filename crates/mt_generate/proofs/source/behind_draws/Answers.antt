use Rattle.std.proofs.Common.{◌≡◌, refl, subst, arith}
use Rattle.mt_generate.proofs.Steps.{AreLeft, even_leap, first_leap, no_leap, odd_leap}
use Rattle.mt_generate.proofs.source.behind_draws.Goals as goal
use Rattle.mt_generate.proofs.source.behind_draws.Goals.{then-left-eq1, else-left-eq1}

pub loop-left-init : goal.loop-left-init
loop-left-init c = first_leap c.args.seed c.args.draws

pub loop-left-preserved : goal.loop-left-preserved
loop-left-preserved c =
    let inv = c.loop-left.invariant in
    elim c.if-left-eq1.branch [
      | then-left-eq1 w ↦ rw w.number-is (odd_leap c.args.seed c.args.draws c.loop-left.number c.loop-left.times c.loop-left.plus c.loop-left.left c.step-plus.result _ inv c.step-plus.ensures refl w.step-number.result (omega (arith, w.if-left-eq1.true)) w.step-number.ensures)
      | else-left-eq1 w ↦ rw w.number-is (even_leap c.args.seed c.args.draws c.loop-left.number c.loop-left.times c.loop-left.plus c.loop-left.left c.step-plus.result _ inv c.step-plus.ensures refl (omega (arith, w.if-left-eq1.false)))
    ]

pub returns : goal.returns
returns c =
    let none : c.loop-left.left ≡ 0 = omega (arith, c.loop-left-test.false) in
    no_leap c.args.seed c.args.draws c.loop-left.number c.loop-left.times c.loop-left.plus (subst (AreLeft c.args.seed c.args.draws c.loop-left.number c.loop-left.times c.loop-left.plus) none c.loop-left.invariant)
