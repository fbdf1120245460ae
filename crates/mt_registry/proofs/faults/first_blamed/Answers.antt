use Rattle.std.proofs.Common.{arith, sym}
use Rattle.mt_registry.proofs.Blamed.{none_blamed, one_more_unblamed, take_one_more, first_blamed_at}
use Rattle.mt_registry.proofs.faults.first_blamed.Goals as goal

pub loop-at-init : goal.loop-at-init
loop-at-init c = none_blamed c.args.mappers.now c.args.all.now c.args.unclosed

pub returns-in-Some : goal.returns-in-Some
returns-in-Some c = first_blamed_at c.args.mappers.now c.args.all.now c.args.unclosed c.loop-at.at c.index-all-at.result _ (omega (arith, c.loop-at-test.true)) c.index-all-at.is
    c.loop-at.invariant (sym c.line.ensures) c.in-Some.ensures

pub loop-at-preserved : goal.loop-at-preserved
loop-at-preserved c = one_more_unblamed c.args.mappers.now c.args.all.now c.args.unclosed _ c.index-all-at.result _ c.loop-at.invariant c.in_default.ensures
    (take_one_more c.args.all.now c.loop-at.at c.index-all-at.result (omega (arith, c.loop-at-test.true)) c.index-all-at.is)
