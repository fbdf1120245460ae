use Rattle.std.proofs.Common.{◌∙◌, ap, Some, arith}
use Rattle.mt_base.proofs.Names.{none_yet, named_at, one_more, same, not_there, all_named}
use Rattle.mt_base.proofs.registry.place_of.Goals as goal

pub loop-at-init : goal.loop-at-init
loop-at-init g c = none_yet _ _

pub returns-then-eq-clause-found : goal.returns-then-eq-clause-found
returns-then-eq-clause-found g c =
    named_at g.T.Named.called _ c.loop-at.at _ _ (omega (arith, c.loop-at-test.true)) c.index-items-at.is c.called.ensures ∙ ap Some (same _ _ c.if-eq.ensures)

pub loop-at-preserved : goal.loop-at-preserved
loop-at-preserved g c =
    one_more _ _ c.called.result.now c.loop-at.at c.loop-at.invariant (named_at g.T.Named.called _ c.loop-at.at _ _ (omega (arith, c.loop-at-test.true)) c.index-items-at.is c.called.ensures) c.if-eq.ensures

pub returns-clause-none : goal.returns-clause-none
returns-clause-none g c = not_there _ _ c.loop-at.at c.loop-at.invariant (omega (arith, all_named g.T.Named.called c.args.items.now, c.loop-at-test.false))
