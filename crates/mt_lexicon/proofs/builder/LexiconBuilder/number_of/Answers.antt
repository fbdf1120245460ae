use Rattle.std.proofs.Common.{◌-◌, arith}
use Rattle.mt_lexicon.proofs.Sought.{sought_first, sought_next, not_there, not_equal}
use Rattle.mt_lexicon.proofs.builder.LexiconBuilder.number_of.Goals as goal

pub loop-below-init : goal.loop-below-init
loop-below-init c = sought_first c.self.inside.seen c.self.inside.table.0 c.args.value.now c.args.hash c.last-below.result c.self.invariant.0 c.requires c.last-below.ensures

pub loop-below-preserved : goal.loop-below-preserved
loop-below-preserved c =
    sought_next c.self.inside.seen c.self.inside.table.0 c.args.value.now c.loop-below.below c.before-below.result c.self.invariant.0 c.loop-below-test.true c.loop-below.invariant
    (not_equal c.self.inside.seen (c.loop-below.below - 1) c.get.result.now c.args.value.now c.eq.result c.get.ensures c.eq.ensures c.if-eq.false) c.before-below.ensures

pub returns-clause-none : goal.returns-clause-none
returns-clause-none c =
    rw (← c.self.view_is) (not_there c.self.inside.seen c.self.inside.table.0 c.args.value.now c.loop-below.below c.loop-below.invariant (omega arith))
