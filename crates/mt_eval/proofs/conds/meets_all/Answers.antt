use Rattle.std.proofs.Common.{refl, subst, arith}
use Rattle.std.specs.List.{All}
use Rattle.std.proofs.lemmas.List.Elements.{All-more}
use Rattle.std.proofs.lemmas.List.{take_all}
use Rattle.mt_eval_spec.specs.RowsIn.{MeetsIn}
use Rattle.mt_eval.proofs.conds.meets_all.Goals as goal

pub loop-cond-preserved : goal.loop-cond-preserved
loop-cond-preserved g c = (
  All-more (MeetsIn c.args.segment.now c.args.row.now) c.args.conds.now c.loop-cond.cond-index c.cond-item.result c.loop-cond-test.true c.loop-cond.invariant.0
      (subst (MeetsIn c.args.segment.now c.args.row.now) c.cond-item.is (c.meets.ensures.meets.0 c.if-not-meets.false)),
  omega (arith, c.loop-cond.invariant.1, c.meets.ensures.rises),
)

pub returns-clause-meets : goal.returns-clause-meets
returns-clause-meets g c = ((λ e. subst (All (MeetsIn c.args.segment.now c.args.row.now)) (take_all c.loop-cond.cond-index c.args.conds.now c.loop-cond-test.false) c.loop-cond.invariant.0), (λ all. refl))
