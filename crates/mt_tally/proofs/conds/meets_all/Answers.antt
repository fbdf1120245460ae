use Rattle.std.proofs.Common.{refl, subst, arith}
use Rattle.std.specs.List.{All}
use Rattle.std.proofs.lemmas.List.Elements.{All-more}
use Rattle.std.proofs.lemmas.List.{take_all}
use Rattle.mt_eval_spec.specs.RowsIn.{MeetsIn}
use Rattle.mt_shapes.specs.Shapes.{row_of}
use Rattle.mt_tally.proofs.conds.meets_all.Goals as goal

pub loop-cond-preserved : goal.loop-cond-preserved
loop-cond-preserved g c = record {
  met = λ text is.
      let Meets = MeetsIn c.args.segment.now (row_of c.args.shape.now text c.args.begin) in
      All-more Meets c.args.conds.now c.loop-cond.cond-index c.cond-item.result c.loop-cond-test.true (c.loop-cond.invariant.met text is)
      (subst Meets c.cond-item.is ((c.meets.ensures.meets text is).0 c.if-not-meets.false));
  rises = omega (arith, c.loop-cond.invariant.rises, c.meets.ensures.rises);
}

pub returns-clause-meets : goal.returns-clause-meets
returns-clause-meets g c = λ text is.
    let Meets = MeetsIn c.args.segment.now (row_of c.args.shape.now text c.args.begin) in
    ((λ e. subst (All Meets) (take_all c.loop-cond.cond-index c.args.conds.now c.loop-cond-test.false) (c.loop-cond.invariant.met text is)), (λ all. refl))
