use Rattle.std.proofs.Common.{refl, subst}
use Rattle.std.specs.List.{All}
use Rattle.std.proofs.lemmas.List.Elements.{All-more}
use Rattle.std.proofs.lemmas.List.{take_all}
use Rattle.mt_eval.specs.Sequences.{IsOne}
use Rattle.mt_eval.proofs.rarest.are_ones.Goals as goal

pub loop-test-preserved : goal.loop-test-preserved
loop-test-preserved c =
    All-more IsOne c.args.tests.now c.loop-test.test-index c.test-item.result c.loop-test-test.true c.loop-test.invariant (subst IsOne c.test-item.is (c.is_one.ensures.0 c.if-not-is_one.false))

pub returns : goal.returns
returns c = ((λ e. subst (All IsOne) (take_all c.loop-test.test-index c.args.tests.now c.loop-test-test.false) c.loop-test.invariant), (λ all. refl))
