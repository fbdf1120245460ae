use Rattle.std.proofs.Common.{◌≡◌, ℕ, ◌<◌, List, subst, arith}
use Rattle.mt_inverting.specs.Blocks.{AreBlocksOf, IsBlockOf, run}
use Rattle.mt_inverting.proofs.Runs.{none_yet, of_run, one_more}
use Rattle.mt_inverting.proofs.blocks.blocks_of.Goals as goal

pub new-requires-clause-numbers : goal.new-requires-clause-numbers
new-requires-clause-numbers c = rw c.run_of.ensures.run (of_run (λ n. n < c.args.count) c.args.column.now c.loop-number.number c.requires.numbers)

pub loop-number-init : goal.loop-number-init
loop-number-init c = none_yet (λ number block. IsBlockOf (run c.args.column.now number) c.args.count block) c.args.from c.in_ok-blocks.blocks c.in_ok-blocks.ensures

pub loop-number-preserved : goal.loop-number-preserved
loop-number-preserved c =
    one_more (λ number block. IsBlockOf (run c.args.column.now number) c.args.count block) c.args.from c.loop-number.number c.loop-number.blocks _ c.in_ok-new.field-0 c.loop-number.invariant
    (subst (λ (ns : List ℕ). IsBlockOf ns c.args.count c.in_ok-new.field-0) c.run_of.ensures.run c.in_ok-new.ensures) c.in_ok-push.ensures.ok

pub returns : goal.returns
returns c =
    let there : c.loop-number.number ≡ c.args.to = omega (arith, c.loop-number-test.false, c.loop-number.auto.number-end c.requires.order) in
    subst (λ (n : ℕ). AreBlocksOf c.args.column.now c.args.count c.args.from n c.loop-number.blocks) there c.loop-number.invariant
