use Rattle.std.proofs.Common.{◌/◌}
use Rattle.std.proofs.lemmas.Result.{IfOk-at_ok, IfOk-weaker}
use Rattle.mt_inverting.specs.Blocks.{AreBlocksOf, IsBlockOf, run}
use Rattle.mt_inverting.proofs.Runs.{both_are}
use Rattle.mt_inverting.proofs.blocks.blocks_beside.Goals as goal

pub returns : goal.returns
returns g c =
    let column = c.args.column.now in
    let middle = c.args.runs / 2 in
    let one = IfOk-at_ok (λ blocks. AreBlocksOf column c.args.count 0 middle blocks) c.in_ok-first.was c.join-first.ensures.first in
    let other = IfOk-at_ok (λ blocks. AreBlocksOf column c.args.count middle c.args.runs blocks) c.in_ok-others.was c.join-first.ensures.second in
    IfOk-weaker c.joined.result _ (λ blocks. AreBlocksOf column c.args.count 0 c.args.runs blocks)
    (λ blocks told. both_are (λ number block. IsBlockOf (run column number) c.args.count block) 0 middle c.args.runs _ _ _ one other told) c.joined.ensures
