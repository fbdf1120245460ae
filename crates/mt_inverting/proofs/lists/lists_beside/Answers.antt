use Rattle.std.proofs.lemmas.Result.{IfOk-at_ok, IfOk-weaker}
use Rattle.mt_segment_spec.specs.Tables.{ArePlacesOf}
use Rattle.mt_inverting.specs.Blocks.{AreListsOf}
use Rattle.mt_inverting.proofs.Runs.{both_are}
use Rattle.mt_inverting.proofs.lists.lists_beside.Goals as goal

pub returns : goal.returns
returns g c =
    let column = c.args.blocks.now.numbers in
    let middle = c.middle-middle.result in
    let one = IfOk-at_ok (λ lists. AreListsOf column 0 middle lists) c.in_ok-first.was c.join-first.ensures.first in
    let other = IfOk-at_ok (λ lists. AreListsOf column middle c.args.count lists) c.in_ok-others.was c.join-first.ensures.second in
    IfOk-weaker c.joined.result _ (λ lists. AreListsOf column 0 c.args.count lists) (λ lists told. both_are (λ number places. ArePlacesOf number column places) 0 middle c.args.count _ _ _ one other told) c.joined.ensures
