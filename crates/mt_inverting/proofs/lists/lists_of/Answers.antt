use Rattle.std.proofs.Common.{◌≡◌, ℕ, ◌∙◌, sym, subst, arith}
use Rattle.mt_segment_spec.specs.Tables.{ArePlacesOf}
use Rattle.mt_store_spec.specs.Positions.{ArePositions}
use Rattle.mt_inverting.specs.Blocks.{AreListsOf}
use Rattle.mt_inverting.proofs.Runs.{none_yet, one_more}
use Rattle.mt_inverting.proofs.lists.lists_of.Goals as goal

pub from_slice-requires : goal.from_slice-requires
from_slice-requires c = subst ArePositions (sym c.as_slice.ensures.value) c.in_ok-gather.ensures.valid

pub loop-number-init : goal.loop-number-init
loop-number-init c = none_yet (λ number places. ArePlacesOf number c.args.blocks.now.numbers places) c.args.from c.in_ok-lists.lists c.in_ok-lists.ensures

pub loop-number-preserved : goal.loop-number-preserved
loop-number-preserved c =
    one_more (λ number places. ArePlacesOf number c.args.blocks.now.numbers places) c.args.from c.loop-number.number c.loop-number.lists _ c.in_ok-from_slice.field-0 c.loop-number.invariant
    (subst (ArePlacesOf c.loop-number.number c.args.blocks.now.numbers) (sym (c.in_ok-from_slice.ensures ∙ c.as_slice.ensures.value)) c.in_ok-gather.ensures.places) c.in_ok-push.ensures.ok

pub returns : goal.returns
returns c =
    let there : c.loop-number.number ≡ c.args.to = omega (arith, c.loop-number-test.false, c.loop-number.auto.number-end c.requires.order) in
    subst (λ (n : ℕ). AreListsOf c.args.blocks.now.numbers c.args.from n c.loop-number.lists) there c.loop-number.invariant
