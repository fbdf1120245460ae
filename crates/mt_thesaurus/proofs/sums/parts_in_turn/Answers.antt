use Rattle.std.proofs.Common.{length, ap, ◌∙◌}
use Rattle.mt_thesaurus.proofs.Groups.{group_below}
use Rattle.mt_thesaurus.proofs.sums.parts_in_turn.Goals as goal

pub give-requires-clause-below : goal.give-requires-clause-below
give-requires-clause-below c = group_below _ c.args.words (length c.deref_mut.result.now) c.args.by_context.now c.of.result.now c.requires.below c.of.ensures.is (ap length c.deref_mut.ensures.value ∙ c.loop-one.invariant.count)
