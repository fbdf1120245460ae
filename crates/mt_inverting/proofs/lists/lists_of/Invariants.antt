-- The lists are those of the numbers so far.
use Rattle.mt_inverting.specs.Blocks.{AreListsOf}
use Rattle.mt_inverting.proofs.lists.lists_of.Given as goal

abbrev pub invariant-loop-number : goal.invariant-loop-number
invariant-loop-number l = AreListsOf l.blocks.numbers l.from l.number l.lists
