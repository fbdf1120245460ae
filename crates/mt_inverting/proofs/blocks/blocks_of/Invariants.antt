-- The blocks are those of the runs so far.
use Rattle.mt_inverting.specs.Blocks.{AreBlocksOf}
use Rattle.mt_inverting.proofs.blocks.blocks_of.Given as goal

abbrev pub invariant-loop-number : goal.invariant-loop-number
invariant-loop-number l = AreBlocksOf l.column l.count l.from l.number l.blocks
