-- The lines of the words before this one are written.
use Rattle.std.proofs.Common.{take}
use Rattle.mt_sketch.specs.Told.{AppendsEach, IsLineOf}
use Rattle.mt_sketch.proofs.lines.put_words.Given as goal

abbrev pub invariant-loop-word : goal.invariant-loop-word
invariant-loop-word l = AppendsEach IsLineOf (take l.word-index l.word-items) l.initial.out l.out
