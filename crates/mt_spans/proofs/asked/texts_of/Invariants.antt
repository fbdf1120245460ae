-- The texts so far are before the next one.
use Rattle.std.proofs.Common.{length}
use Rattle.mt_spans.proofs.Ascending.{AreBefore}
use Rattle.mt_spans.proofs.asked.texts_of.Given as goal

abbrev pub invariant-loop-text : goal.invariant-loop-text
invariant-loop-text l = AreBefore (length l.segment.texts) l.text-counter l.texts
