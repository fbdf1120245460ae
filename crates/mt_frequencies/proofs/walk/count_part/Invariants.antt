-- The span is counted for the numbers at the places so far.
use Rattle.mt_frequencies.specs.Numbers.{number_in}
use Rattle.mt_frequencies.specs.Seen.{AreAlmostPast, ArePart}
use Rattle.mt_frequencies.proofs.walk.count_part.Given as goal

abbrev pub invariant-loop-place : goal.invariant-loop-place
invariant-loop-place g l = record {
  past : AreAlmostPast l.span l.seen;
  part : ArePart (number_in l.numbers) l.from l.place l.span l.fn.seen l.seen;
}
