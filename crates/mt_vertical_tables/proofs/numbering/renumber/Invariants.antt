-- The numbers before the index are renumbered, and those from it on are as they were.
use Rattle.std.proofs.Common.{slice_index}
use Rattle.mt_segment.proofs.Renumbered.{ChangesUpTo}
use Rattle.mt_vertical_tables.proofs.numbering.renumber.Given as goal

abbrev pub invariant-loop-number : goal.invariant-loop-number
invariant-loop-number l = ChangesUpTo (λ n. slice_index l.next n) l.numbers l.initial.numbers l.number-index
