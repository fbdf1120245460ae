-- The renumberings before the index have gone on, and those from it on are as they were.
use Rattle.mt_lexicon.specs.Joins.{renumbered}
use Rattle.mt_lexicon.proofs.Renumbered.{ChangesUpTo}
use Rattle.mt_lexicon.proofs.merger.renumber_all.Given as goal

abbrev pub invariant-loop-numbers : goal.invariant-loop-numbers
invariant-loop-numbers l = ChangesUpTo (renumbered l.next) l.all l.initial.all l.numbers-index
