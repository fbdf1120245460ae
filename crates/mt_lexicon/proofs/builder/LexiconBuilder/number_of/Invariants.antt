-- The value is at no place from `below` on.
use Rattle.mt_lexicon.proofs.Sought.{IsSought}
use Rattle.mt_lexicon.proofs.builder.LexiconBuilder.number_of.Given as goal

abbrev pub invariant-loop-below : goal.invariant-loop-below
invariant-loop-below l = IsSought l.self-inside.seen l.self-inside.table.0 l.value l.below

abbrev pub decreases-loop-below : goal.decreases-loop-below
decreases-loop-below l = l.below
