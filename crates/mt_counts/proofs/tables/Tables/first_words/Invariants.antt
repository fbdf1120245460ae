-- The words with lower numbers are listed.
use Rattle.mt_counts.proofs.Ascending.{AreListed}
use Rattle.mt_counts.proofs.tables.Tables.first_words.Given as goal

abbrev pub invariant-loop-x : goal.invariant-loop-x
invariant-loop-x l = AreListed l.self l.x l.words
