-- So many texts have their numbers.
use Rattle.mt_counts.proofs.Numbering.{IsAdding}
use Rattle.mt_counts.proofs.names.Names.add_each.Given as goal

abbrev pub invariant-loop-k : goal.invariant-loop-k
invariant-loop-k l = IsAdding l.texts l.fn.self l.self l.numbers.items l.k
