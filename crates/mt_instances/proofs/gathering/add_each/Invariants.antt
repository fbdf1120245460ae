-- So many rows are added.
use Rattle.mt_instances.proofs.Adding.{AreAdded}
use Rattle.mt_instances.proofs.gathering.add_each.Given as goal

abbrev pub invariant-loop-k : goal.invariant-loop-k
invariant-loop-k l = AreAdded l.words.lexicon.now l.words.numbers.now l.heading l.rows l.fn.gathered l.gathered l.k
