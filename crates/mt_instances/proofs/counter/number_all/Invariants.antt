-- So many entries have the numbers of the counts.
use Rattle.mt_counts.proofs.Turning.{AreTurning}
use Rattle.mt_instances.specs.Counting.{AreReady}
use Rattle.mt_instances.specs.Gathered.{value_in}
use Rattle.mt_instances.specs.Numbered.{IsNumbered, Learns}
use Rattle.mt_instances.proofs.counter.number_all.Given as goal

abbrev pub invariant-loop-k : goal.invariant-loop-k
invariant-loop-k l = record {
  ready : AreReady l.instances.names l.words.lexicon.now l.counter;
  learns : Learns l.fn.counter.noted l.counter.noted;
  turning : AreTurning (IsNumbered l.counter.noted l.instances.names (value_in l.words.lexicon.now l.words.numbers.now)) l.fn.entries l.entries l.k;
}
