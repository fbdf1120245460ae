use Rattle.std.proofs.Common.{ℕ, List, subst}
use Rattle.mt_instances.specs.Gathered.{AreGathered}
use Rattle.mt_instances.proofs.Tallying.{ready-begins}
use Rattle.mt_instances.proofs.collector.Collector.add_rows.Goals as goal

pub invariant_of-self : goal.invariant_of-self
invariant_of-self c = record {
  gathered_is = subst (λ (numbers : List ℕ). AreGathered c.self.inside.lexicon.now numbers c.add_rows.new.gathered) c.as_slice.ensures.value c.add_rows.ensures.gathered;
  ready = ready-begins c.self.inside.gathered.instances.names c.add_rows.new.gathered.instances.names c.self.inside.lexicon.now c.self.inside.counter c.add_rows.ensures.names c.self.invariant.ready;
}
