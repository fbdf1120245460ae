use Rattle.mt_instances.proofs.Emptied.{none_collected}
use Rattle.mt_instances.proofs.collector.Collector.reusing.Goals as goal

pub invariant_of-result : goal.invariant_of-result
invariant_of-result c = none_collected c.args.lexicon.now c.clear.new.self.items c.clear-2.new.self c.clear-3.new.self c.clear.ensures.items c.clear-2.ensures.given c.clear-2.ensures.fills c.clear-3.ensures.names c.clear-3.ensures.words
