use Rattle.mt_instances.proofs.Lines.{text_counted}
use Rattle.mt_instances.proofs.laws.text_is_counted.Goals as goal

pub returns : goal.returns
returns c = text_counted c.instances_are_counted.ensures c.sums_are_counts.ensures
