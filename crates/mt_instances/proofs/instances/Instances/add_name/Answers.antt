use Rattle.std.proofs.Common.{ap, ◌∙◌}
use Rattle.mt_instances.specs.Named.{Named}
use Rattle.mt_instances.proofs.Growing.{instances-begins}
use Rattle.mt_instances.proofs.instances.Instances.add_name.Goals as goal

pub returns-clause-given : goal.returns-clause-given
returns-clause-given c = instances-begins c.self.inside.names c.add.new.self c.self.inside.entries.items c.add.ensures.begins c.self.invariant.named ∙ ap (λ (s : Named). s.given) c.self.view_is
