use Rattle.std.proofs.Common.{length}
use Rattle.mt_instances.specs.Entries.{instance_of}
use Rattle.mt_instances.proofs.Mapped.{instances_once, mapped_same, named_same}
use Rattle.mt_instances.proofs.Rising.{kept_unsorted}
use Rattle.mt_instances.proofs.instances.Instances.settle.Goals as goal

pub invariant_of-self : goal.invariant_of-self
invariant_of-self c =
    let inside = c.self.inside in
    let entries = c.keep_distinct.new.entries.items in
    kept_unsorted (length inside.names) entries inside.ranks inside.rising c.if-self.false (named_same (length inside.names) inside.entries.items entries c.keep_distinct.ensures.same c.self.invariant.named)

pub returns-then-self-clause-once : goal.returns-then-self-clause-once
returns-then-self-clause-once c =
    let inside = c.self.inside in
    rw (← c.self.view_is) (instances_once inside.names inside.entries.items c.len.ensures.distinct c.self.invariant.named (c.self.invariant.risen c.if-self.true).once)

pub returns-clause-once : goal.returns-clause-once
returns-clause-once c =
    instances_once c.self.inside.names c.keep_distinct.new.entries.items c.len.ensures.distinct (named_same (length c.self.inside.names) c.self.inside.entries.items c.keep_distinct.new.entries.items c.keep_distinct.ensures.same c.self.invariant.named) c.keep_distinct.ensures.once

pub returns-clause-same : goal.returns-clause-same
returns-clause-same c = rw (← c.self.view_is) (mapped_same (instance_of c.self.inside.names) c.self.inside.entries.items c.keep_distinct.new.entries.items c.keep_distinct.ensures.same)
