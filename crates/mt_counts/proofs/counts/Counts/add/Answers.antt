use Rattle.mt_counts.proofs.counts.Counts.add.Goals as goal

pub invariant_of-self : goal.invariant_of-self
invariant_of-self c = rw c.make_room.ensures c.self.invariant

pub add_all-added-requires-clause-inside : goal.add_all-added-requires-clause-inside
add_all-added-requires-clause-inside c = rw c.make_room.ensures c.self.invariant
