use Rattle.std.proofs.Common.{map}
use Rattle.mt_base.proofs.Names.{NoneBefore}
use Rattle.mt_base.proofs.registry.place_of.Given as goal

abbrev pub invariant-loop-at : goal.invariant-loop-at
invariant-loop-at g l = NoneBefore (map g.T.Named.called l.items) l.name l.at
