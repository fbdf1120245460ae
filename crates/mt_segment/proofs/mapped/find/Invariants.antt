-- No mapper so far has the name.
use Rattle.mt_segment.proofs.Mappings.{HaveNot}
use Rattle.mt_segment.proofs.mapped.find.Given as goal

abbrev pub invariant-loop-at : goal.invariant-loop-at
invariant-loop-at g l = HaveNot g.M.Mapper.called l.mappers l.name l.at
