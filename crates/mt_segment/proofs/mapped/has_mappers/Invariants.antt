-- The attributes so far have their mappers.
use Rattle.std.proofs.Common.{map, take}
use Rattle.mt_segment.specs.Mappers.{AreThere}
use Rattle.mt_segment.proofs.mapped.has_mappers.Given as goal

abbrev pub invariant-loop-attr : goal.invariant-loop-attr
invariant-loop-attr g l = AreThere (map g.M.Mapper.called l.mappers) (take l.attr-index l.registry.attrs)
