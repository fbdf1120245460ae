-- The values so far have their images, one call each.
use Rattle.std.proofs.Common.{◌≡◌, map, take}
use Rattle.mt_mapper.specs.Calls.{counted}
use Rattle.mt_mapper.proofs.mapping.images.Given as goal

abbrev pub invariant-loop-value : goal.invariant-loop-value
invariant-loop-value g l =
    let m = g.M.Mapper in
    record {
      image : m.image l.mapper ≡ m.image l.fn.mapper;
      called : m.called l.mapper ≡ m.called l.fn.mapper;
      calls : m.calls l.mapper ≡ counted (m.calls l.fn.mapper) l.value-index;
      images : l.all ≡ map (m.image l.fn.mapper) (take l.value-index l.value-items);
    }
