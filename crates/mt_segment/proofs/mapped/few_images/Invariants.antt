-- The values so far have their images, one call each.
use Rattle.std.proofs.Common.{◌≡◌, map, take}
use Rattle.mt_mapper.specs.Calls.{counted}
use Rattle.mt_segment.proofs.mapped.few_images.Given as goal

abbrev pub invariant-loop-id : goal.invariant-loop-id
invariant-loop-id g l =
    let m = g.M.Mapper in
    record {
      image : m.image l.mapper ≡ m.image l.fn.mapper;
      called : m.called l.mapper ≡ m.called l.fn.mapper;
      calls : m.calls l.mapper ≡ counted (m.calls l.fn.mapper) l.id;
      images : l.kept ≡ map (m.image l.fn.mapper) (take l.id l.lexicon);
    }
