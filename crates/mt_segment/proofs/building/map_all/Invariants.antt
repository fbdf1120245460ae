-- The mapped attributes so far have their tables, and their mappers were called for them.
use Rattle.std.proofs.Common.{◌≡◌, map, take}
use Rattle.mt_segment.specs.Building.{AreAllMapped}
use Rattle.mt_segment.specs.Mappers.{calls_due, image_by, named}
use Rattle.mt_segment.proofs.Calls.{AreCounted}
use Rattle.mt_segment.proofs.building.map_all.Given as goal

abbrev pub invariant-loop-number : goal.invariant-loop-number
invariant-loop-number g l =
    let m = g.M.Mapper in
    record {
      same : named m.called m.image l.mappers ≡ named m.called m.image l.fn.mappers;
      tables : AreAllMapped (image_by (named m.called m.image l.fn.mappers)) l.attrs l.fn.tables l.tables l.number;
      calls : AreCounted (calls_due (map m.called l.fn.mappers) l.fn.tables (take l.number l.attrs)) (map m.calls l.fn.mappers) (map m.calls l.mappers);
    }
