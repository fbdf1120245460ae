use Rattle.mt_segment.proofs.Mappings.{image_is, one_called, same_named}
use Rattle.mt_segment.proofs.mapped.map_by_name.Goals as goal

pub returns-clause-tables : goal.returns-clause-tables
returns-clause-tables g c =
    let m = g.M.Mapper in
    rw (image_is m.called m.image c.args.mappers.now c.args.name.now c.in-Some.at c.index-mappers-at.result c.in-Some.ensures.found c.in-Some.ensures.within) c.mapped_tables.ensures.tables

pub returns-clause-same : goal.returns-clause-same
returns-clause-same g c =
    same_named g.M.Mapper.called g.M.Mapper.image c.args.mappers.now c.in-Some.at c.index-mappers-at.result c.mapped_tables.new.mapper c.mapped_tables.ensures.called c.mapped_tables.ensures.image

pub returns-clause-calls : goal.returns-clause-calls
returns-clause-calls g c =
    one_called g.M.Mapper.calls c.args.mappers.now c.in-Some.at _ _ c.index-mappers-at.result c.mapped_tables.new.mapper c.mapped_tables.result c.in-Some.ensures.found c.in-Some.ensures.within c.mapped_tables.ensures.calls
