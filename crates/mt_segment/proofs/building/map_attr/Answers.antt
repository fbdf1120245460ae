use Rattle.std.proofs.Common.{map, sym, ◌∙◌, subst}
use Rattle.std.specs.List.{Contains}
use Rattle.mt_segment.proofs.Calls.{are_called_then, are_called_until}
use Rattle.mt_segment.proofs.Due.{mapped_due}
use Rattle.mt_segment.proofs.building.map_attr.Goals as goal

pub bounds-tables-base : goal.bounds-tables-base
bounds-tables-base g c = (c.requires.base c.in-Some.base (sym c.in-Some.ensures)).0

pub map_by_name-requires-clause-there : goal.map_by_name-requires-clause-there
map_by_name-requires-clause-there g c κs within =
    subst (Contains (map g.M.Mapper.called c.args.mappers.now)) (sym (c.as_str.ensures ∙ c.mapper.ensures)) (c.requires.there c.in-Some.base (sym c.in-Some.ensures))

pub returns-in_err-made-clause-calls : goal.returns-in_err-made-clause-calls
returns-in_err-made-clause-calls g c =
    let low = (c.requires.base c.in-Some.base (sym c.in-Some.ensures)).0 in
    are_called_until _ _ _ c.map_by_name.result c.in_err-made.field-0.0 c.from_residual.result c.in_err-made.was c.from_residual.ensures.0
    (mapped_due (map g.M.Mapper.called c.args.mappers.now) c.args.tables.now c.args.attr.now.mapper c.as_str.result.now c.in-Some.base c.args.attr.now.base c.index-tables-base.result (map g.M.Mapper.calls c.args.mappers.now) (map g.M.Mapper.calls c.map_by_name.new.mappers) c.map_by_name.result (sym c.in-Some.ensures) low
    (c.as_str.ensures ∙ c.mapper.ensures) c.map_by_name.ensures.calls)

pub returns-clause-calls : goal.returns-clause-calls
returns-clause-calls g c =
    let low = (c.requires.base c.in-Some.base (sym c.in-Some.ensures)).0 in
    are_called_then _ _ _ c.map_by_name.result c.in_ok-made.made _ c.in_ok-made.was
    (mapped_due (map g.M.Mapper.called c.args.mappers.now) c.args.tables.now c.args.attr.now.mapper c.as_str.result.now c.in-Some.base c.args.attr.now.base c.index-tables-base.result (map g.M.Mapper.calls c.args.mappers.now) (map g.M.Mapper.calls c.map_by_name.new.mappers) c.map_by_name.result (sym c.in-Some.ensures) low
    (c.as_str.ensures ∙ c.mapper.ensures) c.map_by_name.ensures.calls)
