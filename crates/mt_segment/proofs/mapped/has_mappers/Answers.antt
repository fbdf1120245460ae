use Rattle.std.proofs.Common.{map, ◌∙◌}
use Rattle.mt_segment.specs.Mappers.{IsThere}
use Rattle.mt_segment.proofs.Mappings.{one_fails, one_passes, all_pass}
use Rattle.mt_segment.proofs.mapped.has_mappers.Goals as goal

pub returns-then-not-has_mapper : goal.returns-then-not-has_mapper
returns-then-not-has_mapper g c =
    one_fails (IsThere (map g.M.Mapper.called c.args.mappers.now)) c.args.registry.now.attrs c.as_slice-attr-items.result.now (c.as_slice-attr-items.ensures ∙ c.attrs.ensures) c.loop-attr.attr-index c.attr-item.result c.has_mapper.result
    c.loop-attr-test.true c.attr-item.is c.has_mapper.ensures.1 c.if-not-has_mapper.true

pub loop-attr-preserved : goal.loop-attr-preserved
loop-attr-preserved g c =
    one_passes (IsThere (map g.M.Mapper.called c.args.mappers.now)) c.args.registry.now.attrs c.as_slice-attr-items.result.now (c.as_slice-attr-items.ensures ∙ c.attrs.ensures) c.loop-attr.attr-index c.attr-item.result
    c.loop-attr-test.true c.attr-item.is c.loop-attr.invariant (c.has_mapper.ensures.0 c.if-not-has_mapper.false)

pub returns : goal.returns
returns g c =
    all_pass (IsThere (map g.M.Mapper.called c.args.mappers.now)) c.args.registry.now.attrs c.as_slice-attr-items.result.now (c.as_slice-attr-items.ensures ∙ c.attrs.ensures) c.loop-attr.attr-index c.loop-attr-test.false c.loop-attr.invariant
