use Rattle.std.proofs.Common.{◌≡◌, map, sym, ◌∙◌, subst}
use Rattle.std.proofs.lemmas.List.{take_all}
use Rattle.mt_segment.proofs.Assembled.{all_mapped_more}
use Rattle.mt_segment.proofs.Calls.{AreCounted, all_called, are_counted}
use Rattle.mt_segment.proofs.Due.{calls_more, calls_part}
use Rattle.mt_segment.specs.Mappers.{calls_due}
use Rattle.mt_segment.proofs.Mappings.{same_names}
use Rattle.mt_segment.proofs.building.map_all.Given as given
use Rattle.mt_segment.proofs.building.map_all.Goals as goal
use Rattle.mt_segment.proofs.building.map_all.Goals.{After-index-attrs-number}

-- the mappers have their names still
names : (g : given.Over) (c : After-index-attrs-number g) → map g.M.Mapper.called c.loop-number.mappers ≡ map g.M.Mapper.called c.args.mappers.now
names g c = same_names g.M.Mapper.called g.M.Mapper.image _ _ c.loop-number.invariant.same

pub map_attr-requires-clause-there : goal.map_attr-requires-clause-there
map_attr-requires-clause-there g c κs within =
    rw (names g (goal.at.map_attr-requires-clause-there g c).After-index-attrs-number)
    (rw (sym c.index-attrs-number.is) at (c.requires.there c.loop-number.number c.index-attrs-number.result c.loop-number-test.true))

pub loop-number-preserved : goal.loop-number-preserved
loop-number-preserved g c = record {
  same = c.in_ok-map_attr.ensures.same ∙ c.loop-number.invariant.same;
  tables = all_mapped_more _ _ _ _ _ _ c.loop-number.invariant.tables c.loop-number-test.true c.requires.count c.index-attrs-number.is c.requires.bases _
      (rw c.loop-number.invariant.same at c.in_ok-map_attr.ensures.tables);
  calls = calls_more _ _ _ _ _ _ c.loop-number.invariant.tables c.loop-number-test.true c.requires.count c.index-attrs-number.is c.requires.bases _ _ _ _ c.loop-number.invariant.calls
      (are_counted _ _ _ c.map_attr.result c.in_ok-map_attr.field-0 c.in_ok-map_attr.was (rw (names g (goal.at.loop-number-preserved g c).After-index-attrs-number) at c.map_attr.ensures.calls));
}

pub returns-in_err-map_attr-clause-calls : goal.returns-in_err-map_attr-clause-calls
returns-in_err-map_attr-clause-calls g c =
    calls_part _ _ _ _ _ _ c.loop-number.invariant.tables c.loop-number-test.true c.requires.count c.index-attrs-number.is c.requires.bases _ _ _ _ c.map_attr.result c.in_err-map_attr.field-0.0 c.from_residual.result c.in_err-map_attr.was c.from_residual.ensures.0
    c.loop-number.invariant.calls (rw (names g (goal.at.returns-in_err-map_attr-clause-calls g c).After-index-attrs-number) at c.map_attr.ensures.calls)

pub returns-clause-calls : goal.returns-clause-calls
returns-clause-calls g c =
    all_called _ _ _ _ (subst (λ attrs. AreCounted (calls_due (map g.M.Mapper.called c.args.mappers.now) c.args.tables.now attrs) (map g.M.Mapper.calls c.args.mappers.now) (map g.M.Mapper.calls c.loop-number.mappers)) (take_all c.loop-number.number c.args.attrs.now c.loop-number-test.false) c.loop-number.invariant.calls)
