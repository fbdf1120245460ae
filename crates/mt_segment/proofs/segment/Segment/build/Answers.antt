use Rattle.std.proofs.Common.{◌≡◌, map, length, ◌∙◌, ap}
use Rattle.std.proofs.lemmas.List.{with_items_is}
use Rattle.mt_segment_spec.specs.Tables.{AreTablesOf, Tables}
use Rattle.mt_segment.specs.Building.{AreAllMapped}
use Rattle.mt_segment.specs.Lists.{groups}
use Rattle.mt_segment.specs.Mappers.{AreCalled, calls_due, image_by, named}
use Rattle.mt_segment.proofs.Assembled.{AreFirst, are_first, all_made, many_lists}
use Rattle.mt_segment.proofs.Calls.{are_called_then, are_called_until}
use Rattle.mt_segment.proofs.Due.{called_by_tables}
use Rattle.mt_segment.proofs.segment.Segment.build.Given as given
use Rattle.mt_segment.proofs.segment.Segment.build.Goals as goal
use Rattle.mt_segment.proofs.segment.Segment.build.Goals.{After-as_mut_slice, After-map_all, After-from_vec}

-- the tables of the base attributes are made
first : (g : given.Over) (c : After-as_mut_slice g) → AreFirst c.args.registry.now c.args.texts.now c.as_mut_slice.result.now
first g c =
    are_first _ _ _ c.in_ok-tables.tables.items _ c.requires.registry c.requires.texts.short (c.as_slice-attrs.ensures ∙ c.attrs.ensures) c.as_mut_slice.ensures.value c.in_ok-tables.ensures

-- the mappers were called for the others, so often by any tables of the texts
calls : (g : given.Over) (c : After-map_all g) → AreFirst c.args.registry.now c.args.texts.now c.as_mut_slice.result.now →
    (t : Tables) → AreTablesOf (image_by (named g.M.Mapper.called g.M.Mapper.image c.args.mappers.now)) c.args.registry.now c.args.texts.now t →
    AreCalled (calls_due (map g.M.Mapper.called c.args.mappers.now) t.attrs c.args.registry.now.attrs) (map g.M.Mapper.calls c.args.mappers.now) (map g.M.Mapper.calls c.map_all.new.mappers) c.map_all.result
calls g c is_first t are = called_by_tables c.have_one_lexicon.ensures _ _ _ _ t is_first are (map g.M.Mapper.called c.args.mappers.now) _ _ c.map_all.result (rw (c.as_slice-attrs.ensures ∙ c.attrs.ensures) at c.map_all.ensures.calls)

-- and all tables are those of the texts
tables_made : (g : given.Over) → After-from_vec g → Tables
tables_made g c = record { texts = c.in_ok-heads.heads; attrs = c.from_vec.result; structs = groups (length c.in_ok-heads.heads) c.len-kinds.result c.in_ok-structs.structs }

kinds : (g : given.Over) (c : After-from_vec g) → c.len-kinds.result ≡ length c.args.registry.now.kinds
kinds g c = c.len-kinds.ensures ∙ ap length c.kinds.ensures

are : (g : given.Over) (c : After-from_vec g) → AreFirst c.args.registry.now c.args.texts.now c.as_mut_slice.result.now →
    AreTablesOf (image_by (named g.M.Mapper.called g.M.Mapper.image c.args.mappers.now)) c.args.registry.now c.args.texts.now (tables_made g c)
unfolding tables_made
are g c is_first = rw (kinds g c) (all_made _ _ _ _ _ is_first mapped _ _ c.in_ok-heads.ensures (rw (kinds g c) at c.in_ok-structs.ensures))
  where
    mapped : AreAllMapped (image_by (named g.M.Mapper.called g.M.Mapper.image c.args.mappers.now)) c.args.registry.now.attrs c.as_mut_slice.result.now c.from_vec.result (length c.args.registry.now.attrs)
    mapped =
        rw (c.from_vec.ensures, with_items_is c.in_ok-tables.tables c.map_all.new.tables (c.in_ok-map_all.ensures.length ∙ c.as_mut_slice.ensures.len))
        (rw (c.as_slice-attrs.ensures ∙ c.attrs.ensures) at c.in_ok-map_all.ensures.tables)

pub map_all-requires-clause-bases : goal.map_all-requires-clause-bases
map_all-requires-clause-bases g c κs within =
    rw (c.as_slice-attrs.ensures, c.attrs.ensures) ((first g (goal.at.map_all-requires-clause-bases g c).After-as_mut_slice).bases)

pub map_all-requires-clause-there : goal.map_all-requires-clause-there
map_all-requires-clause-there g c κs within = rw (c.as_slice-attrs.ensures, c.attrs.ensures) c.requires.mappers

pub from_parts-requires-clause-tables : goal.from_parts-requires-clause-tables
unfolding tables_made
from_parts-requires-clause-tables g c = record {
  registry = c.args.registry.now;
  under = record {
    images = _;
    by = record { valid = c.requires.registry; corpus = c.args.texts.now; texts = c.requires.texts; some = c.requires.some; are = are g c (first g (goal.at.from_parts-requires-clause-tables g c).After-as_mut_slice) };
  };
}

pub from_parts-requires-clause-structs : goal.from_parts-requires-clause-structs
from_parts-requires-clause-structs g c = rw (kinds g c) (many_lists c.args.registry.now c.args.texts.now _ _ c.in_ok-heads.ensures (rw (kinds g c) at c.in_ok-structs.ensures))

pub returns-clause-tables : goal.returns-clause-tables
unfolding tables_made
returns-clause-tables g c =
    let at = goal.at.returns-clause-tables g c in
    rw c.from_parts.ensures (are g at.After-from_vec (first g at.After-as_mut_slice))

pub returns-clause-calls : goal.returns-clause-calls
returns-clause-calls g c = λ t its.
    let at = goal.at.returns-clause-calls g c in
    are_called_then _ _ _ c.map_all.result c.in_ok-map_all.field-0 _ c.in_ok-map_all.was (calls g at.After-map_all (first g at.After-as_mut_slice) t its)

pub returns-in_err-map_all-clause-calls : goal.returns-in_err-map_all-clause-calls
returns-in_err-map_all-clause-calls g c = λ t its.
    let at = goal.at.returns-in_err-map_all-clause-calls g c in
    are_called_until _ _ _ c.map_all.result c.in_err-map_all.field-0.0 c.from_residual-in_err-map_all.result c.in_err-map_all.was c.from_residual-in_err-map_all.ensures.0 (calls g at.After-map_all (first g at.After-as_mut_slice) t its)

pub returns-in_err-structs-clause-calls : goal.returns-in_err-structs-clause-calls
returns-in_err-structs-clause-calls g c = λ t its.
    let at = goal.at.returns-in_err-structs-clause-calls g c in
    are_called_then _ _ _ c.map_all.result c.in_ok-map_all.field-0 c.from_residual-in_err-structs.result c.in_ok-map_all.was (calls g at.After-map_all (first g at.After-as_mut_slice) t its)
