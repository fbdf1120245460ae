use Rattle.std.proofs.Common.{◌≡◌, ℕ, length, ap, sym, ◌∙◌, subst, arith}
use Rattle.mt_segment_spec.specs.Tables.{AreTables, AreTablesUnder, HaveParts, Tables}
use Rattle.mt_segment.specs.Joined.{AreJoined}
use Rattle.mt_segment.specs.Lists.{groups}
use Rattle.mt_segment.proofs.Parted.{joined_from, joined_at, lists_grouped, tokens_fit, put_together}
use Rattle.mt_segment.proofs.segment.Segment.of_tables.Goals as goal
use Rattle.mt_segment.proofs.segment.Segment.of_tables.Goals.{After-new-4, In_ok-attrs, After-len-kinds}

-- the parts are those of the tables' attributes
joined : (c : After-new-4) (t : Tables) → AreTablesUnder c.args.registry.now t → HaveParts t c.args.texts c.args.lexicons c.args.columns c.args.tables c.args.postings c.args.structs →
    AreJoined c.as_slice-2.result.now t.attrs c.new.result c.new-2.result c.new-3.result c.new-4.result
joined c t under parts =
    joined_at _ _ _ _ _ _ _ _ _ _ _ (joined_from _ _ _ _ _ _ _ _ under parts) (c.as_slice-2.ensures ∙ c.attrs.ensures) (c.new.ensures ∙ c.into_vec.ensures) (c.new-2.ensures ∙ c.into_vec-2.ensures) (c.new-3.ensures ∙ c.into_vec-3.ensures)
    (c.new-4.ensures ∙ c.into_vec-4.ensures)

pub inner_ends-requires : goal.inner_ends-requires
inner_ends-requires c =
    let (t, under, parts) = c.requires in
    omega (arith, tokens_fit c.args.registry.now t c.as_slice.result.now under (c.as_slice.ensures ∙ parts.texts_are))

pub join-requires : goal.join-requires
join-requires c =
    let (t, under, parts) = c.requires in
    (t.attrs, joined (goal.at.join-requires c).After-new-4 t under parts)

-- what the segment is made of are the tables
made : (c : In_ok-attrs) (t : Tables) → AreTablesUnder c.args.registry.now t → HaveParts t c.args.texts c.args.lexicons c.args.columns c.args.tables c.args.postings c.args.structs →
    AreJoined c.as_slice-2.result.now t.attrs c.new.result c.new-2.result c.new-3.result c.new-4.result → (kinds : ℕ) → kinds ≡ length c.args.registry.now.kinds →
    record { texts = c.args.texts; attrs = c.in_ok-attrs.attrs; structs = groups (length c.args.texts) kinds c.args.structs } ≡ t
made c t under parts joins kinds k =
    put_together t _ _ _ parts.texts_are (c.in_ok-attrs.ensures t.attrs joins) (lists_grouped c.args.registry.now t _ _ kinds under parts.texts_are parts.structs_are k).0

kinds_are : (c : After-len-kinds) → c.len-kinds.result ≡ length c.args.registry.now.kinds
kinds_are c = c.len-kinds.ensures ∙ ap length c.kinds.ensures

pub from_parts-requires-clause-tables : goal.from_parts-requires-clause-tables
from_parts-requires-clause-tables c =
    let (t, under, parts) = c.requires in
    let at = goal.at.from_parts-requires-clause-tables c in
    subst AreTables (sym (made at.In_ok-attrs t under parts (joined at.After-new-4 t under parts) c.len-kinds.result (kinds_are c))) (record { registry = c.args.registry.now; under = under })

pub from_parts-requires-clause-structs : goal.from_parts-requires-clause-structs
from_parts-requires-clause-structs c =
    let (t, under, parts) = c.requires in
    (lists_grouped c.args.registry.now t _ _ c.len-kinds.result under parts.texts_are parts.structs_are (kinds_are c)).1

pub returns : goal.returns
returns c = λ t under parts.
    let at = goal.at.returns c in
    c.from_parts.ensures ∙ made at.In_ok-attrs t under parts (joined at.After-new-4 t under parts) c.len-kinds.result (kinds_are at.After-len-kinds)
