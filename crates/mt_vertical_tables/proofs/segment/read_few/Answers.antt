use Rattle.std.proofs.Common.{◌≡◌, ◌∙◌, ℕ, length, ap, ap₂, sym, subst}
use Rattle.std.specs.Str.Lines.{lines}
use Rattle.mt_text_spec.specs.Texts.{Text, ValidText}
use Rattle.mt_file_spec.specs.Vertical.{Vertical}
use Rattle.mt_vertical_tables.specs.Columns.{AreTokenColumns}
use Rattle.mt_vertical_tables.specs.Joined.{AreTablesOfVertical}
use Rattle.mt_vertical_tables.specs.Outlines.{kind_by_kind}
use Rattle.mt_vertical_tables.proofs.Tables.{count_all, tables_of_read, vertical_of_read}
use Rattle.mt_vertical_tables.proofs.segment.read_few.Goals as goal
use Rattle.mt_vertical_tables.proofs.segment.read_few.Goals.{After-len-2}

pub row_columns-requires-clause-columns : goal.row_columns-requires-clause-columns
row_columns-requires-clause-columns c = c.in_ok-text.ensures.columns ∙ count_all c.args.registry.now.attrs c.requires.bases ∙ sym (c.len.ensures ∙ ap length c.attrs.ensures)

abbrev text_of : After-len-2 → Text
text_of c = record { name = c.args.name.now; tokens = c.in_ok-text.text.rows.tokens; structs = c.in_ok-text.text.structs.items }

read : (c : After-len-2) → Vertical c.args.registry.now c.args.name.now c.args.bytes.now (text_of c)
read c = c.in_ok-text.ensures.ok c.args.name.now c.args.bytes.now (ap lines (sym c.in_ok-lines.ensures))

valid : (c : After-len-2) → ValidText c.args.registry.now (text_of c)
valid c = c.valid_texts.ensures c.args.registry.now c.args.name.now c.args.bytes.now (text_of c) c.requires.name (read c)

columns : (c : After-len-2) → AreTokenColumns c.in_ok-text.text.rows.tokens (length c.args.registry.now.attrs) c.in_ok-columns.columns.items
columns c = subst (λ (n : ℕ). AreTokenColumns c.in_ok-text.text.rows.tokens n c.in_ok-columns.columns.items) (c.len.ensures ∙ ap length c.attrs.ensures) c.in_ok-columns.ensures

instances : (c : After-len-2) → c.in_ok-structs.structs ≡ kind_by_kind (length c.args.registry.now.kinds) c.in_ok-text.text.structs.items
instances c = c.in_ok-structs.ensures ∙ ap₂ kind_by_kind (c.len-kinds.ensures ∙ ap length c.kinds.ensures) c.as_slice.ensures.value

pub of_columns-requires : goal.of_columns-requires
of_columns-requires c =
    tables_of_read c.args.registry.now c.args.name.now c.args.bytes.now (text_of c) c.len-2.result c.in_ok-structs.structs c.in_ok-columns.columns.items c.requires.bases (read c) c.len-2.ensures (columns c) (instances c)
    c.requires.registry (valid c)

pub returns : goal.returns
returns c =
    let s = (goal.at.returns c).After-len-2 in
    subst (AreTablesOfVertical c.args.registry.now c.args.name.now c.args.bytes.now) (sym c.in_ok-segment.ensures)
    (vertical_of_read c.args.registry.now c.args.name.now c.args.bytes.now (text_of s) c.len-2.result c.in_ok-structs.structs c.in_ok-columns.columns.items c.requires.bases (read s) c.len-2.ensures (columns s) (instances s) (valid s))
