use Rattle.std.proofs.Common.{◌≡◌, ap, sym, subst}
use Rattle.std.specs.Str.Lines.{lines}
use Rattle.mt_file_spec.specs.Vertical.{text_lines}
use Rattle.mt_vertical_tables.specs.Joined.{AreTablesOfVertical}
use Rattle.mt_vertical_tables.proofs.Tables.{are_some, are_of_vertical}
use Rattle.mt_vertical_tables.proofs.segment.read_segment.Goals as goal

pub of_columns-requires : goal.of_columns-requires
of_columns-requires g c =
    let name = c.args.name.now in
    let bytes = c.args.bytes.now in
    let same : text_lines bytes ≡ lines c.in_ok-text.text.now = ap lines (sym c.in_ok-text.ensures) in
    are_some c.args.registry.now name bytes (lines c.in_ok-text.text.now) c.in_ok-outline.outline.tokens c.in_ok-outline.outline.structs c.in_ok-outline.columns.items c.requires.bases same (c.in_ok-outline.ensures.outline name bytes same)
    c.in_ok-outline.ensures.columns c.requires.registry (λ text v. c.valid_texts.ensures c.args.registry.now name bytes text c.requires.name v)

pub returns : goal.returns
returns g c =
    let same : text_lines c.args.bytes.now ≡ lines c.in_ok-text.text.now = ap lines (sym c.in_ok-text.ensures) in
    subst (AreTablesOfVertical c.args.registry.now c.args.name.now c.args.bytes.now) (sym c.in_ok-segment.ensures)
    (are_of_vertical c.args.registry.now c.args.name.now c.args.bytes.now (lines c.in_ok-text.text.now) c.in_ok-outline.outline.tokens c.in_ok-outline.outline.structs c.in_ok-outline.columns.items c.requires.bases same (c.in_ok-outline.ensures.outline c.args.name.now c.args.bytes.now same)
    c.in_ok-outline.ensures.columns c.requires.registry (λ text v. c.valid_texts.ensures c.args.registry.now c.args.name.now c.args.bytes.now text c.requires.name v))
