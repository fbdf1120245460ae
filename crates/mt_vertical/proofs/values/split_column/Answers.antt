use Rattle.std.proofs.Common.{◌∙◌, ◌∷◌, [], ap, sym}
use Rattle.mt_file_spec.specs.VerticalLines.{columns}
use Rattle.mt_vertical.proofs.values.split_column.Goals as goal
use Rattle.mt_vertical.proofs.Columns.{cut_at_tab, behind_tab, only_column}

pub range_from-requires : goal.range_from-requires
range_from-requires c = λ l. behind_tab c.args.text.now c.as_bytes.result.now c.in-Some.at c.as_bytes.ensures.value c.utf8.text c.in-Some.ensures.0 c.in-Some.ensures.1

pub returns-in-Some : goal.returns-in-Some
returns-in-Some c =
    cut_at_tab c.args.text.now c.as_bytes.result.now c.range.result.now c.range_from.result.now c.in-Some.at c.as_bytes.ensures.value c.in-Some.ensures.0 c.in-Some.ensures.1
    c.range.ensures.value c.range_from.ensures.value

pub returns-in-None : goal.returns-in-None
returns-in-None c = ap columns (sym c.as_bytes.ensures.value) ∙ only_column c.as_bytes.result.now c.in-None.ensures ∙ ap (λ t. t ∷ []) c.as_bytes.ensures.value
