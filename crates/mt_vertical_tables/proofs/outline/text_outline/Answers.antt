use Rattle.std.proofs.Common.{◌∙◌, ap, ap₂, length}
use Rattle.mt_vertical_tables.specs.Outlines.{kind_by_kind}
use Rattle.mt_vertical_tables.proofs.outline.text_outline.Goals as goal

pub returns : goal.returns
returns c = λ name bytes e.
    let read = c.in_ok-text.ensures.ok name bytes e in
    record {
      text = read.text;
      read = read.read;
      count = read.count;
      instances = c.in_ok-structs.ensures ∙ ap₂ kind_by_kind (c.len-kinds.ensures ∙ ap length c.kinds.ensures) (c.as_slice.ensures.value ∙ read.instances);
    }
