use Rattle.std.proofs.Common.{◌≡◌, ◌+◌, ◌-◌, ◌/◌, ◌∙◌, ap, sym, arith}
use Rattle.std.proofs.lemmas.List.{get_or_read}
use Rattle.mt_shapes.specs.declared.table.Entry.{Entry}
use Rattle.mt_shapes.specs.Tables.{entry, none}
use Rattle.mt_shapes.specs.Shapes.{shape_cmp}
use Rattle.mt_shapes.proofs.Tabled.{same_shape, all_below, all_above}
use Rattle.mt_shapes.proofs.table.find.Goals as goal

pub returns-in-Equal : goal.returns-in-Equal
returns-in-Equal c =
    let entries = c.args.entries.now in
    let middle = c.loop-low.low + (c.loop-low.high - c.loop-low.low) / 2 in
    let item : c.index-entries-middle.result ≡ entry entries middle = get_or_read entries middle c.index-entries-middle.result (omega arith) c.index-entries-middle.is none in
    record {
      found = (omega arith, same_shape (entry entries middle).shape c.args.shape.now (ap (λ (x : Entry). shape_cmp x.shape c.args.shape.now) (sym item ∙ c.index-entries-middle.is) ∙ sym c.in-Equal.ensures));
      none = tt;
    }

pub loop-low-preserved-in-Less : goal.loop-low-preserved-in-Less
loop-low-preserved-in-Less c =
    let entries = c.args.entries.now in
    let middle = c.loop-low.low + (c.loop-low.high - c.loop-low.low) / 2 in
    let item : c.index-entries-middle.result ≡ entry entries middle = get_or_read entries middle c.index-entries-middle.result (omega arith) c.index-entries-middle.is none in
    record {
      order = omega arith;
      within = omega arith;
      below = all_below entries c.args.shape.now middle c.requires (omega arith) (ap (λ (x : Entry). shape_cmp x.shape c.args.shape.now) (sym item ∙ c.index-entries-middle.is) ∙ sym c.in-Less.ensures);
      above = c.loop-low.invariant.above;
    }

pub loop-low-preserved : goal.loop-low-preserved
loop-low-preserved c =
    let entries = c.args.entries.now in
    let middle = c.loop-low.low + (c.loop-low.high - c.loop-low.low) / 2 in
    let item : c.index-entries-middle.result ≡ entry entries middle = get_or_read entries middle c.index-entries-middle.result (omega arith) c.index-entries-middle.is none in
    record {
      order = omega arith;
      within = omega arith;
      below = c.loop-low.invariant.below;
      above = all_above entries c.args.shape.now middle c.requires (ap (λ (x : Entry). shape_cmp x.shape c.args.shape.now) (sym item ∙ c.index-entries-middle.is) ∙ sym c.in-Greater.ensures);
    }
