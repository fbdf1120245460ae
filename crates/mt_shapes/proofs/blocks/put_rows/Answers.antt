use Rattle.std.proofs.Common.{◌≡◌, ◌<◌, length, take, refl, ◌∙◌, arith}
use Rattle.std.proofs.lemmas.List.{get_or_read, length-set}
use Rattle.mt_shapes.specs.Blocks.{bare_rows}
use Rattle.mt_shapes.specs.Tables.{entry, none}
use Rattle.mt_shapes.proofs.Blocked.{at_end, bare_count, bit_low, put_entry}
use Rattle.mt_shapes.proofs.Listed.{no_rows}
use Rattle.mt_shapes.proofs.blocks.put_rows.Goals as goal

pub loop-entry-init : goal.loop-entry-init
loop-entry-init c = record { width = refl; near = omega arith; far = omega arith; put = no_rows c.args.entries.now c.args.text c.args.begin (length c.args.entries.now) (bare_rows _) }

pub loop-entry-preserved : goal.loop-entry-preserved
loop-entry-preserved c =
    let entries = c.args.entries.now in
    let n = c.loop-entry.entry-index in
    let h = c.loop-entry.invariant in
    let low : n < length entries = omega arith in
    let item : c.entry-item.result ≡ entry entries n = get_or_read entries n c.entry-item.result (omega arith) c.entry-item.is none in
    let free = c.requires.free in
    let width = h.width in
    let first = bare_count c.args.block.now c.args.before (omega (arith, free)) in
    let bit = bit_low c.has_row.result in
    record {
      width = length-set _ _ _ ∙ h.width;
      near = omega (arith, h.near);
      far = omega (arith, h.far, bit);
      put =
          put_entry c.args.last entries c.args.text c.args.begin n c.new.result c.loop-entry.count (bare_rows (take c.args.before c.args.block.now)) c.loop-entry.block c.requires.few c.requires.fine low c.requires.unlabelled
          (omega (arith, h.far, free, width, low)) (omega (arith, h.near, first)) (omega (arith, h.far, first)) h.put c.has_row.result c.entry-item.result item c.has_row.ensures.yes c.has_row.ensures.no (at_end c.new.result c.args.text c.args.begin c.entry-item.result.shape.length c.new.ensures);
    }
