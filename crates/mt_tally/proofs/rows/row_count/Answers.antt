use Rattle.std.proofs.Common.{◌≡◌, ◌+◌, length, refl, ap, arith}
use Rattle.std.proofs.lemmas.List.{get_or_read}
use Rattle.mt_shapes.specs.declared.table.Entry.{Entry}
use Rattle.mt_shapes.specs.Tables.{entry, none}
use Rattle.mt_tally.proofs.EntryRows.{no_rows, more_rows, all_rows, too_many}
use Rattle.mt_tally.proofs.rows.row_count.Goals as goal

pub loop-entry-init : goal.loop-entry-init
loop-entry-init c = record { counted = λ text. no_rows c.args.entries.now text; within = omega arith }

pub entry_count-more-requires : goal.entry_count-more-requires
entry_count-more-requires c =
    let entries = c.args.entries.now in
    let n = c.loop-entry.entry-index in
    let item : c.entry-item.result ≡ entry entries n = get_or_read entries n c.entry-item.result (omega arith) c.entry-item.is none in
    let wide = (c.requires.fine.suits n (omega arith)).width in
    let same = ap (λ (e : Entry). length e.begins) item in
    omega (arith, wide, same, c.requires.few)

pub loop-entry-preserved : goal.loop-entry-preserved
loop-entry-preserved c =
    let entries = c.args.entries.now in
    let n = c.loop-entry.entry-index in
    let item : c.entry-item.result ≡ entry entries n = get_or_read entries n c.entry-item.result (omega arith) c.entry-item.is none in
    let h = c.loop-entry.invariant in
    record {
      counted = λ text. more_rows c.args.last entries c.entry-item.result text n c.loop-entry.count c.entry_count-more.result (c.loop-entry.count + c.entry_count-more.result) c.requires.few c.requires.fine (omega arith) item refl (h.counted text) (c.entry_count-more.ensures text);
      within = omega (arith, c.if-more-room.false, h.within);
    }

pub returns-then-more-room-clause-more : goal.returns-then-more-room-clause-more
returns-then-more-room-clause-more c = λ text _.
    let entries = c.args.entries.now in
    let n = c.loop-entry.entry-index in
    let item : c.entry-item.result ≡ entry entries n = get_or_read entries n c.entry-item.result (omega arith) c.entry-item.is none in
    let h = c.loop-entry.invariant in
    let all = c.loop-entry.count + c.entry_count-more.result in
    too_many entries text (n + 1) all c.args.room (omega arith) (omega (arith, c.if-more-room.true, h.within))
    (more_rows c.args.last entries c.entry-item.result text n c.loop-entry.count c.entry_count-more.result all c.requires.few c.requires.fine (omega arith) item refl (h.counted text) (c.entry_count-more.ensures text))

pub returns-clause-rows : goal.returns-clause-rows
returns-clause-rows c = λ text. all_rows c.args.entries.now text c.loop-entry.entry-index c.loop-entry.count (omega arith) (c.loop-entry.invariant.counted text)
