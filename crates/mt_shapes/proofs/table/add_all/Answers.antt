use Rattle.std.proofs.Common.{◌≡◌, arith}
use Rattle.std.proofs.lemmas.List.{get_or_read}
use Rattle.mt_shapes.specs.Tables.{entry, none}
use Rattle.mt_shapes.proofs.Matches.{next_entry}
use Rattle.mt_shapes.proofs.table.add_all.Goals as goal

pub loop-entry-preserved : goal.loop-entry-preserved
loop-entry-preserved c =
    let entries = c.args.entries.now in
    let n = c.loop-entry.entry-index in
    let item : c.entry-item.result ≡ entry entries n = get_or_read entries n c.entry-item.result (omega arith) c.entry-item.is none in
    next_entry c.args.last n entries c.args.out.now.items c.loop-entry.out.items c.add.new.out.items c.entry-item.result c.in_ok-begins.begins item c.in_ok-begins.ensures c.loop-entry.invariant c.in_ok-add.ensures
