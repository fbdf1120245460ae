use Rattle.std.proofs.Common.{arith}
use Rattle.mt_tally.proofs.EntryRows.{entry_rows, no_entry_rows}
use Rattle.mt_tally.proofs.rows.entry_count.Goals as goal

pub returns-then-entry-eq0 : goal.returns-then-entry-eq0
returns-then-entry-eq0 c = λ text. no_entry_rows c.args.entry.now text c.if-entry-eq0.true

pub returns : goal.returns
returns c = λ text. let some = c.if-entry-eq0.false in entry_rows c.args.entry.now text c.place_count.result (omega (arith, some)) c.place_count.ensures
