use Rattle.std.proofs.Common.{sym}
use Rattle.mt_script.specs.Seen.{ask_of}
use Rattle.mt_script.proofs.LineForms.{is_asked, not_asked}
use Rattle.mt_script.proofs.asks.read_batch_line.Goals as goal

pub returns-in-Ok-read_asked : goal.returns-in-Ok-read_asked
returns-in-Ok-read_asked c = is_asked c.args.line.now c.in-Ok.line.now (ask_of c.in-Ok-read_asked.ask) (sym c.in-Ok.ensures.cases.0) c.in-Ok.ensures.cases.1 c.in-Ok-read_asked.ensures

pub returns-in-Err-NoCommand : goal.returns-in-Err-NoCommand
returns-in-Err-NoCommand c =
    let none = rw c.in-Err-NoCommand.field-0-is at c.in-Err-NoCommand.ensures in
    not_asked c.args.line.now c.in-Ok.line.now (sym c.in-Ok.ensures.cases.0) none
