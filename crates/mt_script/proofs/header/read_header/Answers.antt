use Rattle.std.proofs.Common.{sym, arith}
use Rattle.mt_script.specs.Headers.{header_of}
use Rattle.mt_script.proofs.LineForms.{is_header, no_header}
use Rattle.mt_script.proofs.header.read_header.Goals as goal

pub returns-in-Ok-read_line : goal.returns-in-Ok-read_line
returns-in-Ok-read_line c = is_header c.args.line.now c.in-Ok.line.now (header_of c.in-Ok-read_line.header) (sym c.in-Ok.ensures.cases.0) (omega arith) c.in-Ok.ensures.cases.1 c.in-Ok-read_line.ensures

pub returns-in-Err-NoCommand : goal.returns-in-Err-NoCommand
returns-in-Err-NoCommand c =
    let none = rw c.in-Err-NoCommand.field-0-is at c.in-Err-NoCommand.ensures in
    no_header c.args.line.now c.in-Ok.line.now (sym c.in-Ok.ensures.cases.0) none
