use Rattle.mt_shell.proofs.Unbuilt.{last_line, no_last_line}
use Rattle.mt_shell.proofs.session.quit.Goals as goal

pub returns-in-Ok : goal.returns-in-Ok
returns-in-Ok c = last_line c.in-Ok.line c.in-Ok.ensures

pub returns-in-Err : goal.returns-in-Err
returns-in-Err c = no_last_line
