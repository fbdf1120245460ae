use Rattle.mt_vertical.proofs.LineRoles.{skipped_read}
use Rattle.mt_vertical.proofs.borrowed.RowReader.read_line.Goals as goal

pub returns-in-Skipped : goal.returns-in-Skipped
returns-in-Skipped c = skipped_read _ _ _ c.requires.valid c.requires.sound c.utf8.line c.in-Skipped.ensures
