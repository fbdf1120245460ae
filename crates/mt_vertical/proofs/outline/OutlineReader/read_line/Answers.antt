use Rattle.mt_vertical.specs.Outlines.{with_tokens}
use Rattle.mt_vertical.proofs.LineRoles.{skipped_read}
use Rattle.mt_vertical.proofs.outline.OutlineReader.read_line.Goals as goal

pub returns-in-Skipped : goal.returns-in-Skipped
returns-in-Skipped c = λ tokens e s.
    (tokens, e, skipped_read c.args.registry.now (with_tokens c.args.registry.now tokens c.args.self.now.structs) c.args.line.now c.requires.valid s c.utf8.line c.in-Skipped.ensures)

pub returns-in_ok-cause-in-Tag : goal.returns-in_ok-cause-in-Tag
returns-in_ok-cause-in-Tag c = λ tokens e s. (tokens, e, c.in_ok-cause-in-Tag.ensures _ tokens c.args.line.now e s c.utf8.line c.in-Tag.ensures)
