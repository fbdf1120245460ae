use Rattle.std.proofs.Common.{◌∙◌, ap, Ok}
use Rattle.mt_shell.proofs.Fetches.{sees_any, sees_whole, sees_none, sees_long}
use Rattle.mt_shell.proofs.fetch.fetch.Goals as goal

pub returns-in-Ok-Whole-clause-finds : goal.returns-in-Ok-Whole-clause-finds
returns-in-Ok-Whole-clause-finds g c = sees_whole ((g.E.Edge.seen c.args.edge.now).files) c.args.file.now c.load.new.out (rw c.in-Ok-Whole.field-0-is at c.in-Ok-Whole.ensures.told) (c.load.ensures.within (c.in-Ok-Whole.is ∙ ap Ok c.in-Ok-Whole.field-0-is))

pub returns-in-Ok-Absent-clause-finds : goal.returns-in-Ok-Absent-clause-finds
returns-in-Ok-Absent-clause-finds g c = sees_none ((g.E.Edge.seen c.args.edge.now).files) c.args.file.now (rw c.in-Ok-Absent.field-0-is at c.in-Ok-Absent.ensures.told)

pub returns-in-Ok-TooLong-clause-finds : goal.returns-in-Ok-TooLong-clause-finds
returns-in-Ok-TooLong-clause-finds g c = sees_long ((g.E.Edge.seen c.args.edge.now).files) c.args.file.now (rw c.in-Ok-TooLong.field-0-is at c.in-Ok-TooLong.ensures.told)

pub returns-in-Err-Failed-clause-finds : goal.returns-in-Err-Failed-clause-finds
returns-in-Err-Failed-clause-finds g c = sees_any ((g.E.Edge.seen c.args.edge.now).files)

pub returns-clause-finds : goal.returns-clause-finds
returns-clause-finds g c = sees_any ((g.E.Edge.seen c.args.edge.now).files)
