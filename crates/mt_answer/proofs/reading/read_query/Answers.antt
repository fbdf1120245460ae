use Rattle.std.proofs.Common.{arith}
use Rattle.mt_answer.proofs.Fitting.{valid_fits}
use Rattle.mt_answer.proofs.reading.read_query.Goals as goal

pub returns-in-Ok-clause-fits : goal.returns-in-Ok-clause-fits
returns-in-Ok-clause-fits c = let l = c.requires.sketched in valid_fits _ _ (c.in-Ok.ensures.valid (omega (arith, l)))

pub returns-in-Err-clause-unread : goal.returns-in-Err-clause-unread
returns-in-Err-clause-unread c = c.unread.ensures c.args.registry.now c.in-Err.ensures.means
