use Rattle.mt_places.proofs.Moving.{up_first, up_others}
use Rattle.mt_places.proofs.shifts.raised.Goals as goal

pub returns-clause-first : goal.returns-clause-first
returns-clause-first c = λ j h. up_first c.args.high c.args.low c.args.by j c.requires h

pub returns-clause-others : goal.returns-clause-others
returns-clause-others c = λ j h k. up_others c.args.high c.args.low c.args.by j c.ranges.low.fits c.requires h k
