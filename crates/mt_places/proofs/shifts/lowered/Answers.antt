use Rattle.mt_places.proofs.Moving.{down_first, down_others}
use Rattle.mt_places.proofs.shifts.lowered.Goals as goal

pub returns-clause-first : goal.returns-clause-first
returns-clause-first c = λ j h. down_first c.args.low c.args.high c.args.by j c.requires h

pub returns-clause-others : goal.returns-clause-others
returns-clause-others c = λ j h k. down_others c.args.low c.args.high c.args.by j c.ranges.low.fits c.requires h k
