use Rattle.mt_search.proofs.Taken.{taken}
use Rattle.mt_totals.proofs.tallies.segment_tally.Goals as goal

pub returns-clause-takes : goal.returns-clause-takes
returns-clause-takes g c = λ plain.
    taken c.args.segment.now c.args.query.now c.args.steps.now c.prepare.new.steps c.ready_tally.new.steps c.prepare.ensures.rises c.ready_tally.ensures.rises (c.prepare.ensures.finds plain) (c.ready_tally.ensures.few plain)
