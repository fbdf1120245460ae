use Rattle.mt_totals.proofs.tallies.ready_tally.Goals as goal

pub listed_tally-requires-clause-known : goal.listed_tally-requires-clause-known
listed_tally-requires-clause-known g c = c.new-scratch.ensures.known c.args.segment.now

pub shaped_tally-requires-clause-known : goal.shaped_tally-requires-clause-known
shaped_tally-requires-clause-known g c = c.new-scratch.ensures.known c.args.segment.now
