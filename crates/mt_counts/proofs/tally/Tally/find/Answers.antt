use Rattle.mt_counts.proofs.Entries.{found_at, not_found, pair_exact, pair_passes}
use Rattle.mt_counts.proofs.tally.Tally.find.Goals as goal

pub returns-in-Some-clause-found : goal.returns-in-Some-clause-found
returns-in-Some-clause-found c = rw (← c.self.view_is) (found_at _ (c.args.group, c.args.member) c.self.inside.counts.entries c.in-Some.place (pair_exact c.args.group c.args.member) c.in-Some.ensures.index)

pub returns-in-None-clause-none : goal.returns-in-None-clause-none
returns-in-None-clause-none c = rw (← c.self.view_is) (not_found _ (c.args.group, c.args.member) c.self.inside.counts.entries (pair_passes c.args.group c.args.member) c.in-None.ensures.index)
