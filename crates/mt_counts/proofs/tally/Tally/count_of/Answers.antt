use Rattle.std.proofs.Common.{sym}
use Rattle.mt_counts.proofs.Keys.{count_found, count_nowhere}
use Rattle.mt_counts.proofs.tally.Tally.count_of.Goals as goal

pub returns-in-Some-clause-count : goal.returns-in-Some-clause-count
returns-in-Some-clause-count c = count_found c.args.self.now (c.args.group, c.args.member) c.in-Some.place c.get.result c.len.ensures.once c.in-Some.ensures.found c.get.ensures

pub returns-in-None-clause-count : goal.returns-in-None-clause-count
returns-in-None-clause-count c = sym (count_nowhere c.args.self.now (c.args.group, c.args.member) c.in-None.ensures.none)
