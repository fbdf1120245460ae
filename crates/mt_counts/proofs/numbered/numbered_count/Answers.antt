use Rattle.std.proofs.Common.{sym, ◌∙◌}
use Rattle.mt_counts.proofs.Contexts.{place_there, place_nowhere}
use Rattle.mt_counts.proofs.Keys.{count_found, count_nowhere}
use Rattle.mt_counts.proofs.numbered.numbered_count.Goals as goal

pub returns-in-Some-clause-place : goal.returns-in-Some-clause-place
returns-in-Some-clause-place c = sym (place_there c.args.tally.now (c.args.group, c.args.member) c.in-Some.place c.len-len.ensures.once c.in-Some.ensures.found)

pub returns-in-Some-clause-count : goal.returns-in-Some-clause-count
returns-in-Some-clause-count c = count_found c.args.tally.now (c.args.group, c.args.member) c.in-Some.place c.get.result c.len-len.ensures.once c.in-Some.ensures.found c.get.ensures

pub returns-in-None-clause-place : goal.returns-in-None-clause-place
returns-in-None-clause-place c = c.len-len.ensures.count ∙ sym (place_nowhere c.args.tally.now (c.args.group, c.args.member) c.in-None.ensures.none)

pub returns-in-None-clause-count : goal.returns-in-None-clause-count
returns-in-None-clause-count c = sym (count_nowhere c.args.tally.now (c.args.group, c.args.member) c.in-None.ensures.none)
