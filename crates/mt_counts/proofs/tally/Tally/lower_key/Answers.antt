use Rattle.std.proofs.Common.{arith}
use Rattle.std.proofs.lemmas.Option.{slice_get_within}
use Rattle.mt_counts.specs.Totals.{count_at}
use Rattle.mt_counts.proofs.Keys.{count_found, count_nowhere}
use Rattle.mt_counts.proofs.Taking.{lowered_none, lowered_there}
use Rattle.mt_counts.proofs.tally.Tally.lower_key.Goals as goal

pub lower-requires-clause-few : goal.lower-requires-clause-few
lower-requires-clause-few c = λ key count e.
    let is = count_found c.args.self.now (c.args.group, c.args.member) c.in-Some.place (key, count) c.len.ensures.once c.in-Some.ensures.found e in
    let some = count_found c.args.self.now (c.args.group, c.args.member) c.in-Some.place c.get-count.result c.len.ensures.once c.in-Some.ensures.found c.get-count.ensures in
    omega (arith, is, some, c.if-count-gt0.true)

pub lower-requires-clause-within : goal.lower-requires-clause-within
lower-requires-clause-within c = let at = c.in-Some.ensures.found in slice_get_within c.args.self.now c.in-Some.place ((c.args.group, c.args.member), at.count) at.there

pub returns-then-count-gt0-clause-lowered : goal.returns-then-count-gt0-clause-lowered
returns-then-count-gt0-clause-lowered c = λ h. lowered_there c.args.self.now c.lower.new.self (c.args.group, c.args.member) c.in-Some.place 1 c.in-Some.ensures.found c.lower.ensures

pub returns-else-count-gt0-clause-lowered : goal.returns-else-count-gt0-clause-lowered
returns-else-count-gt0-clause-lowered c = λ h.
    let some = count_found c.args.self.now (c.args.group, c.args.member) c.in-Some.place c.get-count.result c.len.ensures.once c.in-Some.ensures.found c.get-count.ensures in
    absurd (omega (arith, h, some, c.if-count-gt0.false))

pub returns-in-None-clause-lowered : goal.returns-in-None-clause-lowered
returns-in-None-clause-lowered c = λ h. lowered_none c.args.self.now (c.args.group, c.args.member) 1 (count_at c.args.self.now (c.args.group, c.args.member))
    (count_nowhere c.args.self.now (c.args.group, c.args.member) c.in-None.ensures.none) h
