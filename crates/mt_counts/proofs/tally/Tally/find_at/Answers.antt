use Rattle.std.proofs.Common.{sym}
use Rattle.mt_counts.proofs.Entries.{pair_at_place}
use Rattle.mt_counts.proofs.tally.Tally.find_at.Goals as goal

pub returns-then-key-member : goal.returns-then-key-member
returns-then-key-member c =
    rw (← c.self.view_is) (pair_at_place c.self.inside.counts.entries c.in-Some.key.now c.in-Some.field-0-1.now c.args.likely c.args.group c.args.member (sym c.in-Some.ensures.entry) c.if-key-group.true c.if-key-member.true)
