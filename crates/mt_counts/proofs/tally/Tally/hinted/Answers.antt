use Rattle.std.proofs.Common.{◌<◌, length, sym, subst, arith}
use Rattle.std.specs.Map.{keys_of}
use Rattle.mt_counts.specs.Tallies.{IsHint}
use Rattle.mt_counts.specs.declared.tally.Hint.{Hint}
use Rattle.mt_counts.proofs.Hints.{hinted_at}
use Rattle.mt_counts.proofs.tally.Tally.hinted.Goals as goal

pub returns-then-hint-member : goal.returns-then-hint-member
returns-then-hint-member c =
    let entries = c.self.inside.counts.entries in
    let within : c.slot_of-slot.result < length c.self.inside.hints.items = omega (arith, c.if-slot-len.false, c.len.ensures) in
    let is = subst (λ (hint : Hint). IsHint (keys_of entries) hint.group hint.member hint.place) (sym c.index-hint.ensures) (c.self.invariant.3 c.slot_of-slot.result c.index-hint.result.now within) in
    rw (← c.self.view_is) (hinted_at entries c.index-hint.result.now c.args.group c.args.member is c.if-hint-group.true c.if-hint-member.true)
