use Rattle.mt_segment.proofs.Numbered.{values_more, numbered_more}
use Rattle.mt_vertical_tables.proofs.numbering.Numbering.push.Goals as goal

pub invariant_of-self-2 : goal.invariant_of-self-2
invariant_of-self-2 c =
    rw (c.push_reserved.ensures.items, c.in_ok-reserve.ensures.items)
    (numbered_more c.self.inside.seen c.add.new.self c.self.inside.numbers.items c.args.value.now c.in_ok-number.number c.self.invariant c.in_ok-number.ensures.values c.in_ok-number.ensures.number)

pub returns : goal.returns
returns c =
    rw (c.push_reserved.ensures.items, c.in_ok-reserve.ensures.items, ← c.self.view_is)
    (values_more c.self.inside.seen c.add.new.self c.self.inside.numbers.items c.args.value.now c.in_ok-number.number c.self.invariant c.in_ok-number.ensures.values c.in_ok-number.ensures.number)
