use Rattle.std.proofs.Common.{arith}
use Rattle.mt_automaton.proofs.Bits.{in_room}
use Rattle.mt_automaton.proofs.Listed.{gather_none, gather_next, gather_all, row_pushed}
use Rattle.mt_automaton.proofs.rows.gather_group.Goals as goal

pub loop-at-init : goal.loop-at-init
loop-at-init c = record { some = omega arith; added = gather_none c.args.group.now.ends c.args.group.now.labels c.args.text c.args.begin c.args.rows.now.items }

pub loop-at-preserved : goal.loop-at-preserved
loop-at-preserved c =
    let h = c.loop-at.invariant in
    let found = c.in-Some.ensures.found in
    record {
      some = omega (arith, h.some, found.from);
      added =
          gather_next c.args.group.now.ends c.args.group.now.labels c.args.text c.args.begin c.loop-at.from c.in-Some.at c.args.rows.now.items c.loop-at.rows.items c.push.new.self.items found.from h.some found.is_in found.none_before
          (row_pushed c.args.text c.args.begin c.in-Some.at c.args.group.now.labels c.new.result c.new-in-Some.result c.loop-at.rows.items c.push.new.self.items c.new.ensures c.new-in-Some.ensures c.in_ok-push.ensures.items) h.added;
    }

pub loop-at-smaller : goal.loop-at-smaller
loop-at-smaller c =
    let found = c.in-Some.ensures.found in
    let lt = in_room c.args.group.now.ends c.in-Some.at found.is_in in omega (arith, lt, found.from)

pub returns : goal.returns
returns c = gather_all c.args.group.now.ends c.args.group.now.labels c.args.text c.args.begin c.loop-at.from c.args.rows.now.items c.loop-at.rows.items c.in_default.ensures.none c.loop-at.invariant.added
