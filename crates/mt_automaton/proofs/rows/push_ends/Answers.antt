use Rattle.std.proofs.Common.{◌≡◌, ◌+◌, length, refl, arith}
use Rattle.mt_automaton.proofs.Bits.{in_room}
use Rattle.mt_automaton.proofs.Listed.{push_none, push_next, push_more, push_all, row_pushed, one_longer}
use Rattle.mt_automaton.proofs.rows.push_ends.Goals as goal

pub loop-at-init : goal.loop-at-init
loop-at-init c = record { some = omega arith; count = refl; added = push_none c.args.set.now c.args.labels c.args.text c.args.begin c.args.room c.args.out.now }

pub loop-at-preserved : goal.loop-at-preserved
loop-at-preserved c =
    let h = c.loop-at.invariant in
    let found = c.in-Some.ensures.found in
    let free = c.if-left-eq0.false in
    let longer : length c.push.new.self ≡ length c.loop-at.out + 1 = one_longer c.loop-at.out c.push.new.self c.new-in-Some.result c.in_ok-push.ensures.ok in
    record {
      some = omega (arith, h.some, found.from);
      count = omega (arith, h.count, longer, free);
      added =
          push_next c.args.set.now c.args.labels c.args.text c.args.begin c.args.room c.loop-at.left c.loop-at.from c.in-Some.at c.args.out.now c.loop-at.out c.push.new.self found.from h.some found.is_in found.none_before
          h.count (omega (arith, free)) (row_pushed c.args.text c.args.begin c.in-Some.at c.args.labels c.new.result c.new-in-Some.result c.loop-at.out c.push.new.self c.new.ensures c.new-in-Some.ensures c.in_ok-push.ensures.ok) h.added;
    }

pub loop-at-smaller : goal.loop-at-smaller
loop-at-smaller c =
    let found = c.in-Some.ensures.found in
    let lt = in_room c.args.set.now c.in-Some.at found.is_in in omega (arith, lt, found.from)

pub returns-then-left-eq0-clause-more : goal.returns-then-left-eq0-clause-more
returns-then-left-eq0-clause-more c =
    let h = c.loop-at.invariant in
    let found = c.in-Some.ensures.found in
    λ _. push_more c.args.set.now c.args.labels c.args.text c.args.begin c.args.room c.loop-at.left c.loop-at.from c.in-Some.at c.args.out.now c.loop-at.out found.from h.some found.is_in found.none_before h.count
    c.if-left-eq0.true h.added

pub returns-clause-ok : goal.returns-clause-ok
returns-clause-ok c = push_all c.args.set.now c.args.labels c.args.text c.args.begin c.args.room c.loop-at.from c.args.out.now c.loop-at.out c.in_default.ensures.none c.loop-at.invariant.added
