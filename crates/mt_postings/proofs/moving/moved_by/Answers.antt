use Rattle.std.proofs.Common.{◌≡◌, ◌++◌, arith, sym, ap, ◌∙◌, subst}
use Rattle.std.specs.Option.{option_to_list}
use Rattle.mt_store_spec.specs.Positions.{from_least}
use Rattle.mt_postings.proofs.Moves.{given_left, given_ended, MovesTo, moves_none, moves_fits, moves_stop, moves_last}
use Rattle.mt_postings.proofs.moving.moved_by.Goals as goal
use Rattle.mt_postings.proofs.moving.moved_by.Goals.{in-Some+then-position-to, in_default}

pub loop-next-init : goal.loop-next-init
loop-next-init g c =
    let whole = c.args.part.now in
    let left = option_to_list c.seek-next.result ++ c.seek-next.new.self in
    let given : from_least c.args.from c.cursor-cursor.result ≡ left = given_left c.seek-next.result c.seek-next.new.self (from_least c.args.from c.cursor-cursor.result) c.seek-next.ensures.given in
    record {
      moves = subst (λ x. MovesTo c.args.from c.args.to c.args.place whole x left) (sym c.new-all.ensures.items) (moves_none c.args.from c.args.to c.args.place whole left (let r = c.ranges.from.fits in omega arith) c.cursor-cursor.ensures.valid (ap (from_least c.args.from) (sym c.cursor-cursor.ensures.all) ∙ given));
      ended = given_ended c.seek-next.result c.seek-next.new.self (from_least c.args.from c.cursor-cursor.result) c.seek-next.ensures.given;
    }

pub overflow_add-position : goal.overflow_add-position
overflow_add-position g c =
    let m = subst (λ x. MovesTo c.args.from c.args.to c.args.place c.args.part.now c.loop-next.all.items (option_to_list x ++ c.loop-next.cursor)) c.in-Some.is c.loop-next.invariant.moves in
    let h = moves_fits c.args.from c.args.to c.args.place c.args.part.now c.loop-next.all.items c.in-Some.position c.loop-next.cursor c.requires.range m c.if-position-to.false in
    let r = h.1 in
    omega arith

pub returns : goal.returns
returns g c =
    elim c.match-next.branch [
      | in-Some+then-position-to w ↦ moves_stop c.args.from c.args.to c.args.place c.args.part.now c.loop-next.all.items c.loop-next.cursor c.loop-next.next w.in-Some.position w.in-Some.is w.if-position-to.true c.loop-next.invariant.moves
      | in_default w ↦ moves_last c.args.from c.args.to c.args.place c.args.part.now c.loop-next.all.items c.loop-next.cursor c.loop-next.next w.in_default.is c.loop-next.invariant.ended c.loop-next.invariant.moves
    ]
