use Rattle.std.proofs.Common.{◌≡◌, ◌+◌, List, length, subst, sym, ◌∙◌, eqb-true, vec_len, arith}
use Rattle.mt_shapes.specs.declared.table.Entry.{Entry}
use Rattle.mt_shapes.specs.Tables.{Adds, IsMatchOf}
use Rattle.mt_shapes.proofs.Turning.{no_turns, next_turn, counted_of, run_dry}
use Rattle.mt_shapes.proofs.turns.add_turns.Goals as goal

pub loop-k-init : goal.loop-k-init
loop-k-init c =
    let turn = c.in_ok-turn.turn.items in
    no_turns c.args.last c.args.inner.now c.args.least turn c.args.out.now.items c.count.new.out.items c.requires.fine c.in_ok-turn.ensures
    (counted_of c.args.last c.args.least 0 turn c.args.out.now.items c.count.new.out.items
    (λ low. subst (λ (es : List Entry). Adds c.args.last (IsMatchOf es) c.args.out.now.items c.count.new.out.items) c.deref.ensures.value (c.in_ok-count.ensures.enough low)) c.in_ok-count.ensures.few)

pub returns-then-is_empty : goal.returns-then-is_empty
returns-then-is_empty c =
    let none : vec_len c.loop-k.turn ≡ 0 = eqb-true (vec_len c.loop-k.turn) 0 (sym c.is_empty.ensures ∙ c.if-is_empty.true) in
    let told = c.loop-k.turn.ok in
    let empty : length c.loop-k.turn.items ≡ 0 = cc in
    run_dry c.args.last c.args.inner.now c.args.least c.loop-k.k c.args.most c.loop-k.turn.items c.args.out.now.items c.loop-k.out.items c.requires.inner (omega (arith, c.loop-k-test.true)) empty c.loop-k.invariant

pub loop-k-preserved : goal.loop-k-preserved
loop-k-preserved c =
    let k = c.loop-k.k in
    let next = c.in_ok-turn-2.turn.items in
    next_turn c.args.last c.args.inner.now c.args.least k c.loop-k.turn.items next c.args.out.now.items c.loop-k.out.items c.count-in-loop-k.new.out.items c.requires.inner c.loop-k.invariant c.in_ok-turn-2.ensures
    (counted_of c.args.last c.args.least (k + 1) next c.loop-k.out.items c.count-in-loop-k.new.out.items
    (λ low. subst (λ (es : List Entry). Adds c.args.last (IsMatchOf es) c.loop-k.out.items c.count-in-loop-k.new.out.items) c.deref-in-loop-k.ensures.value (c.in_ok-count-2.ensures.enough low)) c.in_ok-count-2.ensures.few)
