use Rattle.std.proofs.Common.{◌≡◌, ◌+◌, Some, sym, subst, arith}
use Rattle.mt_eval.specs.Walks.{IsLeft}
use Rattle.mt_eval.proofs.Walked.{due_some, from_bound, passed, some_left}
use Rattle.mt_eval.proofs.sequence.skip_to.Goals as goal

pub loop-walk-preserved : goal.loop-walk-preserved
loop-walk-preserved g c =
    let h = c.loop-walk.invariant in
    let place = c.in-Some.field-0 in
    let next = c.loop-walk.walk.next in
    let rest = c.loop-walk.walk.rest in
    let here : next ≡ Some place = c.in-Some.ensures.some.0 in
    record {
      left = λ positions bound l is.
          let s = h.left positions bound l is in
          (place + 1, omega (arith, c.in-Some.ensures.some.1), subst (IsLeft positions (place + 1)) (sym c.pass.ensures.left) (passed positions s.0 place rest (subst (IsLeft positions s.0) (some_left next place rest here) s.2)));
      rises = omega (arith, h.rises, c.pass.ensures.rises);
      due_is = λ looks. omega (arith, h.due_is looks, c.pass.ensures.due looks, due_some looks next place rest here);
    }

pub returns-clause-left : goal.returns-clause-left
returns-clause-left g c = λ positions bound l is.
    let s = c.loop-walk.invariant.left positions bound l is in
    from_bound positions s.0 c.args.least c.loop-walk.walk.next c.loop-walk.walk.rest s.1 (c.in_default.ensures {u = tt}).none s.2
