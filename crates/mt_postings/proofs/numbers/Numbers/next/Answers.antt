use Rattle.std.proofs.Common.{length, ap, arith}
use Rattle.mt_postings.proofs.Ascending.{rest_positions}
use Rattle.mt_postings.proofs.numbers.Numbers.next.Goals as goal

pub invariant_of-self : goal.invariant_of-self
invariant_of-self c =
    let n = ap length c.in_ok-first.ensures.cases.0 in
    let short = c.self.invariant.1 in
    (rest_positions c.in_ok-first.first.now c.in_ok-first.rest.now c.self.inside.left.now c.in_ok-first.ensures.cases.0 c.self.invariant.0, omega arith)
