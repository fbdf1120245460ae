use Rattle.std.proofs.Common.{◌≡◌, [], ◌∷◌, drop, sym, ◌∙◌, subst, arith}
use Rattle.std.specs.Option.{MatchOption}
use Rattle.mt_store_spec.specs.Positions.{from_least}
use Rattle.mt_postings.proofs.Placing.{drop_step, scan_found, scan_none, scan_far, scan_more}
use Rattle.mt_postings.proofs.places.Places.scan.Goals as goal

pub returns-then-position-least-clause-given : goal.returns-then-position-least-clause-given
returns-then-position-least-clause-given g c =
    scan_found c.args.least c.loop.counter c.args.self.now c.in_ok-position.position c.next.new.self (sym c.loop.invariant.left ∙ c.in_ok-position.ensures) c.loop.invariant.below c.if-position-least.true

pub returns-in_err-position-clause-given : goal.returns-in_err-position-clause-given
returns-in_err-position-clause-given g c =
    let none : from_least c.args.least c.args.self.now ≡ [] = scan_none c.args.least c.loop.counter c.args.self.now (sym c.loop.invariant.left ∙ c.in_err-position.ensures.0) c.loop.invariant.below in
    subst (λ r. MatchOption r ((from_least c.args.least c.args.self.now ≡ []) × (c.next.new.self ≡ [])) (λ p. from_least c.args.least c.args.self.now ≡ p ∷ c.next.new.self)) (sym c.from_residual.ensures) (none, c.in_err-position.ensures.1)

pub loop-preserved : goal.loop-preserved
loop-preserved g c =
    let e : drop c.loop.counter c.args.self.now ≡ c.in_ok-position.position ∷ c.next.new.self = sym c.loop.invariant.left ∙ c.in_ok-position.ensures in
    let grown = c.loop.invariant.grown in
    let few = c.loop.invariant.few in
    let t = c.tick.ensures in
    record {
      left = sym (drop_step c.loop.counter c.args.self.now c.in_ok-position.position c.next.new.self e).2;
      below = scan_more c.args.least c.loop.counter c.args.self.now c.in_ok-position.position c.next.new.self e c.loop.invariant.below c.if-position-least.false;
      grown = omega arith;
      few = omega arith;
    }

pub returns-clause-given : goal.returns-clause-given
returns-clause-given g c =
    let far : drop c.loop.counter c.args.self.now ≡ [] = scan_far c.args.least c.loop.counter c.args.self.now c.requires c.loop-test.false c.loop.invariant.below in
    (scan_none c.args.least c.loop.counter c.args.self.now far c.loop.invariant.below, c.loop.invariant.left ∙ far)
