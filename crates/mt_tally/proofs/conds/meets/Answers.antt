use Rattle.std.proofs.Common.{◌≢◌, ◌+◌, arith}
use Rattle.mt_text_spec.specs.Texts.{unset}
use Rattle.mt_text_spec.specs.Queries.{Cond}
use Rattle.mt_tally.proofs.MetBegins.{left_set, right_set, equal_told, differ_told}
use Rattle.mt_tally.proofs.conds.meets.Goals as goal

pub returns-in_default-clause-meets : goal.returns-in_default-clause-meets
returns-in_default-clause-meets g c = λ text is. (λ e. cc, λ m. absurd (left_set c.args.segment.now c.args.shape.now text c.args.begin c.args.first c.args.cond.now is m (rw (← c.cond.view_is) c.in_default.ensures.none)))

pub returns-in_default-place_in-clause-meets : goal.returns-in_default-place_in-clause-meets
returns-in_default-place_in-clause-meets g c = λ text is. (λ e. cc, λ m. absurd (right_set c.args.segment.now c.args.shape.now text c.args.begin c.args.first c.args.cond.now is m (rw (← c.cond.view_is) c.in_default-place_in.ensures.none)))

pub returns-then-cond-clause-meets : goal.returns-then-cond-clause-meets
returns-then-cond-clause-meets g c = λ text is.
    let left = c.in-Some.left in
    let right = c.in-Some-place_in.right in
    let few = c.requires.few in
    let low = c.requires.labels c.cond.inside.left left c.in-Some.ensures.some in
    let high = c.requires.labels c.cond.inside.right right c.in-Some-place_in.ensures.some in
    let nl : c.args.begin + left ≢ unset = λ e. omega (arith, e, low, few) in
    let nr : c.args.begin + right ≢ unset = λ e. omega (arith, e, high, few) in
    let inside : Cond = record { left = c.cond.inside.left; left_attr = c.cond.inside.left_attr; equal = c.cond.inside.equal; right = c.cond.inside.right; right_attr = c.cond.inside.right_attr } in
    rw (← c.cond.view_is) (equal_told c.args.segment.now c.args.shape.now text c.args.begin c.args.first inside is left right c.in-Some.ensures.some c.in-Some-place_in.ensures.some c.are_same-same.result nl nr c.if-cond.true c.are_same-same.ensures.same)

pub returns-else-cond-clause-meets : goal.returns-else-cond-clause-meets
returns-else-cond-clause-meets g c = λ text is.
    let left = c.in-Some.left in
    let right = c.in-Some-place_in.right in
    let few = c.requires.few in
    let low = c.requires.labels c.cond.inside.left left c.in-Some.ensures.some in
    let high = c.requires.labels c.cond.inside.right right c.in-Some-place_in.ensures.some in
    let nl : c.args.begin + left ≢ unset = λ e. omega (arith, e, low, few) in
    let nr : c.args.begin + right ≢ unset = λ e. omega (arith, e, high, few) in
    let inside : Cond = record { left = c.cond.inside.left; left_attr = c.cond.inside.left_attr; equal = c.cond.inside.equal; right = c.cond.inside.right; right_attr = c.cond.inside.right_attr } in
    rw (← c.cond.view_is) (differ_told c.args.segment.now c.args.shape.now text c.args.begin c.args.first inside is left right c.in-Some.ensures.some c.in-Some-place_in.ensures.some c.are_same-same.result nl nr c.if-cond.false c.are_same-same.ensures.same)
