use Rattle.std.proofs.Common.{refl, arith, ◌≡◌}
use Rattle.std.proofs.lemmas.Bool.{false≢true}
use Rattle.mt_words.proofs.Numbers.{parsed_is_number, first_of_number, number_is_parsed}
use Rattle.mt_words.proofs.number_to.Goals as goal

pub returns-then-not-begins_number-clause-none : goal.returns-then-not-begins_number-clause-none
returns-then-not-begins_number-clause-none c = λ _ number n.
    false≢true (c.if-not-begins_number.ensures.1 (first_of_number c.args.greatest number c.args.text.now (omega (arith, c.ranges.greatest.fits)) n))

pub returns-in-Ok-clause-some : goal.returns-in-Ok-clause-some
returns-in-Ok-clause-some c =
    parsed_is_number _ c.args.greatest c.in-Ok.number c.args.text.now c.parse.result c.in-Ok.is c.parse.ensures.value.0 (c.if-not-begins_number.ensures.0 refl) c.if-number-greatest.true

pub returns-in_default-clause-none : goal.returns-in_default-clause-none
returns-in_default-clause-none c = λ _ number n.
    let h = number_is_parsed _ c.args.greatest number c.args.text.now c.parse.result (omega (arith, c.ranges.greatest.fits)) n c.parse.ensures.value.0 in
    let same : c.in-Ok.number ≡ number = cc (h, c.in-Ok.is) in
    let high = n.most in
    omega (arith, same, high)

pub returns-in_default-2-clause-none : goal.returns-in_default-2-clause-none
returns-in_default-2-clause-none c = λ _ number n.
    let h = number_is_parsed _ c.args.greatest number c.args.text.now c.parse.result (omega (arith, c.ranges.greatest.fits)) n c.parse.ensures.value.0 in
    cc (h, c.in_default.is)
