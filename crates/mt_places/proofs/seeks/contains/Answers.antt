use Rattle.std.proofs.Common.{refl, sym, ◌∙◌, arith, eqb-true, eq-eqb, true≢false}
use Rattle.mt_places.proofs.Bits.{bit_past, not_zero}
use Rattle.mt_places.proofs.Finding.{test_bit}
use Rattle.mt_places.proofs.seeks.contains.Goals as goal

pub returns-clause-yes : goal.returns-clause-yes
returns-clause-yes c = λ h. sym (test_bit c.args.set.now c.args.place _ refl) ∙ eqb-true _ _ h

pub returns-clause-no : goal.returns-clause-no
returns-clause-no c = λ h one.
    let e = test_bit c.args.set.now c.args.place _ refl in
    absurd (true≢false (sym (eq-eqb _ _ (e ∙ one)) ∙ h))

pub returns-then-at-set-clause-no : goal.returns-then-at-set-clause-no
returns-then-at-set-clause-no c = λ _. not_zero c.args.set.now c.args.place (bit_past c.args.set.now c.args.place (omega arith))
