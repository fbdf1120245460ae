use Rattle.std.proofs.Common.{ap, arith}
use Rattle.mt_automaton.specs.Parts.{meant}
use Rattle.mt_automaton.specs.LabelledParts.{labelled_meant}
use Rattle.mt_automaton.specs.Compiled.{by_numbers}
use Rattle.mt_automaton.proofs.Compiled.{written_once, written_at_most_once, written_no_turn, written_never}
use Rattle.mt_automaton.proofs.compile.at_most_once.Goals.{else-least-eq1-via-then-least-eq1+else-most-eq1, else-least-eq1-via-else-least-eq1, else-least-eq0-via-then-least-eq0+else-most-eq1-2, else-least-eq0-via-else-least-eq0}
use Rattle.mt_automaton.proofs.compile.at_most_once.Goals as goal

pub returns-then-most-eq1 : goal.returns-then-most-eq1
returns-then-most-eq1 c = λ tests tags expr x. written_once (labelled_meant (by_numbers tests tags) c.args.inner) expr c.args.least c.args.most c.if-least-eq1.true c.if-most-eq1.true x

pub returns-then-most-eq1-2 : goal.returns-then-most-eq1-2
returns-then-most-eq1-2 c = λ tests tags expr x.
    let v = by_numbers tests tags in
    written_at_most_once (meant v c.in_ok-new.field-0.value) (labelled_meant v c.in_ok-new-2.field-0.value) (labelled_meant v c.args.inner) (labelled_meant v c.in_ok-new-3.field-0.value) expr c.args.least
    c.args.most c.if-least-eq0.true c.if-most-eq1-2.true (ap (labelled_meant v) c.in_ok-new-2.ensures.ok) (ap (labelled_meant v) c.in_ok-new-3.ensures.ok) x

pub returns : goal.returns
returns c = λ tests tags expr x.
    let any = meant (by_numbers tests tags) c.in_ok-new.field-0.value in
    elim c.else-least-eq1.branch [
      | else-least-eq1-via-then-least-eq1+else-most-eq1 w ↦ written_no_turn any expr c.args.least c.args.most (omega (arith, c.requires, w.if-most-eq1.false))
      | else-least-eq1-via-else-least-eq1 w ↦ elim c.else-least-eq0.branch [
        | else-least-eq0-via-then-least-eq0+else-most-eq1-2 u ↦ written_no_turn any expr c.args.least c.args.most (omega (arith, c.requires, u.if-most-eq1-2.false))
        | else-least-eq0-via-else-least-eq0 u ↦ written_never any expr c.args.least c.args.most (omega (arith, w.if-least-eq1.false, u.if-least-eq0.false)) c.requires
      ]
    ]
