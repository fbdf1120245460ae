use Rattle.std.proofs.Common.{sym, ◌∙◌, ap}
use Rattle.mt_automaton.specs.Parts.{meant}
use Rattle.mt_automaton.specs.LabelledParts.{labelled_meant}
use Rattle.mt_automaton.specs.Compiled.{by_numbers}
use Rattle.mt_automaton.proofs.Compiled.{written_repeat}
use Rattle.mt_automaton.proofs.compile.repeated.Goals as goal

pub returns-in_ok-new-in-Plain-clause-is : goal.returns-in_ok-new-in-Plain-clause-is
returns-in_ok-new-in-Plain-clause-is c = λ tests tags expr x.
    let v = by_numbers tests tags in
    written_repeat (labelled_meant v c.args.inner) (meant v c.in_ok-new-in-Plain.field-0.value) expr c.args.least c.args.most
    (ap (labelled_meant v) c.in-Plain.is ∙ ap (meant v) (sym c.in_ok-new-in-Plain.ensures.ok)) x
