use Rattle.std.proofs.Common.{arith}
use Rattle.mt_match_spec.specs.Matches as m
use Rattle.mt_automaton.specs.LabelledParts.{Somehow, labelled_meant}
use Rattle.mt_automaton.proofs.Bounded.{plain_ends, by_most, one_labelled, both_end_somehow, chosen_ends, meet_somehow}
use Rattle.mt_automaton.proofs.bound.+labelled_end.Goals as goal

pub returns-in-Plain : goal.returns-in-Plain
returns-in-Plain g t c =
    let v = g.V.View.seen c.args.view.now in rw c.in-Plain.is (plain_ends v c.in-Plain.plain v.text.tokens c.args.at c.part_end.result c.part_end.ensures)

pub returns-in-Token : goal.returns-in-Token
returns-in-Token g t c =
    let v = g.V.View.seen c.args.view.now in
    rw c.in-Token.is
    (by_most (Somehow (m.IsToken v.text c.in-Token.field-0 (v.test c.in-Token.field-1))) v.text.tokens c.args.at 1 c.ahead.result (omega (arith, c.requires.at, c.requires.last)) (rw c.requires.last at c.ahead.ensures)
    (one_labelled v c.in-Token.field-0 c.in-Token.field-1))

pub returns-in-Seq : goal.returns-in-Seq
returns-in-Seq g t c =
    let v = g.V.View.seen c.args.view.now in
    let left = labelled_meant v c.in-Seq.left.value in
    let right = labelled_meant v c.in-Seq.right.value in
    rw c.in-Seq.is
    (both_end_somehow (m.Matches v.text left) (m.Matches v.text right) v.text.tokens c.args.at c.labelled_end-cut.result c.labelled_end.result (meet_somehow v c.requires.inside left right)
    (rw c.deref.ensures at c.labelled_end-cut.ensures) (rw c.deref-in-Seq.ensures at c.labelled_end.ensures))

pub returns-in-Choice : goal.returns-in-Choice
returns-in-Choice g t c =
    let v = g.V.View.seen c.args.view.now in
    rw c.in-Choice.is
    (chosen_ends (m.Matches v.text (labelled_meant v c.in-Choice.left.value)) (m.Matches v.text (labelled_meant v c.in-Choice.right.value)) v.text.tokens c.args.at c.labelled_end-one.result c.labelled_end-other.result
    c.greater.result c.greater.ensures (rw c.deref-in-Choice.ensures at c.labelled_end-one.ensures) (rw c.deref-in-Choice-2.ensures at c.labelled_end-other.ensures))
