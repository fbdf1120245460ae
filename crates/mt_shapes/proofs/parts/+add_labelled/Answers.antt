use Rattle.std.proofs.Common.{List, [], subst, sym}
use Rattle.std.proofs.lemmas.Result.{on_ok_weaker}
use Rattle.mt_match_spec.specs.Matches.{Matches}
use Rattle.mt_automaton.specs.LabelledParts.{labelled_meant}
use Rattle.mt_shapes.specs.declared.table.Entry.{Entry}
use Rattle.mt_shapes.specs.Tables.{Adds, Inside}
use Rattle.mt_shapes.proofs.Forward.{Between, meet}
use Rattle.mt_shapes.proofs.Meant.{token, parts_joined, either_part, two_tables}
use Rattle.mt_shapes.proofs.parts.+add_labelled.Goals as goal

pub returns-in-Token : goal.returns-in-Token
returns-in-Token g t c =
    rw c.in-Token.is
    (on_ok_weaker c.add_marked.result
    (λ a. token (g.V.View.seen c.args.view.now) c.in-Token.label c.in-Token.test c.args.last c.token.result c.args.out.now.items c.add_marked.new.out.items c.requires.last c.token.ensures a)
    c.add_marked.ensures)

pub returns-in_ok-join-in-Seq : goal.returns-in_ok-join-in-Seq
returns-in_ok-join-in-Seq g t c =
    let v = g.V.View.seen c.args.view.now in
    let last = c.args.last in
    let left = labelled_meant v c.in-Seq.left.value in
    let right = labelled_meant v c.in-Seq.right.value in
    let same = c.requires.last in
    let first : Adds last (Inside last (Matches v.text left)) [] c.add_labelled.new.out.items =
    subst (λ (es : List Entry). Adds last (Inside last (Matches v.text left)) es c.add_labelled.new.out.items) c.table-firsts.ensures (rw c.deref.ensures at c.in_ok-add_labelled-in-Seq.ensures) in
    let second : Adds last (Inside last (Matches v.text right)) [] c.add_labelled-in-Seq.new.out.items =
    subst (λ (es : List Entry). Adds last (Inside last (Matches v.text right)) es c.add_labelled-in-Seq.new.out.items) c.table-seconds.ensures (rw c.deref-in-Seq.ensures at c.in_ok-add_labelled-in-Seq-2.ensures) in
    rw c.in-Seq.is
    (parts_joined last (Matches v.text left) (Matches v.text right) c.add_labelled.new.out.items c.add_labelled-in-Seq.new.out.items c.args.out.now.items c.join.new.out.items
    (subst (λ n. Between n (Matches v.text left) (Matches v.text right)) (sym same) (meet v.text c.requires.inside left right)) first second
    (two_tables last c.deref-in-Seq-2.result.now c.deref-in-Seq-3.result.now c.add_labelled.new.out.items c.add_labelled-in-Seq.new.out.items c.args.out.now.items c.join.new.out.items c.deref-in-Seq-2.ensures.value
    c.deref-in-Seq-3.ensures.value c.in_ok-join-in-Seq.ensures))

pub returns-in_ok-add_labelled-in-Choice : goal.returns-in_ok-add_labelled-in-Choice
returns-in_ok-add_labelled-in-Choice g t c =
    let v = g.V.View.seen c.args.view.now in
    let last = c.args.last in
    let left = labelled_meant v c.in-Choice.left.value in
    let right = labelled_meant v c.in-Choice.right.value in
    rw c.in-Choice.is
    (on_ok_weaker c.add_labelled-in-Choice-2.result
    (λ a. either_part last (Matches v.text left) (Matches v.text right) c.args.out.now.items c.add_labelled-in-Choice.new.out.items c.add_labelled-in-Choice-2.new.out.items (rw c.deref-in-Choice.ensures at c.in_ok-add_labelled-in-Choice.ensures) a)
    (rw c.deref-in-Choice-2.ensures at c.add_labelled-in-Choice-2.ensures))
