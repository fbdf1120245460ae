use Rattle.std.proofs.Common.{◌≡◌, length, sym, ◌∙◌, rules, arith}
use Rattle.std.proofs.lemmas.List.{get_or_read}
use Rattle.std.proofs.lemmas.Result.{on_ok_weaker}
use Rattle.mt_automaton.specs.Parts.{width}
use Rattle.mt_automaton.specs.Groups.{group, none}
use Rattle.mt_automaton.specs.LabelledParts.{labelled_meant}
use Rattle.mt_automaton.proofs.Forward.{meet_somehow}
use Rattle.mt_automaton.proofs.Led.{next_below, both_lead, either_leads}
use Rattle.mt_automaton.proofs.groups.+labelled_rows.Goals as goal

pub loop-group-preserved : goal.loop-group-preserved
loop-group-preserved g t c =
    let v = g.V.View.seen c.args.view.now in
    let first = c.deref-group-items.result.now in
    let n = c.loop-group.group-index in
    let item : c.group-item.result ≡ group first n = get_or_read first n c.group-item.result (omega arith) c.group-item.is none in
    next_below v c.in-Seq.right.value first n c.group-item.result c.args.allowed.now (width v) c.args.out.now.items c.loop-group.out.items _ item c.loop-group.invariant (rw c.deref-in-loop-group.ensures at c.in_ok-labelled_rows-in-Seq-2.ensures)

pub returns-after-loop-group : goal.returns-after-loop-group
returns-after-loop-group g t c =
    let v = g.V.View.seen c.args.view.now in
    let nine : length c.args.labels ≡ 9 = search rules in
    rw c.in-Seq.is
    (both_lead v _ c.in-Seq.left.value c.in-Seq.right.value c.args.from.now c.args.allowed.now c.in_ok-cut-in-Seq.cut c.args.labels c.deref-group-items.result.now c.loop-group.group-index
    (width v) c.args.out.now.items c.loop-group.out.items nine
    (meet_somehow v c.in_ok-cut-in-Seq.ensures.inside (labelled_meant v c.in-Seq.left.value) (labelled_meant v c.in-Seq.right.value) c.args.allowed.now c.requires.allowed)
    (c.requires.from ∙ sym c.requires.allowed) (λ b f l h. h) (λ b f l h. h) (rw (c.deref.ensures, c.in_ok-again-in-Seq.ensures) at c.in_ok-cut-in-Seq.ensures.begins)
    (rw c.deref-group-items.ensures.value (rw (c.deref-in-Seq.ensures, c.groups-first.ensures) at c.in_ok-labelled_rows-in-Seq.ensures)) (omega arith) c.loop-group.invariant)

pub returns-in_ok-labelled_rows-in-Choice : goal.returns-in_ok-labelled_rows-in-Choice
returns-in_ok-labelled_rows-in-Choice g t c =
    let v = g.V.View.seen c.args.view.now in
    rw c.in-Choice.is
    (on_ok_weaker c.labelled_rows-in-Choice-2.result
    (λ b. either_leads v _ c.in-Choice.left.value c.in-Choice.right.value c.args.from.now c.args.allowed.now c.args.labels (width v) c.args.out.now.items c.labelled_rows-in-Choice.new.out.items _
    (λ bb f l h. h) (λ bb f l h. h) (rw c.deref-in-Choice.ensures at c.in_ok-labelled_rows-in-Choice.ensures) b)
    (rw c.deref-in-Choice-2.ensures at c.labelled_rows-in-Choice-2.ensures))
