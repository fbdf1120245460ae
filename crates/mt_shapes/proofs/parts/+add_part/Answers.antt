use Rattle.std.proofs.Common.{List, [], subst, sym}
use Rattle.std.proofs.lemmas.Result.{on_ok_weaker}
use Rattle.mt_match_spec.specs.Matches.{Matches, Turns}
use Rattle.mt_automaton.specs.Parts.{meant}
use Rattle.mt_shapes.specs.declared.table.Entry.{Entry}
use Rattle.mt_shapes.specs.Tables.{Adds, Inside, IsTurned, IsMatchOf}
use Rattle.mt_shapes.proofs.Forward.{Between, meet, meet_turns}
use Rattle.mt_shapes.proofs.Meant.{token, begin, end, gap, parts_joined, either_part, two_tables, turned}
use Rattle.mt_shapes.proofs.parts.+add_part.Goals as goal

pub returns-in-Token : goal.returns-in-Token
returns-in-Token g t c =
    rw c.in-Token.is
    (on_ok_weaker c.add_marked.result
    (λ a. token (g.V.View.seen c.args.view.now) 0 c.in-Token.test c.args.last c.plain.result c.args.out.now.items c.add_marked.new.out.items c.requires.last c.plain.ensures a)
    c.add_marked.ensures)

pub returns-in-Begin : goal.returns-in-Begin
returns-in-Begin g t c =
    rw c.in-Begin.is
    (on_ok_weaker c.add_marked-in-Begin.result
    (λ a. begin (g.V.View.seen c.args.view.now) c.in-Begin.tag c.args.last c.plain-in-Begin.result c.args.out.now.items c.add_marked-in-Begin.new.out.items c.requires.last c.plain-in-Begin.ensures a)
    c.add_marked-in-Begin.ensures)

pub returns-in-End : goal.returns-in-End
returns-in-End g t c =
    rw c.in-End.is
    (on_ok_weaker c.add_marked-in-End.result
    (λ a. end (g.V.View.seen c.args.view.now) c.in-End.tag c.args.last c.plain-in-End.result c.args.out.now.items c.add_marked-in-End.new.out.items c.requires.last c.plain-in-End.ensures a)
    c.add_marked-in-End.ensures)

pub returns-in-Gap : goal.returns-in-Gap
returns-in-Gap g t c =
    rw c.in-Gap.is
    (on_ok_weaker c.add_gap.result
    (λ a. gap (g.V.View.seen c.args.view.now).text c.args.last c.in-Gap.least c.in-Gap.most c.args.out.now.items c.add_gap.new.out.items c.requires.last c.requires.any a)
    c.add_gap.ensures)

pub returns-in_ok-join-in-Seq : goal.returns-in_ok-join-in-Seq
returns-in_ok-join-in-Seq g t c =
    let v = g.V.View.seen c.args.view.now in
    let last = c.args.last in
    let left = meant v c.in-Seq.left.value in
    let right = meant v c.in-Seq.right.value in
    let same = c.requires.last in
    let first : Adds last (Inside last (Matches v.text left)) [] c.add_part.new.out.items =
    subst (λ (es : List Entry). Adds last (Inside last (Matches v.text left)) es c.add_part.new.out.items) c.table-firsts.ensures (rw c.deref.ensures at c.in_ok-add_part-in-Seq.ensures) in
    let second : Adds last (Inside last (Matches v.text right)) [] c.add_part-in-Seq.new.out.items =
    subst (λ (es : List Entry). Adds last (Inside last (Matches v.text right)) es c.add_part-in-Seq.new.out.items) c.table-seconds.ensures (rw c.deref-in-Seq.ensures at c.in_ok-add_part-in-Seq-2.ensures) in
    rw c.in-Seq.is
    (parts_joined last (Matches v.text left) (Matches v.text right) c.add_part.new.out.items c.add_part-in-Seq.new.out.items c.args.out.now.items c.join.new.out.items
    (subst (λ n. Between n (Matches v.text left) (Matches v.text right)) (sym same) (meet v.text c.requires.inside left right)) first second
    (two_tables last c.deref-in-Seq-2.result.now c.deref-in-Seq-3.result.now c.add_part.new.out.items c.add_part-in-Seq.new.out.items c.args.out.now.items c.join.new.out.items c.deref-in-Seq-2.ensures.value
    c.deref-in-Seq-3.ensures.value c.in_ok-join-in-Seq.ensures))

pub returns-in_ok-add_part-in-Choice : goal.returns-in_ok-add_part-in-Choice
returns-in_ok-add_part-in-Choice g t c =
    let v = g.V.View.seen c.args.view.now in
    let last = c.args.last in
    let left = meant v c.in-Choice.left.value in
    let right = meant v c.in-Choice.right.value in
    rw c.in-Choice.is
    (on_ok_weaker c.add_part-in-Choice-2.result
    (λ a. either_part last (Matches v.text left) (Matches v.text right) c.args.out.now.items c.add_part-in-Choice.new.out.items c.add_part-in-Choice-2.new.out.items (rw c.deref-in-Choice.ensures at c.in_ok-add_part-in-Choice.ensures) a)
    (rw c.deref-in-Choice-2.ensures at c.add_part-in-Choice-2.ensures))

pub returns-in_ok-add_turns-in-Repeat : goal.returns-in_ok-add_turns-in-Repeat
returns-in_ok-add_turns-in-Repeat g t c =
    let v = g.V.View.seen c.args.view.now in
    let last = c.args.last in
    let inner = meant v c.in-Repeat.inner.value in
    let turn = c.add_part-in-Repeat.new.out.items in
    let same = c.requires.last in
    let once : Adds last (Inside last (Matches v.text inner)) [] turn =
    subst (λ (es : List Entry). Adds last (Inside last (Matches v.text inner)) es turn) c.table-turn.ensures (rw c.deref-in-Repeat.ensures at c.in_ok-add_part-in-Repeat.ensures) in
    rw c.in-Repeat.is
    (turned last (Matches v.text inner) turn c.args.out.now.items c.add_turns.new.out.items c.in-Repeat.least c.in-Repeat.most
    (λ count. subst (λ n. Between n (Matches v.text inner) (Turns (Matches v.text inner) count)) (sym same) (meet_turns v.text c.requires.inside inner count)) once
    (subst (λ (es : List Entry). Adds last (IsTurned last (IsMatchOf es) c.in-Repeat.least c.in-Repeat.most) c.args.out.now.items c.add_turns.new.out.items) c.deref-in-Repeat-2.ensures.value c.in_ok-add_turns-in-Repeat.ensures))
