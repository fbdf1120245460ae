use Rattle.std.proofs.Common.{◌∷◌, [], ◌++◌, refl, ap, ◌∙◌, arith}
use Rattle.mt_text_spec.specs.Texts.{Span}
use Rattle.mt_match_spec.specs.Labels.{no_labels}
use Rattle.mt_shapes.specs.Tables.{BeginsAt}
use Rattle.mt_shapes.proofs.Listed.{nothing_there}
use Rattle.mt_shapes.proofs.OneByOne.{none_here, one_here, no_room_here, IsInstance}
use Rattle.mt_shapes.proofs.instances.row_at.Goals as goal

pub returns-in-None-clause-ok : goal.returns-in-None-clause-ok
returns-in-None-clause-ok g c =
    let v = g.V.View.seen c.args.view.now in
    nothing_there (BeginsAt (IsInstance v c.args.tag c.args.text) c.args.at) c.args.room c.args.out.now c.args.out.now (none_here v c.args.tag c.args.text c.args.at c.whole_end.result c.in-None.is c.whole_end.ensures.only) refl

pub returns-then-room-eq0-clause-more : goal.returns-then-room-eq0-clause-more
returns-then-room-eq0-clause-more g c = λ _.
    no_room_here (g.V.View.seen c.args.view.now) c.args.tag c.args.text c.args.at c.in-Some.end c.args.room c.if-room-eq0.true c.in-Some.ensures.some

pub returns-in_ok-push_unlabelled-in-Some-clause-ok : goal.returns-in_ok-push_unlabelled-in-Some-clause-ok
returns-in_ok-push_unlabelled-in-Some-clause-ok g c =
    one_here (g.V.View.seen c.args.view.now) c.args.tag c.args.text c.args.at c.in-Some.end c.args.room c.whole_end.result c.args.out.now c.push_unlabelled.new.self (let free = c.if-room-eq0.false in omega (arith, free)) c.in-Some.is c.in-Some.ensures.some c.whole_end.ensures.only
    (c.in_ok-push_unlabelled-in-Some.ensures.ok ∙ ap (λ (span : Span). c.args.out.now ++ record { span = span; labels = no_labels } ∷ []) c.new.ensures)
