use Rattle.std.proofs.Common.{◌≡◌, [], ◌∷◌, ◌++◌, ap, sym, subst, OnOk}
use Rattle.mt_text_spec.specs.Texts.{Row}
use Rattle.mt_match_spec.specs.Labels.{no_labels}
use Rattle.mt_automaton.specs.Windows.{moved}
use Rattle.mt_shapes.specs.Shapes.{row_of}
use Rattle.mt_shapes.proofs.rows.push_row.Goals as goal

pub returns-then-is_unlabelled-clause-ok : goal.returns-then-is_unlabelled-clause-ok
returns-then-is_unlabelled-clause-ok c =
    let labels : no_labels ≡ moved c.args.begin c.args.shape.now.labels = sym (ap (moved c.args.begin) (c.is_unlabelled.ensures c.if-is_unlabelled.true)) in
    let span = c.new.ensures in
    let same : record { span = c.new.result; labels = no_labels } ≡ row_of c.args.shape.now c.args.text c.args.begin = λ i. record { span = span i; labels = labels i } in
    subst (λ (row : Row). OnOk c.push_unlabelled.result (c.push_unlabelled.new.self ≡ c.args.out.now ++ row ∷ [])) same c.push_unlabelled.ensures.ok

pub returns-clause-ok : goal.returns-clause-ok
returns-clause-ok c = subst (λ (row : Row). OnOk c.push.result (c.push.new.self ≡ c.args.out.now ++ row ∷ [])) c.row.ensures c.push.ensures.ok
