use Rattle.std.proofs.Common.{◌≡◌, [], ◌∷◌, ◌++◌, subst, OnOk, arith}
use Rattle.mt_text_spec.specs.Texts.{Row}
use Rattle.mt_cql.specs.Shape.{shape}
use Rattle.mt_eval.proofs.Bare.{bare_row}
use Rattle.mt_eval.proofs.sequence.push_row.Goals as goal

pub returns-then-bare : goal.returns-then-bare
returns-then-bare c =
    let same = bare_row (shape c.args.sequence.now.expr.now) c.args.text c.args.begin _ c.new.result (c.requires.bare c.if-bare.true) c.new.ensures (omega (arith, c.requires.long)) in
    subst (λ (row : Row). OnOk c.push_unlabelled.result (c.push_unlabelled.new.self ≡ c.args.out.now ++ row ∷ [])) same c.push_unlabelled.ensures.ok

pub returns : goal.returns
returns c = subst (λ (row : Row). OnOk c.push.result (c.push.new.self ≡ c.args.out.now ++ row ∷ [])) c.row_at.ensures c.push.ensures.ok
