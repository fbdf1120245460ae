use Rattle.std.proofs.Common.{◌≡◌, length, rules, arith}
use Rattle.mt_eval.proofs.Unions.{label_set, label_kept, past_nine}
use Rattle.mt_eval.proofs.sequence.with_label.Goals as goal
use Rattle.mt_eval.proofs.sequence.with_label.Goals.{else-at-gt0-via-then-at-gt0+then-at-le9+else-more-at, else-at-gt0-via-then-at-gt0+else-at-le9, else-at-gt0-via-else-at-gt0}

pub returns-then-more-at : goal.returns-then-more-at
returns-then-more-at c =
    let nine : length c.args.labels ≡ 9 = search rules in
    label_set c.args.labels c.args.label c.args.place nine (omega (arith, c.if-at-gt0.true)) c.if-more-at.true

pub returns-else-at-gt0 : goal.returns-else-at-gt0
returns-else-at-gt0 c =
    let nine : length c.args.labels ≡ 9 = search rules in
    label_kept c.args.labels c.args.label c.args.place nine
    (λ some. elim c.else-at-gt0.branch [
      | else-at-gt0-via-then-at-gt0+then-at-le9+else-more-at w ↦ w.if-more-at.false
      | else-at-gt0-via-then-at-gt0+else-at-le9 w ↦ past_nine c.args.labels c.args.label nine (omega (arith, w.if-at-le9.false))
      | else-at-gt0-via-else-at-gt0 w ↦ absurd (omega (arith, some, w.if-at-gt0.false))
    ])
