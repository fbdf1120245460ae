use Rattle.std.proofs.Common.{◌≡◌, ◌+◌, ◌/◌, ◌∙◌, arith}
use Rattle.mt_prepare.specs.TestRows.{IsSoughtAt}
use Rattle.mt_prepare.proofs.Gathering.{words_row}
use Rattle.mt_prepare.proofs.column_rows.words_of.Goals as goal

pub returns-clause-words : goal.returns-clause-words
returns-clause-words g c =
    let e : c.loop-at.at ≡ c.args.tokens / 64 + 1 = omega arith in
    words_row c.args.tokens (IsSoughtAt c.args.column.now c.args.sought.now) c.loop-at.words.items (c.loop-at.invariant.count ∙ e) (λ j lt. c.loop-at.invariant.done j (omega (arith, lt, e)))
