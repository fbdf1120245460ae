use Rattle.std.proofs.Common.{◌∙◌, rules}
use Rattle.mt_prepare.specs.TestRows.{IsSoughtAt}
use Rattle.mt_prepare.proofs.Gathering.{row_of_words}
use Rattle.mt_prepare.proofs.column_rows.fill.Goals as goal

pub returns-clause-row : goal.returns-clause-row
returns-clause-row g c =
    row_of_words c.args.tokens (IsSoughtAt c.args.column.now c.args.sought.now) c.in_ok-words.words.items c.deref.result.now c.put.new.self (search rules) c.in_ok-words.ensures.words (c.put.ensures.width ∙ c.requires.width) c.put.ensures.places
