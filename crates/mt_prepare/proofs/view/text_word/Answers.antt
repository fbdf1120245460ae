use Rattle.std.proofs.Common.{ℕ, ◌+◌, ◌<◌}
use Rattle.mt_places.specs.Places.{In}
use Rattle.mt_prepare.proofs.Words.{both_word}
use Rattle.mt_prepare.proofs.view.text_word.Goals as goal

pub returns : goal.returns
returns c = both_word (λ (k : ℕ). In c.args.row.now (c.args.first + k)) (λ (k : ℕ). k < c.args.tokens) c.args.at c.moved_word.result c.word.result c.moved_word.ensures c.word.ensures
