use Rattle.std.proofs.Common.{subst}
use Rattle.mt_counts.specs.Counted.{Counted}
use Rattle.mt_counts.specs.Listed.{AreFirstWords}
use Rattle.mt_counts.proofs.Ascending.{sorted_words}
use Rattle.mt_counts.proofs.counts.Counts.words.Goals as goal

pub returns : goal.returns
returns c = subst (λ (counted : Counted). AreFirstWords counted c.sort_unstable.new.self) c.self.view_is (sorted_words c.self.inside.tables c.in_ok-words.words c.sort_unstable.new.self c.in_ok-words.ensures c.sort_unstable.ensures.permutation c.sort_unstable.ensures.sorted)
