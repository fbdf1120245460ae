use Rattle.std.proofs.Common.{IfOk, subst}
use Rattle.mt_counts.specs.Counted.{Counted}
use Rattle.mt_counts.specs.Listed.{IsPair}
use Rattle.mt_counts.specs.Tallies.{ListsOnce}
use Rattle.mt_counts.proofs.Seconds.{no_pairs}
use Rattle.mt_counts.proofs.counts.Counts.collocates.Goals as goal

pub returns-in-Some : goal.returns-in-Some
returns-in-Some c =
    subst (λ (counted : Counted). IfOk c.pairs.result (λ pairs. ListsOnce (IsPair counted c.args.name.now c.args.word.now) pairs)) c.self.view_is (c.pairs.ensures c.args.name.now c.args.word.now c.in-Some.ensures.is)

pub returns-in-None : goal.returns-in-None
returns-in-None c = rw (c.new.ensures, ← c.self.view_is) (no_pairs c.self.inside.tables c.args.name.now c.args.word.now c.self.invariant c.in-None.ensures.none)
