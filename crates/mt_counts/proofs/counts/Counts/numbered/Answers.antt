use Rattle.std.proofs.Common.{subst}
use Rattle.mt_counts.specs.Counted.{Counted}
use Rattle.mt_counts.specs.Numbered.{IsNumberingOf, numbering_of}
use Rattle.mt_counts.proofs.Contexts.{is_numbering}
use Rattle.mt_counts.proofs.counts.Counts.numbered.Goals as goal

pub returns : goal.returns
returns c =
    let t = c.self.inside.tables in
    subst (λ (counted : Counted). IsNumberingOf counted (numbering_of t)) c.self.view_is
    (is_numbering t c.self.invariant c.len.ensures.distinct c.len-2.ensures.distinct c.len-3.ensures.once c.len-4.ensures.once c.len-5.ensures.once)
