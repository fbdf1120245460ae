use Rattle.std.proofs.Common.{ℕ, List, [], map, slice_index_or, sym, subst}
use Rattle.mt_lexicon.specs.Entries.{IsSortedNumbering}
use Rattle.mt_lexicon.proofs.builder.LexiconBuilder.finish.Goals as goal

pub arranged-requires-clause-order : goal.arranged-requires-clause-order
arranged-requires-clause-order c =
    subst (λ (order : List ℕ). IsSortedNumbering c.self.inside.seen (map (λ n. (slice_index_or c.self.inside.seen n [], n)) order)) (sym c.as_slice.ensures.value) c.in_ok-order.ensures
