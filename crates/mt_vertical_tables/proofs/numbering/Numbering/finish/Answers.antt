use Rattle.std.proofs.Common.{◌≡◌, ◌∙◌, length, ap, slice_index}
use Rattle.std.proofs.lemmas.List.{with_items_is, length-map}
use Rattle.mt_lexicon.specs.Joins.{renumbered}
use Rattle.mt_segment.proofs.Numbered.{finished_lexicon, finished_numbers}
use Rattle.mt_vertical_tables.proofs.numbering.Numbering.finish.Goals as goal

pub returns-clause-lexicon : goal.returns-clause-lexicon
returns-clause-lexicon c =
    rw (← c.self.view_is) (finished_lexicon c.self.inside.seen c.in_ok-lexicon.lexicon c.self.inside.numbers.items c.self.invariant c.in_ok-lexicon.ensures.lexicon)

pub returns-clause-numbers : goal.returns-clause-numbers
returns-clause-numbers c =
    let new : c.renumber.new.numbers ≡ renumbered c.in_ok-lexicon.next c.self.inside.numbers.items = c.renumber.ensures ∙ ap (renumbered c.in_ok-lexicon.next) c.as_mut_slice.ensures.value in
    let count = ap length c.renumber.ensures ∙ length-map c.as_mut_slice.result.now (λ n. slice_index c.in_ok-lexicon.next n) ∙ c.as_mut_slice.ensures.len in
    rw (← c.self.view_is, c.shrink_to_fit.ensures.items, with_items_is c.self.inside.numbers c.renumber.new.numbers count, new)
    (finished_numbers c.self.inside.seen c.in_ok-lexicon.lexicon c.self.inside.numbers.items c.in_ok-lexicon.next c.self.invariant c.in_ok-lexicon.ensures.numbers)
