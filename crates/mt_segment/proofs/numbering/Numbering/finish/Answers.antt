use Rattle.std.proofs.Common.{◌≡◌, ◌∙◌, length, ap, slice_index}
use Rattle.std.proofs.lemmas.List.{with_items_is, length-map}
use Rattle.mt_lexicon.specs.Joins.{renumbered}
use Rattle.mt_segment.proofs.Numbered.{finished_lexicon, finished_numbers}
use Rattle.mt_segment.proofs.numbering.Numbering.finish.Goals as goal

pub returns : goal.returns
returns c =
    let new : c.renumber.new.numbers ≡ renumbered c.in_ok-lexicon.renumbering c.self.inside.numbers.items = c.renumber.ensures ∙ ap (renumbered c.in_ok-lexicon.renumbering) c.as_mut_slice.ensures.value in
    let count = ap length c.renumber.ensures ∙ length-map c.as_mut_slice.result.now (λ n. slice_index c.in_ok-lexicon.renumbering n) ∙ c.as_mut_slice.ensures.len in
    let all : c.from_vec.result ≡ renumbered c.in_ok-lexicon.renumbering c.self.inside.numbers.items = c.from_vec.ensures ∙ with_items_is c.self.inside.numbers c.renumber.new.numbers count ∙ new in
    rw (← c.self.view_is) (record {
      lexicon = finished_lexicon c.self.inside.seen c.in_ok-lexicon.lexicon c.self.inside.numbers.items c.self.invariant c.in_ok-lexicon.ensures.lexicon;
      numbers = rw all (finished_numbers c.self.inside.seen c.in_ok-lexicon.lexicon c.self.inside.numbers.items c.in_ok-lexicon.renumbering c.self.invariant c.in_ok-lexicon.ensures.numbers);
    })
