-- The vector has what was written into its slice.
use Rattle.std.proofs.Common.{ℕ, ℤ, List, get_or, w32, sym, ◌∙◌, subst, ap}
use Rattle.std.proofs.lemmas.Int.{to_z-of_z}
use Rattle.std.proofs.lemmas.List.{with_items_is}
use Rattle.mt_segment_spec.specs.Tables.{tables_at}
use Rattle.mt_frequencies.specs.Amounts.{AreMore, values_told}
use Rattle.mt_frequencies.proofs.begins.count_text.Goals as goal

pub returns-clause-counted : goal.returns-clause-counted
returns-clause-counted c = λ near same.
    let lexicon = (tables_at c.args.segment.now.attrs c.args.attr).lexicon in
    let spans = c.args.spans.now in
    let same_distance = sym (to_z-of_z w32 c.args.distance c.ranges.distance) in
    let counted = c.count_by.ensures.counted near
    (λ k span from to. same k span from to ∙ ap (λ (d : ℤ). values_told c.args.segment.now c.args.attr c.args.text d (get_or spans k span).begin) same_distance) in
    subst (λ (new : List ℕ). AreMore lexicon near spans c.args.from c.count_by.result c.args.counts.now.items new) (sym (with_items_is c.args.counts.now c.count_by.new.counts (c.count_by.ensures.count ∙ c.as_mut_slice.ensures.len)))
    (subst (λ (old : List ℕ). AreMore lexicon near spans c.args.from c.count_by.result old c.count_by.new.counts) c.as_mut_slice.ensures.value counted)
