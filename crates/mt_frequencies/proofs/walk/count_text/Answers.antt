-- The vector has what was written into its slice.
use Rattle.std.proofs.Common.{List, sym, subst, ◌∙◌}
use Rattle.std.proofs.lemmas.List.{with_items_is}
use Rattle.mt_segment_spec.specs.Tables.{tables_at}
use Rattle.mt_frequencies.specs.declared.seen.Seen.{Seen}
use Rattle.mt_frequencies.specs.Amounts.{AreMore}
use Rattle.mt_frequencies.specs.Seen.{spans_seen}
use Rattle.mt_frequencies.proofs.walk.count_text.Goals as goal

pub returns-clause-counted : goal.returns-clause-counted
returns-clause-counted c = λ near same.
    let lexicon = (tables_at c.args.segment.now.attrs c.args.attr).lexicon in
    let spans = c.args.spans.now in
    let counted = c.count_by.ensures.counted near same in
    subst (λ (new : List Seen). AreMore lexicon near spans c.args.from c.count_by.result (spans_seen c.args.seen.now.items) (spans_seen new)) (sym (with_items_is c.args.seen.now c.count_by.new.seen (c.count_by.ensures.count ∙ c.as_mut_slice.ensures.len)))
    (subst (λ (old : List Seen). AreMore lexicon near spans c.args.from c.count_by.result (spans_seen old) (spans_seen c.count_by.new.seen)) c.as_mut_slice.ensures.value counted)
