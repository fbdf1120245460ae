-- What was counted is what the spans and the tokens have, and all of it is listed in order.
use Rattle.std.proofs.Common.{ℤ, true, ◌∷◌, ◌++◌, List, w32, length, map, sym, subst, ap, ap₂, arith, ◌∙◌}
use Rattle.std.specs.List.{All, flat_map}
use Rattle.std.specs.List.Sorted.{IsPermutation}
use Rattle.std.proofs.lemmas.Int.{to_z-of_z}
use Rattle.std.proofs.lemmas.List.{length-map}
use Rattle.std.proofs.lemmas.List.Sorted.{length_permutation}
use Rattle.mt_text_spec.specs.Lines.{closed}
use Rattle.mt_corpus_spec.specs.Groups.{corpus_of}
use Rattle.mt_report_spec.specs.Near.{values_by, window}
use Rattle.mt_report_spec.specs.Counts.{Collocate, Frequency, collocate_line, number_line}
use Rattle.mt_reports.proofs.Joined.{on_ok}
use Rattle.mt_frequencies.specs.Collocates.{HasPlace, collocate_of}
use Rattle.mt_frequencies.specs.Distances.{distances_of}
use Rattle.mt_frequencies.specs.Tallies.{IsTally, counts_in}
use Rattle.mt_frequencies.specs.Tokens.{told_tokens_with}
use Rattle.mt_frequencies.proofs.Collocated.{are_scores, collocations_listed, places_there, scores}
use Rattle.mt_frequencies.proofs.Texts.{tokens_told_by}
use Rattle.mt_frequencies.proofs.collocates.collocations.Goals as goal

pub collocates-requires-clause-places : goal.collocates-requires-clause-places
collocates-requires-clause-places c =
    let r = c.requires.lie in
    let told = told_tokens_with c.args.segments.now c.args.attr c.args.live.now in
    subst (λ (all : List Frequency). All (HasPlace (length c.args.spans.now) told) all) (sym (c.as_slice.ensures.value ∙ c.in_ok-frequent.ensures.all))
    (places_there r.images r.registry (corpus_of r.groups) c.args.spans.now r.lie (record { attr = c.args.attr; distances = distances_of c.window.result; behind_last = true }) c.count_spans.new.tally c.saturating_sub.result told
    (c.in_ok-count_spans.ensures r.images r.registry r.groups r.stand)
    (tokens_told_by c.numbers_stand_for_values.ensures c.tokens_stand_in_texts.ensures r.images r.registry r.groups c.args.segments.now c.args.live.now r.stand c.args.attr c.requires.attr))

pub put_list-requires : goal.put_list-requires
put_list-requires c =
    omega (
      arith,
      ap length c.as_slice-2.ensures.value,
      length_permutation _ _ c.rank.ensures.same,
      ap length (c.in_ok-all.ensures scores are_scores),
      ap length c.as_slice.ensures.value,
      c.in_ok-frequent.ensures.few,
      length-map c.as_slice.result.now (collocate_of scores (length c.args.spans.now) (told_tokens_with c.args.segments.now c.args.attr c.args.live.now)),
    )

pub returns-clause-ok : goal.returns-clause-ok
returns-clause-ok c = λ images registry groups stand.
    let told = told_tokens_with c.args.segments.now c.args.attr c.args.live.now in
    let all = c.rank.result.items in
    let distances = c.window.ensures.distances ∙ ap₂ window (to_z-of_z w32 c.args.from c.ranges.from) (to_z-of_z w32 c.args.to c.ranges.to) in
    let counted =
    subst (λ (ds : List ℤ). IsTally (values_by images registry (corpus_of groups) (record { attr = c.args.attr; distances = ds; behind_last = true })) c.args.spans.now (counts_in c.count_spans.new.tally)) distances
    (c.in_ok-count_spans.ensures images registry groups stand) in
    let made = c.in_ok-all.ensures scores are_scores ∙ ap (map (collocate_of scores (length c.args.spans.now) told)) (c.as_slice.ensures.value ∙ c.in_ok-frequent.ensures.all) in
    let text =
    collocations_listed images registry (corpus_of groups) c.args.spans.now c.args.attr c.args.from c.args.to c.args.least c.saturating_sub.result c.count_spans.new.tally told counted
    (tokens_told_by c.numbers_stand_for_values.ensures c.tokens_stand_in_texts.ensures images registry groups c.args.segments.now c.args.live.now stand c.args.attr c.requires.attr) c.saturating_sub.ensures
    all c.in_ok-frequent.ensures.distinct (subst (λ (xs : List Collocate). IsPermutation xs all) made c.rank.ensures.same) c.rank.ensures.sorted in
    on_ok c.put_list.result
    (λ said. (number_line (length all) ∷ map collocate_line all, text, said ∙ ap (λ (xs : List Collocate). c.args.out.now ++ flat_map closed (number_line (length xs) ∷ map collocate_line xs)) c.as_slice-2.ensures.value))
    c.put_list.ensures.ok
