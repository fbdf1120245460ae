-- What was counted is what the spans have, and all of it is listed in order.
use Rattle.std.proofs.Common.{ℤ, [], ◌∷◌, ◌++◌, List, w32, length, map, ap, ◌∙◌}
use Rattle.std.specs.List.{flat_map}
use Rattle.std.proofs.lemmas.Int.{to_z-of_z}
use Rattle.mt_text_spec.specs.Lines.{closed}
use Rattle.mt_corpus_spec.specs.Groups.{corpus_of}
use Rattle.mt_report_spec.specs.Counts.{Frequency, frequency_line, number_line}
use Rattle.mt_reports.proofs.Joined.{on_ok}
use Rattle.mt_frequencies.proofs.Listed.{frequencies_listed}
use Rattle.mt_frequencies.proofs.frequencies.frequency.Goals as goal

pub returns-clause-ok : goal.returns-clause-ok
returns-clause-ok c = λ images registry groups stand.
    let all = c.in_ok-all.all.items in
    let text = frequencies_listed images registry (corpus_of groups) c.args.spans.now c.args.attr c.args.distance _ c.count_begins.new.tally all (c.in_ok-count_begins.ensures images registry groups stand) (ap (λ (d : ℤ). d ∷ []) (to_z-of_z w32 c.args.distance c.ranges.distance))
    c.in_ok-all.ensures.distinct c.in_ok-all.ensures.same c.in_ok-all.ensures.sorted in
    on_ok c.put_list.result
    (λ said. (number_line (length all) ∷ map frequency_line all, text, said ∙ ap (λ (xs : List Frequency). c.args.out.now ++ flat_map closed (number_line (length xs) ∷ map frequency_line xs)) c.as_slice.ensures.value))
    c.put_list.ensures.ok
