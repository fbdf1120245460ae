-- The spans of one segment more are counted.
use Rattle.std.proofs.Common.{ℕ, ◌<◌, ◌≤◌, List, length, arith, sym, subst}
use Rattle.std.proofs.lemmas.List.{take_all}
use Rattle.mt_text_spec.specs.Texts.{Span}
use Rattle.mt_corpus_spec.specs.Groups.{corpus_of}
use Rattle.mt_report_spec.specs.Near.{values_by}
use Rattle.mt_reports.specs.Places.{IsAt, texts_of}
use Rattle.mt_reports.proofs.Spans.{has_segment, text_below}
use Rattle.mt_frequencies.specs.Distances.{near_of}
use Rattle.mt_frequencies.specs.Tallies.{IsTally, counts_in}
use Rattle.mt_frequencies.proofs.Amounts.{last_few, tally_added}
use Rattle.mt_frequencies.proofs.Begun.{amounts_as}
use Rattle.mt_frequencies.proofs.Nearby.{attr_there}
use Rattle.mt_frequencies.proofs.spans.count_spans.Goals as goal

pub seek-at-requires-clause-text : goal.seek-at-requires-clause-text
seek-at-requires-clause-text c =
    let below = text_below c.args.segments.now c.args.live.now c.args.spans.now c.requires.lie c.loop-from.from c.index-spans-from.result c.loop-from-test.true c.index-spans-from.is in
    subst (λ (l : List (List ℕ)). c.text.result < texts_of l) (sym c.as_slice.ensures) (omega (arith, below, c.text.ensures))

pub get-requires : goal.get-requires
get-requires c =
    has_segment c.args.segments.now c.args.live.now c.args.spans.now c.requires.lie c.seek-at.result.segment (subst (λ (l : List (List ℕ)). c.seek-at.result.segment < length l) c.as_slice.ensures c.seek-at.ensures.inside)

pub lexicon-lexicon-requires : goal.lexicon-lexicon-requires
lexicon-lexicon-requires c =
    let segment = has_segment c.args.segments.now c.args.live.now c.args.spans.now c.requires.lie c.seek-at.result.segment (subst (λ (l : List (List ℕ)). c.seek-at.result.segment < length l) c.as_slice.ensures c.seek-at.ensures.inside) in
    attr_there c.args.segments.now c.args.near.now.attr c.seek-at.result.segment c.get.result.now c.requires.attr segment c.get.ensures

pub put_counts-requires-clause-few : goal.put_counts-requires-clause-few
put_counts-requires-clause-few c = λ value.
    let r = c.requires.lie in
    let order : c.loop-from.from ≤ c.in_ok-counts.to = omega (arith, c.in_ok-counts.ensures.from) in
    let amounts = amounts_as _ c.args.spans.now c.loop-from.from c.in_ok-counts.to c.seek-at.result.segment c.args.near.now.attr c.args.segments.now c.get.result.now c.lexicon-lexicon.result.now c.in_ok-counts.counts.items c.as_slice-in-loop-from.result.now c.get.ensures c.lexicon-lexicon.ensures c.as_slice-in-loop-from.ensures.value
    (c.in_ok-counts.ensures.amounts r.images r.registry r.groups r.stand c.get.result.now) in
    let few = last_few c.lexicon-lexicon.result.now _ c.args.spans.now c.loop-from.from c.in_ok-counts.to order c.in_ok-counts.ensures.to c.as_slice-in-loop-from.result.now amounts (counts_in c.loop-from.tally) (c.loop-from.invariant.tally r.images r.registry r.groups r.stand) value in
    omega (arith, few, c.in_ok-counts.ensures.to, c.requires.few)

pub loop-from-preserved : goal.loop-from-preserved
loop-from-preserved c =
    let order : c.loop-from.from ≤ c.in_ok-counts.to = omega (arith, c.in_ok-counts.ensures.from) in
    record {
      within = c.in_ok-counts.ensures.to;
      at = subst (λ (l : List (List ℕ)). IsAt l c.seek-at.result.segment c.seek-at.result.before) c.as_slice.ensures c.seek-at.ensures.at;
      tally = λ images registry groups stand.
          let amounts = amounts_as _ c.args.spans.now c.loop-from.from c.in_ok-counts.to c.seek-at.result.segment c.args.near.now.attr c.args.segments.now c.get.result.now c.lexicon-lexicon.result.now c.in_ok-counts.counts.items c.as_slice-in-loop-from.result.now c.get.ensures c.lexicon-lexicon.ensures c.as_slice-in-loop-from.ensures.value
          (c.in_ok-counts.ensures.amounts images registry groups stand c.get.result.now) in
          tally_added c.lexicon-lexicon.result.now _ c.args.spans.now c.loop-from.from c.in_ok-counts.to order c.in_ok-counts.ensures.to c.as_slice-in-loop-from.result.now amounts (counts_in c.loop-from.tally) (c.loop-from.invariant.tally images registry groups stand)
          (counts_in c.put_counts.new.tally) c.in_ok-put_counts.ensures;
    }

pub returns : goal.returns
returns c = λ images registry groups stand.
    subst (λ (spans : List Span). IsTally (values_by images registry (corpus_of groups) (near_of c.args.near.now)) spans (counts_in c.loop-from.tally)) (take_all c.loop-from.from c.args.spans.now c.loop-from-test.false) (c.loop-from.invariant.tally images registry groups stand)
