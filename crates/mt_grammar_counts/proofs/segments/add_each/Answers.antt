use Rattle.std.proofs.Common.{rules, ◌<◌, ◌∙◌, List, [], length, take, get_or, Err, IsErrOf, refl, sym, subst, arith}
use Rattle.mt_text_spec.specs.Registries.{Registry}
use Rattle.mt_text_spec.specs.Texts.{Text}
use Rattle.mt_match_spec.specs.Values.{Images}
use Rattle.mt_count_spec.specs.Counts.{HasRoom}
use Rattle.mt_segment_spec.specs.Tables.{AreTablesUnder}
use Rattle.mt_counts.specs.Counted.{Counted}
use Rattle.mt_triples.specs.CountsOf.{AreCountsOf}
use Rattle.mt_corpus_spec.specs.Groups.{corpus_of, live_texts}
use Rattle.mt_corpus_spec.specs.Images.{AreImagesBy}
use Rattle.mt_grammar_counts.specs.Told.{HasNoRoom, TellAll}
use Rattle.mt_grammar_counts.specs.declared.error.CountError.{CountError}
use Rattle.mt_grammar_counts.specs.declared.error.CountError.TheVariants.{TooManyRows}
use Rattle.mt_grammar_counts.proofs.LineLists.{room_none}
use Rattle.mt_grammar_counts.proofs.GroupLists.{are_texts, as_many, corpus_more, corpus_whole, groups_many, no_room_somewhere, room_both, told_group}
use Rattle.mt_grammar_counts.proofs.segments.add_each.Goals as goal

pub loop-i-init : goal.loop-i-init
loop-i-init g c = record {
  patterns = refl;
  shop = refl;
  counts = λ images by. c.requires.none images;
  room = λ images by. room_none images c.args.corpus.now.registry c.args.grammar.now;
}

pub get-numbers-requires : goal.get-numbers-requires
get-numbers-requires g c = let count = as_many c.held.result.0.now c.held.result.1.now c.held.ensures.numbers in omega (arith, count, c.loop-i-test.true, c.len-i-end.ensures)

pub count_segment-requires-clause-under : goal.count_segment-requires-clause-under
count_segment-requires-clause-under g c = λ lifetimes outlive.
    let under : AreTablesUnder c.args.corpus.now.registry c.get-segment.result.now = subst (AreTablesUnder c.args.corpus.now.registry) (sym c.get-segment.ensures) (c.held.ensures.tables c.loop-i.i c.get-segment.result.now (omega (arith, c.loop-i-test.true, c.len-i-end.ensures))) in
    subst (λ (r : Registry). AreTablesUnder r c.get-segment.result.now) (sym c.registry-registry.ensures.registry) under

pub count_segment-requires-clause-numbers : goal.count_segment-requires-clause-numbers
count_segment-requires-clause-numbers g c = λ lifetimes outlive.
    rw c.as_slice.ensures
    (are_texts c.held.result.0.now c.held.result.1.now c.loop-i.i c.get-segment.result.now c.get-numbers.result.now c.held.ensures.numbers (omega (arith, c.loop-i-test.true, c.len-i-end.ensures)) c.get-segment.ensures c.get-numbers.ensures)

pub returns-in_err-count_segment-clause-too_many : goal.returns-in_err-count_segment-clause-too_many
returns-in_err-count_segment-clause-too_many g c =
    let C = c.args.corpus.now in
    let G = c.args.grammar.now in
    let i = c.loop-i.i in
    let l : i < length c.held.result.0.now = omega (arith, c.loop-i-test.true, c.len-i-end.ensures) in
    let k : (images : Images) → AreImagesBy images C.taken → IsErrOf {T = Unit {0}} {E = CountError} (Err c.in_err-count_segment.field-0.0) TooManyRows → HasNoRoom images C.registry G (corpus_of C.groups) =
    λ images by h.
    let many = groups_many images C.registry C.groups c.held.result.0.now c.held.result.1.now (c.held.ensures.stand images by) in
    let tell = told_group c.groups_are_told.ensures c.live_texts_are_numbered.ensures images C.registry C.groups c.held.result.0.now c.held.result.1.now (c.held.ensures.stand images by) c.held.ensures.tables c.held.ensures.groups
    i c.get-segment.result.now c.get-numbers.result.now l c.get-segment.ensures c.get-numbers.ensures in
    no_room_somewhere images C.registry G C.groups i (omega (arith, l, many))
    (subst (λ (r : Registry). HasNoRoom images r G (live_texts (get_or C.groups i []))) c.registry-registry.ensures.registry
    (c.in_err-count_segment.ensures.too_many images (live_texts (get_or C.groups i []))
    (subst (λ (r : Registry). TellAll images r c.get-segment.result.now c.as_slice.result.now (live_texts (get_or C.groups i []))) (sym c.registry-registry.ensures.registry) (rw c.as_slice.ensures tell)) h)) in
    search (rules, k)

pub loop-i-preserved : goal.loop-i-preserved
loop-i-preserved g c =
    let C = c.args.corpus.now in
    let G = c.args.grammar.now in
    let i = c.loop-i.i in
    let l : i < length c.held.result.0.now = omega (arith, c.loop-i-test.true, c.len-i-end.ensures) in
    let registry = c.registry-registry.ensures.registry in
    record {
      patterns = c.count_segment.ensures.patterns ∙ c.loop-i.invariant.patterns;
      shop = c.count_segment.ensures.shop ∙ c.loop-i.invariant.shop;
      counts = λ images by.
          let many = groups_many images C.registry C.groups c.held.result.0.now c.held.result.1.now (c.held.ensures.stand images by) in
          let tell = told_group c.groups_are_told.ensures c.live_texts_are_numbered.ensures images C.registry C.groups c.held.result.0.now c.held.result.1.now (c.held.ensures.stand images by) c.held.ensures.tables c.held.ensures.groups
          i c.get-segment.result.now c.get-numbers.result.now l c.get-segment.ensures c.get-numbers.ensures in
          let L = live_texts (get_or C.groups i []) in
          let one : AreCountsOf images C.registry G L c.count_segment.new.counts =
          subst (λ (r : Registry). AreCountsOf images r G L c.count_segment.new.counts) registry
          (c.in_ok-count_segment.ensures.counts images L (subst (λ (r : Registry). TellAll images r c.get-segment.result.now c.as_slice.result.now L) (sym registry) (rw c.as_slice.ensures tell))) in
          subst (λ (ts : List Text). AreCountsOf images C.registry G ts c.add.new.self) (corpus_more C.groups i (omega (arith, l, many)))
          (c.in_ok-add.ensures.ok images C.registry G (corpus_of (take i C.groups)) L (c.loop-i.invariant.counts images by)
          (subst (λ (counted : Counted). AreCountsOf images C.registry G L counted) (sym c.noted.ensures) one));
      room = λ images by.
          let many = groups_many images C.registry C.groups c.held.result.0.now c.held.result.1.now (c.held.ensures.stand images by) in
          let tell = told_group c.groups_are_told.ensures c.live_texts_are_numbered.ensures images C.registry C.groups c.held.result.0.now c.held.result.1.now (c.held.ensures.stand images by) c.held.ensures.tables c.held.ensures.groups
          i c.get-segment.result.now c.get-numbers.result.now l c.get-segment.ensures c.get-numbers.ensures in
          subst (HasRoom images C.registry G) (corpus_more C.groups i (omega (arith, l, many)))
          (room_both images C.registry G (corpus_of (take i C.groups)) (live_texts (get_or C.groups i [])) (c.loop-i.invariant.room images by)
          (subst (λ (r : Registry). HasRoom images r G (live_texts (get_or C.groups i []))) registry
          (c.in_ok-count_segment.ensures.room images (live_texts (get_or C.groups i []))
          (subst (λ (r : Registry). TellAll images r c.get-segment.result.now c.as_slice.result.now (live_texts (get_or C.groups i []))) (sym registry) (rw c.as_slice.ensures tell)))));
    }

pub returns-clause-counts : goal.returns-clause-counts
returns-clause-counts g c = λ images by.
    let C = c.args.corpus.now in
    let many = groups_many images C.registry C.groups c.held.result.0.now c.held.result.1.now (c.held.ensures.stand images by) in
    subst (λ (ts : List Text). AreCountsOf images C.registry c.args.grammar.now ts c.loop-i.triples) (corpus_whole C.groups c.loop-i.i (omega (arith, c.loop-i-test.false, c.len-i-end.ensures, many))) (c.loop-i.invariant.counts images by)

pub returns-clause-room : goal.returns-clause-room
returns-clause-room g c = λ images by.
    let C = c.args.corpus.now in
    let many = groups_many images C.registry C.groups c.held.result.0.now c.held.result.1.now (c.held.ensures.stand images by) in
    subst (HasRoom images C.registry c.args.grammar.now) (corpus_whole C.groups c.loop-i.i (omega (arith, c.loop-i-test.false, c.len-i-end.ensures, many))) (c.loop-i.invariant.room images by)
