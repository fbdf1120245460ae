use Rattle.std.proofs.Common.{◌≡◌, ◌++◌, ◌∷◌, [], List, map, length, refl, sym, ◌∙◌, ap, arith}
use Rattle.std.proofs.lemmas.List.{append-nil, take_all, length-map}
use Rattle.std.proofs.lemmas.Option.{slice_get_read, slice_get_within}
use Rattle.mt_text_spec.specs.Texts.{Row, Span}
use Rattle.mt_match_spec.specs.Labels.{no_labels}
use Rattle.mt_corpus_laws.specs.Joined.{placed}
use Rattle.mt_search.proofs.Places.{from_start, goes_on, moved, next_stands, no_label, one_placed, place_fits, place_of, row_of}
use Rattle.mt_search.proofs.placing.push_spans.Goals as goal

pub loop-i-init : goal.loop-i-init
loop-i-init c = (sym (append-nil c.args.rows.now), from_start c.args.more.now c.args.live.now)

pub place_among-place-requires : goal.place_among-place-requires
place_among-place-requires c =
    let spans = c.as_spans-spans.result.now in
    let at = slice_get_read spans (length spans) c.loop-i.i c.index-spans-i.result refl c.loop-i-test.true c.index-spans-i.is in
    let x = row_of c.args.more.now spans c.loop-i.i c.index-spans-i.result c.as_spans-spans.ensures at in
    next_stands c.args.more.now c.args.live.now c.loop-i.i c.loop-i.place x.row c.index-spans-i.result c.text.result c.loop-i.invariant.1 x.at x.spans c.text.ensures

pub overflow_cast-place : goal.overflow_cast-place
overflow_cast-place c = let fits = place_fits c.args.live.now c.text.result c.place_among-place.result c.args.before c.place_among-place.ensures c.requires.room in omega (arith, fits)

pub overflow_add-before : goal.overflow_add-before
overflow_add-before c = let fits = place_fits c.args.live.now c.text.result c.place_among-place.result c.args.before c.place_among-place.ensures c.requires.room in omega (arith, fits)

pub loop-i-preserved : goal.loop-i-preserved
loop-i-preserved c =
    let rows = c.args.more.now in
    let live = c.args.live.now in
    let spans = c.as_spans-spans.result.now in
    let span = c.index-spans-i.result in
    let at = slice_get_read spans (length spans) c.loop-i.i span refl c.loop-i-test.true c.index-spans-i.is in
    let x = row_of rows spans c.loop-i.i span c.as_spans-spans.ensures at in
    let l = slice_get_within rows c.loop-i.i x.row x.at in
    let place : c.place_among-place.result ≡ place_of live x.row.span.text = c.place_among-place.ensures ∙ ap (place_of live) (c.text.ensures ∙ ap (λ (s : Span). s.text) x.spans) in
    let none = no_label rows c.loop-i.i span c.requires.unlabelled x in
    let made : Row = record { span = c.new.result; labels = no_labels } in
    let other : made ≡ placed c.args.before live x.row = moved c.args.before live x.row span c.new.result c.place_among-place.result c.begin.result c.end.result x.spans place none c.begin.ensures c.end.ensures c.new.ensures in (
      one_placed c.args.before live rows c.args.rows.now c.push_unlabelled.new.self c.loop-i.i x.row made l x.is other
          (c.in_ok-push_unlabelled.ensures.ok ∙ ap (λ (rs : List Row). rs ++ made ∷ []) c.loop-i.invariant.0),
      goes_on rows live c.loop-i.i c.place_among-place.result x.row c.len.ensures.ascending c.requires.ascending c.requires.listed l x.is place,
    )

pub returns : goal.returns
returns c =
    let long = ap length c.as_spans-spans.ensures in
    let count = length-map c.args.more.now (λ (r : Row). r.span) in
    c.loop-i.invariant.0
    ∙ ap (λ (rs : List Row). c.args.rows.now ++ map (placed c.args.before c.args.live.now) rs) (take_all c.loop-i.i c.args.more.now (omega (arith, c.loop-i-test.false, long, count)))
