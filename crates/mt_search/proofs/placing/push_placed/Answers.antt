use Rattle.std.proofs.Common.{◌≡◌, ℕ, ◌+◌, ◌++◌, ◌∷◌, [], List, map, sym, ◌∙◌, ap, arith}
use Rattle.std.proofs.lemmas.List.{append-nil, take_all}
use Rattle.std.proofs.lemmas.Option.{get_or_from_slice_get, slice_get_within}
use Rattle.mt_text_spec.specs.Texts.{Row, Span}
use Rattle.mt_corpus_laws.specs.Laws.{row_to}
use Rattle.mt_corpus_laws.specs.Joined.{placed}
use Rattle.mt_search.proofs.Places.{from_start, goes_on, next_stands, one_placed, place_fits, place_of}
use Rattle.mt_search.proofs.placing.push_placed.Goals as goal

pub loop-i-init : goal.loop-i-init
loop-i-init c = (sym (append-nil c.args.rows.now), from_start c.args.more.now c.args.live.now)

pub place_among-place-requires : goal.place_among-place-requires
place_among-place-requires c = next_stands c.args.more.now c.args.live.now c.loop-i.i c.loop-i.place c.get-row.result c.span.result c.text.result c.loop-i.invariant.1 c.get-row.ensures c.span.ensures c.text.ensures

pub overflow_cast-place : goal.overflow_cast-place
overflow_cast-place c = let fits = place_fits c.args.live.now c.text.result c.place_among-place.result c.args.before c.place_among-place.ensures c.requires.room in omega (arith, fits)

pub overflow_add-before : goal.overflow_add-before
overflow_add-before c = let fits = place_fits c.args.live.now c.text.result c.place_among-place.result c.args.before c.place_among-place.ensures c.requires.room in omega (arith, fits)

pub loop-i-preserved : goal.loop-i-preserved
loop-i-preserved c =
    let row = c.get-row.result in
    let l = slice_get_within c.args.more.now c.loop-i.i row c.get-row.ensures in
    let is = get_or_from_slice_get c.args.more.now c.loop-i.i row row c.get-row.ensures in
    let place : c.place_among-place.result ≡ place_of c.args.live.now row.span.text =
    c.place_among-place.ensures ∙ ap (place_of c.args.live.now) (c.text.ensures ∙ ap (λ (s : Span). s.text) c.span.ensures) in
    let other : c.row_in.result ≡ placed c.args.before c.args.live.now row = c.row_in.ensures ∙ ap (λ (n : ℕ). row_to (c.args.before + n) row) place in (
      one_placed c.args.before c.args.live.now c.args.more.now c.args.rows.now c.push.new.self c.loop-i.i row c.row_in.result l is other (c.in_ok-push.ensures.ok ∙ ap (λ (rs : List Row). rs ++ c.row_in.result ∷ []) c.loop-i.invariant.0),
      goes_on c.args.more.now c.args.live.now c.loop-i.i c.place_among-place.result row c.len-i-end.ensures.ascending c.requires.ascending c.requires.listed l is place,
    )

pub returns : goal.returns
returns c =
    c.loop-i.invariant.0
    ∙ ap (λ (rs : List Row). c.args.rows.now ++ map (placed c.args.before c.args.live.now) rs) (take_all c.loop-i.i c.args.more.now (omega (arith, c.loop-i-test.false, c.len-i-end.ensures.count)))
