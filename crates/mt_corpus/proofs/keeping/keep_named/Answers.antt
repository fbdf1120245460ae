use Rattle.std.proofs.Common.{◌-◌, length, map, sym, ◌∙◌, ap, subst, arith}
use Rattle.std.proofs.lemmas.Option.{slice_get_within}
use Rattle.mt_corpus.specs.Keeping.{AgreeWith, is_named}
use Rattle.mt_segment.specs.Mappers.{AreThere, image_by, named}
use Rattle.mt_corpus.proofs.Kept.{answered, nothing_done, all_done, turn_back, same_images, still_there}
use Rattle.mt_corpus.proofs.keeping.keep_named.Goals as goal

pub loop-number-init : goal.loop-number-init
loop-number-init g c = nothing_done g.M.Mapper.called (is_named c.args.registry.now) c.args.mappers.now.items c.len-number.result (omega (arith, c.args.mappers.now.ok.0, c.len-number.ensures))

pub is_kept-requires-after_bounds : goal.is_kept-requires-after_bounds
is_kept-requires-after_bounds g c κs k =
    let t = turn_back g.M.Mapper.called (is_named c.args.registry.now) c.args.mappers.now.items c.loop-number.mappers.items c.loop-number.number c.loop-number-test.true
    (omega (arith, c.args.mappers.now.ok.0, c.len-number.ensures, c.loop-number.auto.number)) c.loop-number.invariant in
    let l = slice_get_within c.loop-number.mappers.items (c.loop-number.number - 1) t.item t.there in
    omega (arith, ap length c.as_slice.ensures.value)

pub loop-number-preserved-then-not-is_kept : goal.loop-number-preserved-then-not-is_kept
loop-number-preserved-then-not-is_kept g c =
    let t = turn_back g.M.Mapper.called (is_named c.args.registry.now) c.args.mappers.now.items c.loop-number.mappers.items c.loop-number.number c.loop-number-test.true
    (omega (arith, c.args.mappers.now.ok.0, c.len-number.ensures, c.loop-number.auto.number)) c.loop-number.invariant in
    let answer = answered g.M.Mapper.called (is_named c.args.registry.now) c.args.mappers.now.items c.loop-number.mappers.items c.as_slice.result.now (c.loop-number.number - 1) c.is_kept.result t c.as_slice.ensures.value c.is_kept.ensures in
    c.remove.ensures.by_index.2 ∙ t.dropped (answer ∙ c.if-not-is_kept.true)

pub loop-number-preserved : goal.loop-number-preserved
loop-number-preserved g c =
    let t = turn_back g.M.Mapper.called (is_named c.args.registry.now) c.args.mappers.now.items c.loop-number.mappers.items c.loop-number.number c.loop-number-test.true
    (omega (arith, c.args.mappers.now.ok.0, c.len-number.ensures, c.loop-number.auto.number)) c.loop-number.invariant in
    let answer = answered g.M.Mapper.called (is_named c.args.registry.now) c.args.mappers.now.items c.loop-number.mappers.items c.as_slice.result.now (c.loop-number.number - 1) c.is_kept.result t c.as_slice.ensures.value c.is_kept.ensures in
    t.kept (answer ∙ c.if-not-is_kept.false)

pub returns : goal.returns
returns g c =
    let done = all_done g.M.Mapper.called (is_named c.args.registry.now) c.args.mappers.now.items c.loop-number.mappers.items c.loop-number.number (omega (arith, c.loop-number-test.false)) c.loop-number.invariant in
    record {
      kept = done;
      there = λ all. subst (λ ms. AreThere (map g.M.Mapper.called ms) c.args.registry.now.attrs) (sym done) (still_there g.M.Mapper.called g.M.Mapper.image c.args.registry.now c.args.mappers.now.items all);
      images = subst (λ ms. AgreeWith (image_by (named g.M.Mapper.called g.M.Mapper.image c.args.mappers.now.items)) (named g.M.Mapper.called g.M.Mapper.image ms) c.args.registry.now) (sym done) (same_images g.M.Mapper.called g.M.Mapper.image c.args.registry.now c.args.mappers.now.items);
    }
