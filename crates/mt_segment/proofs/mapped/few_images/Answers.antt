use Rattle.std.proofs.Common.{ℕ, ◌+◌, length, ◌∙◌, ap, arith}
use Rattle.mt_mapper.specs.Calls.{counted}
use Rattle.mt_segment.proofs.Calls.{called_some, counted_more}
use Rattle.mt_segment.proofs.Mappings.{images_more}
use Rattle.mt_segment.proofs.mapped.few_images.Goals as goal

pub returns-in_err-map-clause-calls : goal.returns-in_err-map-clause-calls
returns-in_err-map-clause-calls g c =
    let m = g.M.Mapper in
    called_some (length c.args.lexicon.now) (c.loop-id.id + 1) (m.calls c.args.mapper.now) (m.calls c.map.new.self) c.from_residual-in_err-map.result c.from_residual-in_err-map.ensures.0 (omega (arith, c.loop-id-test.true, c.len-id-end.ensures.number))
    (c.map.ensures.calls ∙ ap (λ (n : ℕ). counted n 1) c.loop-id.invariant.calls ∙ counted_more (m.calls c.args.mapper.now) c.loop-id.id 1)

pub returns-in_err-push-clause-calls : goal.returns-in_err-push-clause-calls
returns-in_err-push-clause-calls g c =
    let m = g.M.Mapper in
    called_some (length c.args.lexicon.now) (c.loop-id.id + 1) (m.calls c.args.mapper.now) (m.calls c.map.new.self) c.from_residual-in_err-push.result c.from_residual-in_err-push.ensures.0 (omega (arith, c.loop-id-test.true, c.len-id-end.ensures.number))
    (c.map.ensures.calls ∙ ap (λ (n : ℕ). counted n 1) c.loop-id.invariant.calls ∙ counted_more (m.calls c.args.mapper.now) c.loop-id.id 1)

pub loop-id-preserved : goal.loop-id-preserved
loop-id-preserved g c =
    let m = g.M.Mapper in
    record {
      image = c.map.ensures.image ∙ c.loop-id.invariant.image;
      called = c.map.ensures.called ∙ c.loop-id.invariant.called;
      calls = c.map.ensures.calls ∙ ap (λ (n : ℕ). counted n 1) c.loop-id.invariant.calls ∙ counted_more (m.calls c.args.mapper.now) c.loop-id.id 1;
      images = images_more (m.image c.args.mapper.now) (m.image c.loop-id.mapper) c.args.lexicon.now c.loop-id.kept c.push.new.self c.loop-id.id c.value.result.now c.as_str.result.now
          c.loop-id.invariant.images c.value.ensures (c.as_str.ensures.value ∙ c.in_ok-map.ensures.out) c.loop-id.invariant.image c.in_ok-push.ensures.ok;
    }
