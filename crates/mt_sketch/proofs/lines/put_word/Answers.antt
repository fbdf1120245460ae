use Rattle.std.proofs.Common.{◌∙◌, ap, ◌++◌, ℤ, w32, FitsSigned, rules}
use Rattle.std.proofs.lemmas.Int.{to_z-of_z}
use Rattle.mt_sketch_spec.specs.Score.{sixteenths_text}
use Rattle.mt_triples.proofs.Telling.{ok_so}
use Rattle.mt_sketch.proofs.Writing.{line_put}
use Rattle.mt_sketch.proofs.lines.put_word.Goals as goal

pub returns : goal.returns
returns c =
    let fits : FitsSigned w32 c.score-score.result = search rules in
    let text = c.in_ok-write_sixteenths.ensures.ok ∙ ap (λ (k : ℤ). c.push-2.new.self ++ sixteenths_text k) (to_z-of_z w32 c.score-score.result fits) in
    ok_so c.push-3.result
    (λ last. line_put c.args.word.now c.part.result c.part-2.result c.whole.result c.score-score.result c.as_bytes.result.now c.args.out.now c.push.new.self c.extend.new.self c.put_number.new.out c.push-2.new.self c.write_sixteenths.new.out c.push-3.new.self
    c.part.ensures c.part-2.ensures c.whole.ensures.is c.score-score.ensures (c.as_bytes.ensures.value ∙ c.word.ensures) c.in_ok-push.ensures.ok c.in_ok-extend.ensures.ok c.in_ok-put_number.ensures c.in_ok-push-2.ensures.ok text last)
    c.push-3.ensures.ok
