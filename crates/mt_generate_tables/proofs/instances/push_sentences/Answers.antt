use Rattle.std.proofs.Common.{◌≡◌, ℕ, ◌+◌, [], ◌∷◌, ◌++◌, map, sym, ◌∙◌, ap, arith}
use Rattle.std.specs.List.{range_with_len}
use Rattle.mt_text_spec.specs.Texts.{StructSpan}
use Rattle.mt_generate_spec.specs.Generated.{sentence}
use Rattle.mt_generate.proofs.Ranges.{map_range_more, sentence_is, end_of}
use Rattle.mt_generate_tables.proofs.instances.push_sentences.Goals as goal

one_more : (tokens number : ℕ) (last : StructSpan) → last ≡ sentence tokens number → map (sentence tokens) (range_with_len 0 number) ++ last ∷ [] ≡ map (sentence tokens) (range_with_len 0 (number + 1))
one_more tokens number last e =
    let at : number ≡ 0 + number = omega arith in
    ap (λ span. map (sentence tokens) (range_with_len 0 number) ++ span ∷ []) (e ∙ ap (sentence tokens) at) ∙ sym (map_range_more (sentence tokens) 0 number)

pub loop-number-preserved : goal.loop-number-preserved
loop-number-preserved c = λ before e.
    let end = end_of c.args.tokens c.loop-number.number _ _ c.ranges.tokens.fits c.saturating_add.ensures c.min-end.ensures in
    let one = sentence_is c.args.tokens c.loop-number.number _ _ _ c.new-in-loop-number.ensures end c.new.ensures in
    c.in_ok-push.ensures.ok before (map (sentence c.args.tokens) (range_with_len 0 c.loop-number.number)) (c.loop-number.invariant before e)
    ∙ ap (λ spans. before ++ spans ∷ []) (one_more c.args.tokens c.loop-number.number c.new-in-loop-number.result one)
