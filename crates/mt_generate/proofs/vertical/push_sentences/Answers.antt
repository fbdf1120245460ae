use Rattle.std.proofs.Common.{◌-◌, ◌*◌, ◌++◌, ◌∙◌, ap}
use Rattle.std.specs.List.{flat_map}
use Rattle.mt_text_spec.specs.Lines.{closed}
use Rattle.mt_generate_spec.specs.Generated.{tokens_from}
use Rattle.mt_generate_spec.specs.Verticals.{sentence_of, sentence_lines}
use Rattle.mt_generate.proofs.Ranges.{groups_more, lines_of, begins_inside, next_place}
use Rattle.mt_generate.proofs.vertical.push_sentences.Goals as goal

pub loop-number-preserved : goal.loop-number-preserved
loop-number-preserved c =
    let inv = c.loop-number.invariant in
    let seed = c.args.source.now.seed in
    let tokens = c.args.tokens in
    let number = c.loop-number.number in
    let place = c.loop-number.source.place in
    let inside = begins_inside tokens number (rw (c.div_ceil-number-end.ensures, c.from-tokens.ensures) at c.loop-number-test.true) in
    let left = ap (λ t. t - 10 * number) c.from-tokens.ensures in
    let lines = lines_of seed tokens number place _ _ inside inv.place left c.min.ensures in
    record {
      seed = ap (λ s. s.seed) c.in_ok-push_sentence.ensures.next ∙ inv.seed;
      place = ap (λ s. s.place) c.in_ok-push_sentence.ensures.next ∙ next_place tokens number place _ _ inside inv.place left c.min.ensures;
      lines = groups_more (sentence_lines seed tokens) number c.args.out.now c.loop-number.out _ inv.lines
          (c.in_ok-push_sentence.ensures.lines ∙ ap (λ s. c.loop-number.out ++ flat_map closed (sentence_of (tokens_from s place c.min.result))) inv.seed ∙ ap (λ ls. c.loop-number.out ++ flat_map closed ls) lines);
    }
