use Rattle.std.proofs.Common.{◌≡◌, ◌+◌, ◌++◌, ◌∙◌, ap, arith}
use Rattle.mt_text_spec.specs.Lines.{closed}
use Rattle.mt_generate_spec.specs.Generated.{token_at}
use Rattle.mt_generate_spec.specs.Verticals.{token_line}
use Rattle.mt_generate.proofs.Ranges.{lines_more}
use Rattle.mt_generate.proofs.vertical.push_tokens.Goals as goal

pub loop-preserved : goal.loop-preserved
loop-preserved c =
    let inv = c.loop.invariant in
    let seed = c.args.source.now.seed in
    let place = c.args.source.now.place in
    let more : c.push_token.new.out ≡ c.loop.out ++ closed (token_line (token_at seed (place + c.loop.counter))) =
    c.in_ok-push_token.ensures ∙ ap (λ token. c.loop.out ++ closed (token_line token)) (c.draw.ensures.token ∙ ap (λ s. token_at s (c.loop.source.place)) inv.seed ∙ ap (token_at seed) inv.place)
    in
    record {
      seed = ap (λ s. s.seed) c.draw.ensures.next ∙ inv.seed;
      place = ap (λ s. s.place) c.draw.ensures.next ∙ ap (λ n. n + 1) inv.place ∙ omega arith;
      lines = lines_more token_line (token_at seed) place c.loop.counter c.args.out.now c.loop.out _ inv.lines more;
    }
