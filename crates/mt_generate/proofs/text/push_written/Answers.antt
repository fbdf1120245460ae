use Rattle.std.proofs.Common.{◌+◌, ◌∙◌, ap}
use Rattle.mt_generate.proofs.Ranges.{tokens_more}
use Rattle.mt_generate.proofs.text.push_written.Goals as goal

pub loop-preserved : goal.loop-preserved
loop-preserved c =
    let inv = c.loop.invariant in
    record {
      seed = ap (λ s. s.seed) c.draw.ensures.next ∙ inv.seed;
      place = ap (λ s. s.place) c.draw.ensures.next ∙ ap (λ n. n + 1) inv.place;
      columns = c.in_ok-push.ensures.columns ∙ inv.columns;
      tokens = tokens_more c.args.seed c.loop.counter c.loop.all.tokens _ c.make_row.new.row _ _ _ inv.tokens c.in_ok-push.ensures.ok c.in_ok-make_row.ensures c.draw.ensures.token inv.seed inv.place;
    }
