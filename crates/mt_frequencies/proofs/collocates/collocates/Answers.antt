-- One collocate more.
use Rattle.mt_frequencies.specs.Tokens.{told_tokens_with}
use Rattle.mt_frequencies.proofs.Collocated.{collocate_more}
use Rattle.mt_frequencies.proofs.collocates.collocates.Goals as goal

pub loop-one-preserved : goal.loop-one-preserved
loop-one-preserved c = λ scores are.
    let told = told_tokens_with c.args.segments.now c.args.attr c.args.live.now in
    collocate_more scores c.args.spans told c.args.frequent.now c.loop-one.one-index c.one-item.result c.in_ok-tokens.tokens c.new.result c.loop-one.all.items c.push.new.self.items c.loop-one-test.true c.one-item.is
    (c.in_ok-tokens.ensures c.args.live.now c.requires.stand c.in_ok-passed.ensures) (c.new.ensures scores are) (c.loop-one.invariant scores are) c.in_ok-push.ensures.items
