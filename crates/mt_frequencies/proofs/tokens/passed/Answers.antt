-- Between live texts the tokens are counted.
use Rattle.std.proofs.Common.{◌≡◌, ℕ, length, arith, sym, subst}
use Rattle.mt_frequencies.specs.Tokens.{ArePassed}
use Rattle.mt_frequencies.proofs.Places.{IsPassedTo, all_are_passed, passed_more}
use Rattle.mt_frequencies.proofs.tokens.passed.Goals as goal

pub loop-text-preserved : goal.loop-text-preserved
loop-text-preserved c =
    passed_more c.args.segment.now c.args.attr c.loop-text.text-index c.loop-text.from c.text_bounds-begin.result.0 c.text_bounds-begin.result.1 c.args.live.now c.loop-text.counts.items c.count_tokens.new.counts.items c.requires.live c.loop-text-test.true
    c.text_bounds-begin.ensures.begin c.text_bounds-begin.ensures.end c.text_bounds-begin.ensures.order c.text_bounds-begin.ensures.within c.loop-text.invariant
    (record { count = c.count_tokens.ensures.count; few = c.count_tokens.ensures.few; each = c.count_tokens.ensures.each })

pub returns : goal.returns
returns c =
    let last : c.loop-text.text-index ≡ length c.args.live.now = omega (arith, c.loop-text-test.false, c.loop-text.auto.text-index-end) in
    subst (ArePassed c.args.segment.now c.args.attr c.args.live.now) (sym c.from_vec.ensures)
    (all_are_passed c.args.segment.now c.args.attr c.loop-text.from c.tokens.result c.args.live.now c.loop-text.counts.items c.count_tokens-2.new.counts.items c.tokens.ensures.count (omega (arith, c.loop-text.invariant.within, c.tokens.ensures.count))
    (subst (λ (n : ℕ). IsPassedTo c.args.segment.now c.args.attr n c.loop-text.from c.args.live.now c.loop-text.counts.items) last c.loop-text.invariant)
    (record { count = c.count_tokens-2.ensures.count; few = c.count_tokens-2.ensures.few; each = c.count_tokens-2.ensures.each }))
