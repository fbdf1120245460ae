use Rattle.std.proofs.Common.{arith, sym, subst, List}
use Rattle.std.specs.List.{All}
use Rattle.std.proofs.lemmas.List.Elements.{All-push}
use Rattle.mt_word_sketch_spec.specs.Order.{Weighed}
use Rattle.mt_sketch.specs.Told.{IsSmall}
use Rattle.mt_sketch.proofs.Ranking.{taken, passed, seen_more}
use Rattle.mt_sketch.proofs.collocates.ranked.Goals as goal

pub loop-pair-preserved-in-Continue-1 : goal.loop-pair-preserved-in-Continue-1
loop-pair-preserved-in-Continue-1 c =
    let pair = c.in-Some.pair in
    record {
      seen = seen_more c.loop-pair.yielded c.in-Some.pair _ _ _ c.in-Some.ensures.steps.0 c.loop-pair.invariant.seen;
      words = taken c.args.left c.args.least c.loop-pair.yielded pair c.loop-pair.words c.push.new.self c.word_of.result c.loop-pair.invariant.words (omega (arith, c.if-pair-from.true, c.from.ensures)) c.word_of.ensures.is c.in_ok-push.ensures.ok;
      small = subst (λ (words : List Weighed). All IsSmall words) (sym c.in_ok-push.ensures.ok) (All-push IsSmall c.loop-pair.words c.word_of.result c.loop-pair.invariant.small c.word_of.ensures.small);
    }

pub loop-pair-preserved : goal.loop-pair-preserved
loop-pair-preserved c =
    record {
      seen = seen_more c.loop-pair.yielded c.in-Some.pair _ _ _ c.in-Some.ensures.steps.0 c.loop-pair.invariant.seen;
      words = passed c.args.left c.args.least c.loop-pair.yielded c.in-Some.pair c.loop-pair.words c.loop-pair.invariant.words (omega (arith, c.if-pair-from.false, c.from.ensures));
      small = c.loop-pair.invariant.small;
    }
