use Rattle.std.proofs.Common.{map, arith}
use Rattle.mt_lexicon.proofs.Merged.{two_merged, two_pushed, two_shown}
use Rattle.mt_lexicon.proofs.merger.merge_few.Goals as goal

pub returns : goal.returns
returns c =
    let one = c.in-Some.ensures.cases in
    let two = c.in-Some-split_first.ensures.cases in
    two_merged (map (λ part. part.now) c.args.parts.now) c.in-Some.first.now.now c.in-Some-split_first.second.now.now c.in_ok-joined-2.joined.lexicon c.in_ok-joined-2.joined.first c.in_ok-joined-2.joined.second c.push-3.new.self.items
    (two_shown (λ part. part.now) c.args.parts.now c.in-Some.others.now c.in-Some-split_first.field-0-1.now c.in-Some.first.now c.in-Some-split_first.second.now one.0 two.0 (omega (arith, one.1, two.1, c.requires.few)))
    c.in_ok-joined-2.ensures
    (two_pushed c.new-renumberings.result.items c.push-2.new.self.items c.push-3.new.self.items c.in_ok-joined-2.joined.first c.in_ok-joined-2.joined.second c.new-renumberings.ensures.items c.in_ok-push-2.ensures.items c.in_ok-push-3.ensures.items)
