use Rattle.std.proofs.Common.{ap, ◌∙◌, sym, refl, Some}
use Rattle.mt_counts.proofs.Seconds.{pair_more}
use Rattle.mt_counts.proofs.tables.Tables.add_pairs.Goals as goal

pub get-requires : goal.get-requires
get-requires c = (c.requires.inside.both c.get-second.result.0 _ (record { count = c.get-second.result.1; there = c.get-second.ensures })).1

pub loop-place-preserved : goal.loop-place-preserved
loop-place-preserved c =
    pair_more c.args.self.now.words c.args.self.now.both c.args.self.now.columns c.args.name c.args.places.now c.args.pairs.now c.loop-place.pairs c.push.new.self c.loop-place.place-index _ c.get-second.result c.in_ok-word.word
    c.count_of-right.result c.loop-place.invariant c.loop-place-test.true refl c.get-second.ensures (c.get.ensures ∙ ap Some (sym c.in_ok-word.ensures)) c.count_of-right.ensures.count c.in_ok-push.ensures.ok
