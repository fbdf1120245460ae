use Rattle.std.proofs.Common.{ap, ◌∙◌, sym, refl, Some}
use Rattle.mt_counts.proofs.Lists.{head_more}
use Rattle.mt_counts.proofs.listing.add_heads.Goals as goal

pub get-requires : goal.get-requires
get-requires c = c.requires.names c.get-name.result.0 _ (record { count = c.get-name.result.1; there = c.get-name.ensures })

pub loop-place-preserved : goal.loop-place-preserved
loop-place-preserved c =
    head_more c.args.names.now c.args.tally.now c.args.unary c.args.places.now c.args.heads.now c.loop-place.heads c.push.new.self c.loop-place.place-index _ c.get-name.result c.in_ok-name.name
    c.loop-place.invariant c.loop-place-test.true refl c.get-name.ensures (c.get.ensures ∙ ap Some (sym c.in_ok-name.ensures)) c.in_ok-push.ensures.ok
