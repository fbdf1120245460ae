use Rattle.std.proofs.Common.{◌<◌, [], length, get_or, refl, arith}
use Rattle.std.proofs.lemmas.Option.{slice_get-get_or}
use Rattle.mt_frequencies.specs.Tallies.{counts_in}
use Rattle.mt_frequencies.proofs.Amounts.{added_next, has_room}
use Rattle.mt_frequencies.proofs.joining.put_counts.Goals as goal

pub put_count-requires-clause-few : goal.put_count-requires-clause-few
put_count-requires-clause-few c = λ value at.
    let within : c.loop-number.number < length c.args.counts.now = omega (arith, c.loop-number-test.true, c.len-number-end.ensures.number, c.requires.count) in
    let room = has_room c.args.lexicon.now c.args.counts.now c.loop-number.number value within at (counts_in c.args.tally.now) (counts_in c.loop-number.tally) c.loop-number.invariant c.requires.few in
    omega (arith, room)

pub loop-number-preserved : goal.loop-number-preserved
loop-number-preserved c =
    let below : c.loop-number.number < length c.args.lexicon.now = omega (arith, c.loop-number-test.true, c.len-number-end.ensures.number) in
    let within : c.loop-number.number < length c.args.counts.now = omega (arith, below, c.requires.count) in
    let value = get_or c.args.lexicon.now c.loop-number.number [] in
    let at = slice_get-get_or c.args.lexicon.now c.loop-number.number [] below in
    added_next c.args.lexicon.now c.args.counts.now c.loop-number.number value within at (counts_in c.args.tally.now) (counts_in c.loop-number.tally) c.loop-number.invariant (counts_in c.put_count.new.tally) (get_or c.args.counts.now c.loop-number.number 0) refl (c.in_ok-put_count.ensures value at)
