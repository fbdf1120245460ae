-- One place more.
use Rattle.std.proofs.Common.{ℕ, ◌+◌, refl}
use Rattle.mt_frequencies.specs.declared.seen.Reached.{Reached}
use Rattle.mt_frequencies.specs.Numbers.{number_in}
use Rattle.mt_frequencies.proofs.Parts.{part_more, part_none, part_past, part_room}
use Rattle.mt_frequencies.proofs.walk.count_part.Goals as goal

-- one span reaches the place
one : ℕ → Reached
one span = record { first = span; behind = span + 1; own = 0 }

pub loop-place-init : goal.loop-place-init
loop-place-init g c = record { past = c.requires.past; part = part_none (number_in c.args.numbers.now) c.args.from c.args.span c.args.seen.now }

pub count_place-requires-clause-room : goal.count_place-requires-clause-room
unfolding one
count_place-requires-clause-room g c = part_room (one c.args.span) c.args.span (number_in c.args.numbers.now c.loop-place.place) c.loop-place.seen refl refl refl c.requires.few c.loop-place.invariant.past

pub loop-place-preserved : goal.loop-place-preserved
unfolding one
loop-place-preserved g c =
    let at = number_in c.args.numbers.now in
    record {
      past = part_past at c.args.from c.loop-place.place c.args.span (one c.args.span) c.args.seen.now c.loop-place.seen c.count_place.new.seen c.loop-place.auto.place refl refl refl c.loop-place.invariant.past c.loop-place.invariant.part c.count_place.ensures;
      part = part_more at c.args.from c.loop-place.place c.args.span (one c.args.span) c.args.seen.now c.loop-place.seen c.count_place.new.seen c.loop-place.auto.place refl refl refl c.loop-place.invariant.past c.loop-place.invariant.part c.count_place.ensures;
    }
