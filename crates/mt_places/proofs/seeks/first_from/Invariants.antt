-- Nothing lies from the place up to the word `at`, of which `word` has the bits from the place on.
use Rattle.std.proofs.Common.{◌+◌, ◌-◌, ◌*◌, ◌<◌, length}
use Rattle.mt_places.proofs.Finding.{FromHere}
use Rattle.mt_places.proofs.seeks.first_from.Given as goal

abbrev pub invariant-loop-word : goal.invariant-loop-word
invariant-loop-word l =
    record {
      past : l.fn.place < 64 * (l.at + 1);
      within : l.at < length l.set;
      word : FromHere l.set l.fn.place l.at l.word;
    }

abbrev pub decreases-loop-word : goal.decreases-loop-word
decreases-loop-word l = length l.set - l.at
