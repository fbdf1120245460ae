-- The pairs so far are ranked.
use Rattle.std.proofs.Common.{◌≡◌, ◌++◌}
use Rattle.std.specs.List.{All}
use Rattle.std.specs.Vec.Iter.{into_iter_items}
use Rattle.mt_sketch.specs.Told.{candidates_of, IsSmall}
use Rattle.mt_sketch.proofs.collocates.ranked.Given as goal

abbrev pub invariant-loop-pair : goal.invariant-loop-pair
invariant-loop-pair l = record {
  seen : l.yielded ++ into_iter_items l.pair-iterator ≡ l.fn.pairs;
  words : l.words ≡ candidates_of l.left l.least l.yielded;
  small : All IsSmall l.words;
}
