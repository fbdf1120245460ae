-- The segments so far have their counts.
use Rattle.std.proofs.Common.{◌≡◌, ℕ, ◌<◌, [], length, get_or}
use Rattle.mt_segment_spec.specs.Tables.{Tables}
use Rattle.mt_frequencies.specs.Tokens.{ArePassed}
use Rattle.mt_frequencies.proofs.tokens.all_passed.Given as goal

abbrev pub invariant-loop-number : goal.invariant-loop-number
invariant-loop-number l = record {
  count : length l.all ≡ l.number;
  each : (k : ℕ) (tables : Tables) → k < l.number → ArePassed (get_or l.segments k tables) l.attr (get_or l.live k []) (get_or l.all k []);
}
