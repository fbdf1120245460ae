-- So many counts are raised.
use Rattle.std.proofs.Common.{◌≡◌, ℕ, ◌+◌, List, take}
use Rattle.std.specs.List.{AllZip}
use Rattle.std.specs.Map.{keys_of}
use Rattle.mt_counts.specs.Tallies.{IsAt, each_once}
use Rattle.mt_counts.specs.Totals.{AddUp, total_of_all}
use Rattle.mt_counts.proofs.tally.raise_counts.Given as goal

abbrev pub invariant-loop-k : goal.invariant-loop-k
invariant-loop-k l = record {
  keys : keys_of l.counts.entries ≡ keys_of l.fn.counts.entries;
  sum : total_of_all l.counts.entries ≡ total_of_all l.fn.counts.entries + l.k;
  added : (keys : List (ℕ × ℕ)) → AllZip (IsAt l.fn.counts.entries) keys l.places → AddUp l.fn.counts.entries (each_once (take l.k keys)) l.counts.entries;
}
