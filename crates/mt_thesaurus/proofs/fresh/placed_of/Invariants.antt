-- The entries before this place are scored.
use Rattle.std.proofs.Common.{◌≤◌, length}
use Rattle.mt_thesaurus.specs.Building.{AreScored}
use Rattle.mt_thesaurus.proofs.fresh.placed_of.Given as goal

abbrev pub invariant-loop-place : goal.invariant-loop-place
invariant-loop-place l = record {
  scored : AreScored l.numbered.entries l.place l.placed.items;
  few : length l.placed.items ≤ l.place;
}
