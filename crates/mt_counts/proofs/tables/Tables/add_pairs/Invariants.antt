-- The pairs at so many places are added.
use Rattle.std.proofs.Common.{◌≡◌, ◌++◌, map, take}
use Rattle.mt_counts.specs.Listed.{pair_at}
use Rattle.mt_counts.proofs.tables.Tables.add_pairs.Given as goal

abbrev pub invariant-loop-place : goal.invariant-loop-place
invariant-loop-place l = l.pairs ≡ l.initial.pairs ++ map (pair_at l.self.words l.self.both l.self.columns l.name) (take l.place-index l.places)
