-- So many pairs are listed.
use Rattle.std.proofs.Common.{◌≡◌, take}
use Rattle.mt_counts.specs.Notes.{pairs_of}
use Rattle.mt_counts.proofs.blocks.list_pairs.Given as goal

abbrev pub invariant-loop-k : goal.invariant-loop-k
invariant-loop-k l = l.pairs.items ≡ pairs_of (take l.k l.rows) (take l.k l.columns)
