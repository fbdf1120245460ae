-- The rows of so many ranks are there.
use Rattle.std.proofs.Common.{◌≡◌}
use Rattle.mt_generate.specs.Sources.{rows_of}
use Rattle.mt_generate.proofs.text.rows.Given as goal

abbrev pub invariant-loop-rank : goal.invariant-loop-rank
invariant-loop-rank l = l.rows ≡ rows_of l.plural l.rank
