-- The numbers so far went through the table.
use Rattle.std.proofs.Common.{◌≡◌, take}
use Rattle.mt_lexicon.specs.Joins.{renumbered}
use Rattle.mt_segment.proofs.mapped.through.Given as goal

abbrev pub invariant-loop-number : goal.invariant-loop-number
invariant-loop-number l = l.numbers.items ≡ renumbered l.table (take l.number-index l.column)
