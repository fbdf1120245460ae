-- The codes of the parts so far went through the table.
use Rattle.std.proofs.Common.{◌≡◌, ◌++◌, take}
use Rattle.mt_lexicon.specs.Joins.{renumbered}
use Rattle.mt_generate_tables.specs.Coded.{all_codes}
use Rattle.mt_generate_tables.proofs.drawing.push_parts.Given as goal

abbrev pub invariant-loop-k : goal.invariant-loop-k
invariant-loop-k l = l.numbers.items ≡ l.initial.numbers.items ++ renumbered l.table (all_codes (take l.k l.parts))
