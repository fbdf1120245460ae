-- The numbers beside the codes so far are in the table.
use Rattle.mt_generate_tables.specs.Coded.{IsTableOf}
use Rattle.mt_generate_tables.proofs.numbering.by_code.Given as goal

abbrev pub invariant-loop-place : goal.invariant-loop-place
invariant-loop-place l = IsTableOf l.codes l.numbers l.place l.table.items
