-- So many so far.
use Rattle.std.proofs.Common.{◌≡◌, length}
use Rattle.mt_prepare.proofs.sighted.no_rows.Given as goal

abbrev pub invariant-loop : goal.invariant-loop
invariant-loop l = length l.rows.items ≡ l.counter
