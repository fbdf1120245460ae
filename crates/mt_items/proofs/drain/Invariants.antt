-- The input goes on or has ended as before.
use Rattle.std.proofs.Common.{◌≡◌}
use Rattle.mt_items.proofs.drain.Given as goal

abbrev pub invariant-loop : goal.invariant-loop
invariant-loop l = l.reader.ended ≡ l.fn.reader.ended
