-- The input goes on or has ended as before.
use Rattle.std.proofs.Common.{◌≡◌}
use Rattle.mt_items.proofs.wanting.take.Given as goal

abbrev pub invariant-loop : goal.invariant-loop
invariant-loop l = l.reader.ended ≡ l.fn.reader.ended
