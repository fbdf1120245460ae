-- The numbers of the entries so far.
use Rattle.std.proofs.Common.{◌≡◌, map, take}
use Rattle.mt_lexicon.proofs.builder.order_of.Given as goal

abbrev pub invariant-loop-entry : goal.invariant-loop-entry
invariant-loop-entry l = l.order.items ≡ map (λ entry. entry.number) (take l.entry-index l.entry-items)
