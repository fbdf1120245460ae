-- The numbers below `number` are done.
use Rattle.mt_places.specs.Places.{In}
use Rattle.mt_prepare.proofs.Sets.{SaysBelow}
use Rattle.mt_prepare.proofs.test_rows.sought_numbers.Given as goal

abbrev pub invariant-loop-number : goal.invariant-loop-number
invariant-loop-number l = SaysBelow (In l.numbers) l.count l.number l.sought.items
