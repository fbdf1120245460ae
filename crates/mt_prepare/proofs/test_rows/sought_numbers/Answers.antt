use Rattle.std.proofs.Common.{rules, arith}
use Rattle.mt_places.specs.Places.{In}
use Rattle.mt_prepare.proofs.Sets.{nothing_said, one_said, all_said}
use Rattle.mt_prepare.proofs.test_rows.sought_numbers.Goals as goal

pub loop-number-init : goal.loop-number-init
loop-number-init c = nothing_said (In c.args.numbers.now) c.args.count c.in_ok-sought.sought.items (search rules)

pub loop-number-preserved : goal.loop-number-preserved
loop-number-preserved c =
    one_said (In c.args.numbers.now) c.args.count c.loop-number.number c.loop-number.sought.items c.contains.result (omega arith) c.contains.ensures.yes c.contains.ensures.no c.loop-number.invariant

pub returns : goal.returns
returns c = all_said (In c.args.numbers.now) c.args.count c.loop-number.number c.loop-number.sought.items (omega arith) c.loop-number.invariant
