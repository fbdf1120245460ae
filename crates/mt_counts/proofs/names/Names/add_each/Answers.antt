use Rattle.std.proofs.Common.{arith}
use Rattle.mt_counts.proofs.Numbering.{adding_more, adding_all, begins_then}
use Rattle.mt_counts.proofs.names.Names.add_each.Goals as goal

pub returns-in_err-number-clause-begins : goal.returns-in_err-number-clause-begins
returns-in_err-number-clause-begins c = begins_then c.args.self.now c.loop-k.self c.add.new.self c.loop-k.invariant.begins c.in_err-number.ensures.begins

pub returns-in_err-push-clause-begins : goal.returns-in_err-push-clause-begins
returns-in_err-push-clause-begins c = begins_then c.args.self.now c.loop-k.self c.add.new.self c.loop-k.invariant.begins c.in_ok-number.ensures.begins

pub loop-k-preserved : goal.loop-k-preserved
loop-k-preserved c =
    adding_more c.args.texts.now c.args.self.now c.loop-k.self c.add.new.self c.loop-k.numbers.items c.push.new.self.items c.loop-k.k c.in_ok-number.number c.get.result.now c.loop-k.invariant
    c.in_ok-number.ensures.begins c.get.ensures c.in_ok-number.ensures.number c.in_ok-push.ensures.items

pub returns-clause-numbers : goal.returns-clause-numbers
returns-clause-numbers c = adding_all c.args.texts.now c.args.self.now c.loop-k.self c.loop-k.numbers.items c.loop-k.k c.loop-k.invariant (omega arith) (omega arith)
