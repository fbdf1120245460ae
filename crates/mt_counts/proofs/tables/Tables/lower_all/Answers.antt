use Rattle.std.proofs.Common.{arith}
use Rattle.mt_counts.specs.Tables.{counted}
use Rattle.mt_counts.proofs.Joined.{taking_none, taking_next, taking_whole}
use Rattle.mt_counts.proofs.tables.Tables.lower_all.Goals as goal

pub loop-k-init : goal.loop-k-init
loop-k-init c = record { inside = c.requires.inside; taken = λ within. taking_none c.args.names.now c.args.words.now c.args.notes.now (counted c.args.self.now) }

pub loop-k-preserved : goal.loop-k-preserved
loop-k-preserved c = record {
  inside = c.lower_note.ensures.inside;
  taken = taking_next c.args.names.now c.args.words.now c.args.notes.now c.loop-k.k _ (counted c.args.self.now) (counted c.loop-k.self) (counted c.lower_note.new.self) c.loop-k-test.true c.loop-k.invariant.taken c.lower_note.ensures.taken;
}

pub returns-clause-taken : goal.returns-clause-taken
returns-clause-taken c = taking_whole c.args.names.now c.args.words.now c.args.notes.now c.loop-k.k (counted c.args.self.now) (counted c.loop-k.self) (omega arith) c.loop-k.invariant.taken
