-- One place more.
use Rattle.std.proofs.Common.{arith}
use Rattle.mt_frequencies.specs.Numbers.{number_in}
use Rattle.mt_frequencies.proofs.RunLaws.{run_each, run_more, run_none, run_past, run_room}
use Rattle.mt_frequencies.proofs.run.Run.count.Goals as goal

pub loop-place-init : goal.loop-place-init
loop-place-init g c = λ valid. run_none c.args.self.now valid (number_in c.args.numbers.now) c.args.seen.now c.requires.past c.first_place-place.result c.first_place-place.ensures

pub count_place-requires-clause-room : goal.count_place-requires-clause-room
count_place-requires-clause-room g c = run_room c.args.self.now c.requires.run (number_in c.args.numbers.now) c.args.seen.now c.requires.past c.loop-place.place c.reached.result c.reached.ensures c.loop-place.seen (c.loop-place.invariant c.requires.run)

pub loop-place-preserved : goal.loop-place-preserved
loop-place-preserved g c = λ valid. run_more c.args.self.now valid (number_in c.args.numbers.now) c.args.seen.now c.requires.past c.loop-place.place c.reached.result c.reached.ensures c.loop-place.seen (c.loop-place.invariant valid) c.count_place.new.seen c.count_place.ensures

pub returns-clause-past : goal.returns-clause-past
returns-clause-past g c = run_past c.args.self.now c.requires.run (number_in c.args.numbers.now) c.args.seen.now c.requires.past c.loop-place.place c.loop-place.seen (omega (arith, c.loop-place-test.false, c.end_place-place-end.ensures)) (c.loop-place.invariant c.requires.run)

pub returns-clause-each : goal.returns-clause-each
returns-clause-each g c = run_each c.args.self.now c.requires.run (number_in c.args.numbers.now) c.args.seen.now c.requires.past c.loop-place.place c.loop-place.seen (omega (arith, c.loop-place-test.false, c.end_place-place-end.ensures)) (c.loop-place.invariant c.requires.run)
