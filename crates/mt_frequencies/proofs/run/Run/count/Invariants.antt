-- The places so far are gone through.
use Rattle.mt_frequencies.specs.Numbers.{number_in}
use Rattle.mt_frequencies.specs.Runs.{IsRun}
use Rattle.mt_frequencies.proofs.RunLaws.{IsCountedTo}
use Rattle.mt_frequencies.proofs.run.Run.count.Given as goal

abbrev pub invariant-loop-place : goal.invariant-loop-place
invariant-loop-place g l = (valid : IsRun l.self) → IsCountedTo l.self valid (number_in l.numbers) l.place l.fn.seen l.seen
