use Rattle.std.proofs.Common.{take}
use Rattle.std.specs.List.{All}
use Rattle.mt_eval.specs.Sequences.{IsOne}
use Rattle.mt_eval.proofs.rarest.are_ones.Given as goal

abbrev pub invariant-loop-test : goal.invariant-loop-test
invariant-loop-test l = All IsOne (take l.test-index l.tests)
