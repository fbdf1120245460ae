use Rattle.std.proofs.Common.{drop}
use Rattle.mt_store_spec.specs.Positions.{codes}
use Rattle.mt_postings.proofs.Coding.{WritesTo}
use Rattle.mt_postings.proofs.postings.code_of.Given as goal

abbrev pub invariant-loop-position : goal.invariant-loop-position
invariant-loop-position l = WritesTo (codes 0 l.positions) l.writer l.least (drop l.position-index l.positions)
