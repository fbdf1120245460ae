use Rattle.std.proofs.Common.{length, drop}
use Rattle.mt_store_spec.specs.Positions.{codes}
use Rattle.mt_postings.proofs.Lengths.{MeasuresTo}
use Rattle.mt_postings.proofs.postings.code_bits.Given as goal

abbrev pub invariant-loop-position : goal.invariant-loop-position
invariant-loop-position l = MeasuresTo (length (codes 0 l.positions)) l.bits l.least (drop l.position-index l.positions)
