use Rattle.std.proofs.Common.{◌≡◌}
use Rattle.mt_query_laws.specs.Machine.{nots_of}
use Rattle.mt_query_laws.specs.Parts.{not_part}
use Rattle.mt_cql.specs.Read.{test_part_seen}
use Rattle.mt_cql.proofs.tests.negated.Given as goal

abbrev pub invariant-loop-nots : goal.invariant-loop-nots
invariant-loop-nots l = nots_of not_part l.nots (test_part_seen l.test) ≡ nots_of not_part l.fn.nots (test_part_seen l.fn.test)

abbrev pub decreases-loop-nots : goal.decreases-loop-nots
decreases-loop-nots l = l.nots
