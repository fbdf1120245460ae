-- What the state of a test that is being read stands for.
use Rattle.std.specs.Prelude.{ℕ, Bool, true, false, List, Option, None, Some, map, option_copied}
use Rattle.std.specs.Option.{option_map as map_option}
use Rattle.mt_query_spec.specs.Trees as tree
use Rattle.mt_cql.specs.declared.parts.TestPart.{TestPart}
use Rattle.mt_cql.specs.declared.tests.Comparison.{Comparison}
use Rattle.mt_cql.specs.declared.tests.Comparison.TheVariants.{Accepts, Refuses, Equals, Differs}
use Rattle.mt_cql.specs.declared.tests.Level.{Level}
use Rattle.mt_cql.specs.declared.tests.Names.{Names}
use Rattle.mt_cql.specs.declared.tests.Tests.{Tests}
use Rattle.mt_cql.specs.declared.tests.TestPhase.{TestPhase}
use Rattle.mt_cql.specs.declared.tests.TestPhase.TheVariants.{Wanted, Named, Compares, Read}
use Rattle.mt_query_laws.specs.Machine as m
use Rattle.mt_cql.specs.Named.{names_in}
use Rattle.mt_query_laws.specs.Parts as p
use Rattle.mt_cql.specs.Read.{test_part_seen}

-- the tests that name these attributes, where a bare string is a pattern for an attribute or is no test
abbrev pub test_ways : List (List ℕ) → Option ℕ → m.TestWays p.TestParts
test_ways names bare = record {
  compared = p.compared_part names;
  bare = map_option p.pattern_part bare;
  not = p.not_part;
  bracketed = λ x. x;
  one = λ x. x;
  both = p.both_part;
  sole = λ x. x;
  either = p.either_part;
}

-- the tests that may stand under some names
abbrev pub ways_of : Names → m.TestWays p.TestParts
ways_of names = test_ways (names_in names.registry.now (option_copied names.tag)) names.bare

abbrev pub comparison_seen : Comparison → tree.Comparison
comparison_seen Accepts = tree.Accepts
comparison_seen Refuses = tree.Refuses
comparison_seen Equals = tree.Equals
comparison_seen Differs = tree.Differs

abbrev pub maybe_comparison_seen : Option Comparison → Option tree.Comparison
maybe_comparison_seen None = None
maybe_comparison_seen (Some comparison) = Some (comparison_seen comparison)

abbrev pub maybe_test_part_seen : Option TestPart → Option p.TestPart
maybe_test_part_seen None = None
maybe_test_part_seen (Some part) = Some (test_part_seen part)

abbrev pub level_seen : Level → m.Level p.TestParts
level_seen level = record { either = maybe_test_part_seen level.either; both = maybe_test_part_seen level.both; nots = level.nots }

abbrev pub at_phase : TestPhase → Tests → m.TestState p.TestParts
at_phase Wanted tests = m.WantTest (level_seen tests.level) (map level_seen tests.outer)
at_phase (Named at name) tests = m.Named at name.now (level_seen tests.level) (map level_seen tests.outer)
at_phase (Compares at name comparison) tests = m.Compares at name.now (comparison_seen comparison) (level_seen tests.level) (map level_seen tests.outer)
at_phase Read tests = m.HaveTest (test_part_seen tests.test) (maybe_test_part_seen tests.level.either) (map level_seen tests.outer)

abbrev pub tests_seen : Tests → m.TestState p.TestParts
tests_seen tests = at_phase tests.phase tests

-- where the reading of a test stands then, where it goes on
abbrev pub next_test : Bool → Tests → Option (m.TestState p.TestParts)
next_test true tests = Some (tests_seen tests)
next_test false tests = None
