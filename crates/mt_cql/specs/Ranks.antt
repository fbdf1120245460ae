-- Where a part of a query stands, and the names of attributes there.
use Rattle.std.specs.Prelude.{ℕ, List, Option, None, Some}
use Rattle.mt_text_spec.specs.Registries.{Registry, attr_names, kind_attrs}
use Rattle.mt_query_spec.specs.Trees as tree
use Rattle.mt_cql.specs.declared.printer.TestRank.{TestRank}
use Rattle.mt_cql.specs.declared.printer.TestRank.TheVariants.{Unary, Conjunction, Whole}
use Rattle.mt_cql.specs.declared.printer.Rank.{Rank}
use Rattle.mt_cql.specs.declared.printer.Rank.TheVariants.{Atom, Item, Sequence, Choice}

abbrev pub test_rank_seen : TestRank → tree.TestRank
test_rank_seen Unary = tree.Unary
test_rank_seen Conjunction = tree.Conjunction
test_rank_seen Whole = tree.Whole

abbrev pub rank_seen : Rank → tree.Rank
rank_seen Atom = tree.Atom
rank_seen Item = tree.Item
rank_seen Sequence = tree.Sequence
rank_seen Choice = tree.Choice

-- the names of attributes, of tokens or of the kind with a number
abbrev pub names_of : Registry → Option ℕ → List (List ℕ)
names_of registry None = attr_names registry.attrs
names_of registry (Some kind) = kind_attrs registry.kinds kind
