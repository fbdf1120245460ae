-- What the parser builds where it builds the productions themselves.
use Rattle.std.proofs.Common.{List, [], ◌++◌, ◌∷◌, None, Some}
use Rattle.mt_query_spec.specs.Trees as tree
use Rattle.mt_query_spec.specs.Trees.{Tested, OfToken, OfTag, TestTree, ExprTree, FilterTree, CondTree, QueryTree, Rank, Filtered}
use Rattle.mt_query_laws.specs.Machine.{TestWays}
use Rattle.mt_query_laws.specs.Exprs.{Ways}

abbrev pub token_tree_ways : TestWays (TestTree OfToken)
token_tree_ways = record {
  compared = tree.Compared;
  bare = Some tree.Bare;
  not = tree.Not;
  bracketed = tree.Bracketed;
  one = tree.One;
  both = tree.Both;
  sole = tree.Sole;
  either = tree.Either;
}

abbrev pub tag_tree_ways : TestWays (TestTree OfTag)
tag_tree_ways = record {
  compared = tree.Compared;
  bare = None;
  not = tree.Not;
  bracketed = tree.Bracketed;
  one = tree.One;
  both = tree.Both;
  sole = tree.Sole;
  either = tree.Either;
}

abbrev pub tree_ways : Ways TestTree ExprTree FilterTree (List CondTree) QueryTree
tree_ways = record {
  token_tests = token_tree_ways;
  tag_tests = λ name. tag_tree_ways;
  token_test = tree.TokenTest;
  string = tree.String;
  begin_tag = tree.BeginTag;
  whole_tag = tree.WholeTag;
  end_tag = tree.EndTag;
  group = tree.Group;
  once = tree.Once;
  repeated = tree.Repeated;
  first = tree.First;
  then = tree.Then;
  branch = tree.Branch;
  or = tree.Or;
  plain = tree.Plain;
  with_filters = tree.WithFilters;
  filter = tree.Filter;
  more = tree.More;
  no_conds = [];
  cond = λ head conds cond. conds ++ cond ∷ [];
  asks = tree.Asks;
  asks_filtered = tree.AsksFiltered;
}
