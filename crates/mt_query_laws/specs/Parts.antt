-- What the parser keeps of what it has read: the part of the query, and what of it is at fault.
use Rattle.std.specs.Prelude.{ℕ, ◌+◌, ◌*◌, ◌-◌, ◌^◌, ◌||◌, min, max, nat_lt, slice_index_or, Bool, false, cond, List, [], ◌∷◌, ◌++◌, Option, None, Some, Result}
use Rattle.mt_text_spec.specs.Registries.{Registry, attr_names, kind_names}
use Rattle.mt_text_spec.specs.Queries as q
use Rattle.mt_query_spec.specs.Trees.{Comparison, TestRank, Label, Repetition, Rank, Op, Filtered, Operand, Filters, CondTree}
use Rattle.mt_query_spec.specs.Meaning.{number_of, attrs_of_kind, or_first, undeclared, first_of, least_of, least, pattern_text, compared, least_turns, most_turns, label_number, turned_round, at_label, no_label, again, kind_of, FilterOf, chained, cond_label_fault, cond_of, cond_unknown}
use Rattle.mt_query_spec.specs.Verdicts.{Refusal, worst, judged}
use Rattle.mt_query_laws.specs.Machine.{TestWays}
use Rattle.mt_query_laws.specs.Exprs.{Ways}

-- a number, or the greatest that is kept
abbrev pub capped : ℕ → ℕ
capped n = min n (2 ^ 32 - 1)

-- what has more nodes than a query may have is not kept, but something small in its place, since it can only be refused
unfoldable pub kept : {X : Type 0} → (nodes : ℕ) → (small whole : X) → X
kept nodes small whole = cond (nat_lt 256 nodes) small whole

-- a test, or the one that asks nothing where it has too many nodes
abbrev pub kept_test : ℕ → q.Test → q.Test
kept_test nodes test = kept nodes q.Any test

-- an expression, or a small one in its place where it has too many nodes
abbrev pub kept_expr : ℕ → q.Expr → q.Expr
kept_expr nodes expr = kept nodes (q.TokenTest 0 q.Any) expr

-- a test, the first undeclared name in it, and its nodes
pub record TestPart : Type 0 where
  pub test : q.Test
  pub unknown : Option ℕ
  pub nodes : ℕ

-- a test negated
abbrev pub not_part : TestPart → TestPart
not_part inner = record { test = kept_test (capped (inner.nodes + 1)) (q.Not inner.test); unknown = inner.unknown; nodes = capped (inner.nodes + 1) }

-- two tests that both hold
abbrev pub both_part : TestPart → TestPart → TestPart
both_part left right = record {
  test = kept_test (capped (capped (left.nodes + right.nodes) + 1)) (q.Both left.test right.test);
  unknown = first_of left.unknown right.unknown;
  nodes = capped (capped (left.nodes + right.nodes) + 1);
}

-- two tests of which either holds
abbrev pub either_part : TestPart → TestPart → TestPart
either_part left right = record {
  test = kept_test (capped (capped (left.nodes + right.nodes) + 1)) (q.Either left.test right.test);
  unknown = first_of left.unknown right.unknown;
  nodes = capped (capped (left.nodes + right.nodes) + 1);
}

-- a comparison of the attribute of this name
abbrev pub compared_part : List (List ℕ) → ℕ → List ℕ → Comparison → List ℕ → TestPart
compared_part names at name comparison content =
    let found = number_of names name in record { test = compared (or_first found) comparison content; unknown = undeclared at found; nodes = 1 }

-- a bare string
abbrev pub pattern_part : ℕ → List ℕ → TestPart
pattern_part default content = record { test = q.Pattern default (pattern_text content) false; unknown = None; nodes = 1 }

-- the test that asks nothing
abbrev pub no_test_part : TestPart
no_test_part = record { test = q.Any; unknown = None; nodes = 1 }

-- a test, or the one that asks nothing
abbrev pub maybe_part : Option TestPart → TestPart
maybe_part None = no_test_part
maybe_part (Some test) = test

-- a test of any rank is kept alike
abbrev pub TestParts : TestRank → Type 0
TestParts rank = TestPart

-- the tests of tokens, and of the instances of a kind
abbrev pub token_part_ways : List (List ℕ) → ℕ → TestWays TestParts
token_part_ways names default = record {
  compared = compared_part names;
  bare = Some (pattern_part default);
  not = not_part;
  bracketed = λ x. x;
  one = λ x. x;
  both = both_part;
  sole = λ x. x;
  either = either_part;
}

-- how tests inside tags are built: without bare strings
abbrev pub tag_part_ways : List (List ℕ) → TestWays TestParts
tag_part_ways names = record {
  compared = compared_part names;
  bare = None;
  not = not_part;
  bracketed = λ x. x;
  one = λ x. x;
  both = both_part;
  sole = λ x. x;
  either = either_part;
}

-- an expression: where each label first stands in it, the least places of a label and a range at fault, the first undeclared name, its nodes and its size
pub record Part : Type 0 where
  pub expr : q.Expr
  pub labels : List (Option ℕ)
  pub label : Option ℕ
  pub range : Option ℕ
  pub unknown : Option ℕ
  pub nodes : ℕ
  pub size : ℕ

-- no label has a place
abbrev pub no_labels : List (Option ℕ)
no_labels = None ∷ None ∷ None ∷ None ∷ None ∷ None ∷ None ∷ None ∷ None ∷ []

-- the place of each label where there is only this one
abbrev pub label_places_of : Label → List (Option ℕ)
label_places_of label = at_label 1 label ∷ at_label 2 label ∷ at_label 3 label ∷ at_label 4 label ∷ at_label 5 label ∷ at_label 6 label ∷ at_label 7 label ∷ at_label 8 label
    ∷ at_label 9 label ∷ []

-- the first place of each label in two parts, one after the other
abbrev pub first_at : ℕ → List (Option ℕ) → List (Option ℕ) → Option ℕ
first_at i places others = first_of (slice_index_or places i None) (slice_index_or others i None)

-- the first place of each of the nine labels in two parts
abbrev pub firsts : List (Option ℕ) → List (Option ℕ) → List (Option ℕ)
firsts places others = first_at 0 places others ∷ first_at 1 places others ∷ first_at 2 places others ∷ first_at 3 places others ∷ first_at 4 places others
    ∷ first_at 5 places others ∷ first_at 6 places others ∷ first_at 7 places others ∷ first_at 8 places others ∷ []

-- a token that meets a test, under a label or none
abbrev pub token_part : Label → TestPart → Part
token_part label test = record {
  expr = kept_expr (capped (test.nodes + 1)) (q.TokenTest (label_number label) test.test);
  labels = label_places_of label;
  label = no_label label;
  range = None;
  unknown = test.unknown;
  nodes = capped (test.nodes + 1);
  size = 1;
}

-- the begin of an instance
abbrev pub begin_part : List (List ℕ) → ℕ → List ℕ → TestPart → Part
begin_part kinds at name test =
    let found = number_of kinds name in record {
      expr = kept_expr (capped (test.nodes + 1)) (q.Begin (or_first found) test.test);
      labels = no_labels;
      label = None;
      range = None;
      unknown = first_of (undeclared at found) test.unknown;
      nodes = capped (test.nodes + 1);
      size = 1;
    }

-- a whole instance
abbrev pub whole_part : List (List ℕ) → ℕ → List ℕ → TestPart → Part
whole_part kinds at name test =
    let found = number_of kinds name in record {
      expr = kept_expr (capped (test.nodes + 1)) (q.Whole (or_first found) test.test);
      labels = no_labels;
      label = None;
      range = None;
      unknown = first_of (undeclared at found) test.unknown;
      nodes = capped (test.nodes + 1);
      size = 1;
    }

-- the end of an instance
abbrev pub end_part : List (List ℕ) → ℕ → List ℕ → Part
end_part kinds at name =
    let found = number_of kinds name in record {
      expr = q.End (or_first found);
      labels = no_labels;
      label = None;
      range = None;
      unknown = undeclared at found;
      nodes = 1;
      size = 1;
    }

-- repeated so many times, where `turned` is the place of a `{` with the greater number first
abbrev pub repeats_part : Part → (turns most : ℕ) → (turned : Option ℕ) → Part
repeats_part inner turns most turned = record {
  expr = kept_expr (capped (inner.nodes + 1)) (q.Repeat inner.expr turns most);
  labels = inner.labels;
  label = least_of inner.label (cond (nat_lt 1 most) (least inner.labels) None);
  range = least_of inner.range turned;
  unknown = inner.unknown;
  nodes = capped (inner.nodes + 1);
  size = capped (inner.size * max 1 most);
}

-- an expression repeated
abbrev pub repeated_part : Part → Repetition → Part
repeated_part inner repetition = repeats_part inner (least_turns repetition) (most_turns repetition) (turned_round repetition)

-- one expression after another
abbrev pub then_part : Part → Part → Part
then_part left right = record {
  expr = kept_expr (capped (capped (left.nodes + right.nodes) + 1)) (q.Seq left.expr right.expr);
  labels = firsts left.labels right.labels;
  label = least_of left.label (least_of right.label (least (again left.labels right.labels)));
  range = least_of left.range right.range;
  unknown = first_of left.unknown right.unknown;
  nodes = capped (capped (left.nodes + right.nodes) + 1);
  size = capped (left.size + right.size);
}

-- either of two expressions
abbrev pub or_part : Part → Part → Part
or_part left right = record {
  expr = kept_expr (capped (capped (left.nodes + right.nodes) + 1)) (q.Choice left.expr right.expr);
  labels = firsts left.labels right.labels;
  label = least_of left.label right.label;
  range = least_of left.range right.range;
  unknown = first_of left.unknown right.unknown;
  nodes = capped (capped (left.nodes + right.nodes) + 1);
  size = capped (left.size + right.size);
}

-- an expression of any rank is kept alike
abbrev pub Parts : Rank → Type 0
Parts rank = Part

-- an operand with its filters
pub record OperandPart : Type 0 where
  pub head : q.Expr
  pub filters : q.Filters
  pub label : Option ℕ
  pub range : Option ℕ
  pub unknown : Option ℕ
  pub nodes : ℕ
  pub size : ℕ

-- filters, from left to right
pub record FiltersPart : Type 0 where
  pub filters : List FilterOf
  pub label : Option ℕ
  pub range : Option ℕ
  pub unknown : Option ℕ
  pub nodes : ℕ
  pub size : ℕ

-- an operand, or filters
abbrev pub FilterParts : Filtered → Type 0
FilterParts Operand = OperandPart
FilterParts Filters = FiltersPart

-- an operand without filters
abbrev pub plain_part : Part → OperandPart
plain_part choice = record {
  head = choice.expr;
  filters = q.NoMore;
  label = least_of choice.label (least choice.labels);
  range = choice.range;
  unknown = choice.unknown;
  nodes = choice.nodes;
  size = choice.size;
}

-- an operand with filters
abbrev pub with_filters_part : Part → FiltersPart → OperandPart
with_filters_part choice filters = record {
  head = kept_expr (capped (choice.nodes + filters.nodes)) choice.expr;
  filters = kept (capped (choice.nodes + filters.nodes)) q.NoMore (chained filters.filters);
  label = least_of (least_of choice.label (least choice.labels)) filters.label;
  range = least_of choice.range filters.range;
  unknown = first_of choice.unknown filters.unknown;
  nodes = capped (choice.nodes + filters.nodes);
  size = capped (choice.size + filters.size);
}

-- a filter of this kind with its operand
abbrev pub filter_of : q.FilterKind → OperandPart → FilterOf
filter_of kind operand = record { kind = kind; head = operand.head; filters = operand.filters }

-- the first filter, of this kind
abbrev pub filter_by : q.FilterKind → OperandPart → FiltersPart
filter_by kind operand = record {
  filters = kept (capped (operand.nodes + 1)) [] (filter_of kind operand ∷ []);
  label = operand.label;
  range = operand.range;
  unknown = operand.unknown;
  nodes = capped (operand.nodes + 1);
  size = operand.size;
}

-- one filter more, of this kind
abbrev pub more_by : FiltersPart → q.FilterKind → OperandPart → FiltersPart
more_by filters kind operand = record {
  filters = kept (capped (capped (filters.nodes + operand.nodes) + 1)) [] (filters.filters ++ filter_of kind operand ∷ []);
  label = least_of filters.label operand.label;
  range = least_of filters.range operand.range;
  unknown = first_of filters.unknown operand.unknown;
  nodes = capped (capped (filters.nodes + operand.nodes) + 1);
  size = capped (filters.size + operand.size);
}

-- a filter by an op and its operand
abbrev pub filter_part : Op → OperandPart → FiltersPart
filter_part op operand = filter_by (kind_of op) operand

-- one filter more, by an op and its operand
abbrev pub more_part : FiltersPart → Op → OperandPart → FiltersPart
more_part filters op operand = more_by filters (kind_of op) operand

-- conditions, from left to right
pub record CondsPart : Type 0 where
  pub conds : List q.Cond
  pub label : Option ℕ
  pub unknown : Option ℕ
  pub nodes : ℕ

-- one condition more
abbrev pub cond_part : Registry → Part → CondsPart → CondTree → CondsPart
cond_part registry head conds c = record {
  conds = conds.conds ++ cond_of registry c ∷ [];
  label = least_of conds.label (cond_label_fault head.labels c);
  unknown = first_of conds.unknown (cond_unknown registry c);
  nodes = capped (conds.nodes + 1);
}

-- what is said of a whole query
abbrev pub great : ℕ → ℕ → Bool
great nodes size = nat_lt 256 nodes || nat_lt 4096 size

-- what is said of a query without filters
abbrev pub asks_part : Part → CondsPart → Result q.Query Refusal
asks_part head conds = judged (worst head.range (least_of head.label conds.label)) (first_of head.unknown conds.unknown) (great (capped (head.nodes + conds.nodes)) head.size)
    (record { head = head.expr; filters = q.NoMore; conds = conds.conds })

-- what is said of a query with filters
abbrev pub asks_filtered_part : Part → FiltersPart → CondsPart → Result q.Query Refusal
asks_filtered_part head filters conds = judged (worst (least_of head.range filters.range) (least_of (least_of head.label filters.label) conds.label))
    (first_of (first_of head.unknown filters.unknown) conds.unknown)
    (great (capped (head.nodes + capped (filters.nodes + conds.nodes))) (capped (head.size + filters.size)))
    (record { head = head.expr; filters = chained filters.filters; conds = conds.conds })

-- how the parser builds each part of a query from those before it
abbrev pub part_ways : Registry → ℕ → Ways (λ of. TestParts) Parts FilterParts CondsPart (Result q.Query Refusal)
part_ways registry default = record {
  token_tests = token_part_ways (attr_names registry.attrs) default;
  tag_tests = λ name. tag_part_ways (attrs_of_kind registry name);
  token_test = λ label test. token_part label (maybe_part test);
  string = λ label content. token_part label (pattern_part default content);
  begin_tag = λ at name test. begin_part (kind_names registry.kinds) at name (maybe_part test);
  whole_tag = λ at name test. whole_part (kind_names registry.kinds) at name (maybe_part test);
  end_tag = end_part (kind_names registry.kinds);
  group = λ x. x;
  once = λ x. x;
  repeated = repeated_part;
  first = λ x. x;
  then = then_part;
  branch = λ x. x;
  or = or_part;
  plain = plain_part;
  with_filters = with_filters_part;
  filter = filter_part;
  more = more_part;
  no_conds = record { conds = []; label = None; unknown = None; nodes = 0 };
  cond = cond_part registry;
  asks = asks_part;
  asks_filtered = asks_filtered_part;
}
