-- What the parser keeps is what the productions mean: each step does to the parts what it does to the productions.
use Rattle.std.proofs.Common.{ℕ, zero, suc, ◌+◌, ◌≡◌, ◌≤◌, List, [], ◌∷◌, ◌++◌, None, Some, Option, refl, sym, ◌∙◌, ap, length, map, arith, length-append}
use Rattle.std.proofs.lemmas.List.{length-map}
use Rattle.mt_text_spec.specs.Registries.{Registry, attr_names, kind_names}
use Rattle.mt_query_spec.specs.Tokens.{Token, Quoted, Number, Word, OpenCurly, Mark, Sign}
use Rattle.mt_query_spec.specs.Tokens as t
use Rattle.mt_text_spec.specs.Queries as q
use Rattle.mt_query_spec.specs.Trees as tree
use Rattle.mt_query_spec.specs.Trees.{Tested, OfToken, OfTag, TestTree, TestRank, Unary, Conjunction, Whole, Comparison, Accepts, Refuses, Equals, Differs, Label, NoLabel, Labelled, Repetition, Rank, Atom, Item, Sequence, Choice, ExprTree, Op, Filtered, Operand, Filters, FilterTree, CondTree, QueryTree}
use Rattle.mt_query_spec.specs.Measures.{test_nodes, expr_nodes, expr_size, filter_nodes, filter_size}
use Rattle.mt_query_spec.specs.Meaning.{number_of, or_first, label_number, least_turns, most_turns, attrs_of_kind, test_of, test_unknown, expr_of, expr_unknown, range_fault, label_fault, label_places, FilterOf, kind_of, chained, filters_of, filters_unknown, filters_range_fault, filters_label_fault, cond_of, cond_unknown, cond_label_fault, conds_label_fault, conds_unknown, first_of, least_of, query_of as meaning_of}
use Rattle.mt_query_spec.specs.Verdicts.{verdict, judged, worst}
use Rattle.mt_query_laws.specs.Machine.{TestWays, Level, TestState, WantTest, Named, Compares, HaveTest, nots_of, joined_of, have_test, comparison_of, want_step, named_step as test_named_step, compares_step, have_step, close_test, test_step, whole_test}
use Rattle.mt_query_laws.specs.Parts.{capped, kept, kept_test, kept_expr, great, TestPart, TestParts, Part, OperandPart, FiltersPart, CondsPart, not_part, both_part, either_part, compared_part, pattern_part, token_part_ways, tag_part_ways, maybe_part, token_part, begin_part, whole_part, end_part, repeated_part, then_part, or_part, plain_part, with_filters_part, filter_part, more_part, cond_part, asks_part, asks_filtered_part}
use Rattle.mt_query_laws.proofs.TestLaws.{ways_of, the_ways}
use Rattle.mt_query_laws.proofs.Kept.{kept_whole, kept_either, kept_in, kept_two, few_nodes, judged_alike}
use Rattle.mt_query_laws.proofs.Caps.{cap_more, cap_two, cap_sum, cap_three, cap_times, cap_below, first_of_none, first_of_three, least_of_none, least_of_three}

-- ## Tests

abbrev pub test_part : List (List ℕ) → (default : ℕ) → {of : Tested} {rank : TestRank} → TestTree of rank → TestPart
test_part names default test = record {
  test = kept_test (capped (test_nodes (test_of names default test))) (test_of names default test);
  unknown = test_unknown names test;
  nodes = capped (test_nodes (test_of names default test));
}

abbrev pub seen : {A B : Type 0} → (A → B) → Option A → Option B
seen f None = None
seen f (Some x) = Some (f x)

-- the ways to build tests of tokens and of tags alike
abbrev pub part_ways_of : List (List ℕ) → (default : ℕ) → Tested → TestWays TestParts
part_ways_of names default OfToken = token_part_ways names default
part_ways_of names default OfTag = tag_part_ways names

-- what a way to build tests does to parts and productions alike
pub record Alike (names : List (List ℕ)) (default : ℕ) (of : Tested) : Type 0 where
  pub nots : (test : TestTree of Unary) → (part_ways_of names default of).not (test_part names default test) ≡ test_part names default (tree.Not test)
  pub bracketed : (test : TestTree of Whole) → (part_ways_of names default of).bracketed (test_part names default test) ≡ test_part names default (tree.Bracketed test)
  pub ones : (test : TestTree of Unary) → (part_ways_of names default of).one (test_part names default test) ≡ test_part names default (tree.One test)
  pub boths : (left : TestTree of Conjunction) (right : TestTree of Unary)
      → (part_ways_of names default of).both (test_part names default left) (test_part names default right) ≡ test_part names default (tree.Both left right)
  pub soles : (test : TestTree of Conjunction) → (part_ways_of names default of).sole (test_part names default test) ≡ test_part names default (tree.Sole test)
  pub eithers : (left : TestTree of Whole) (right : TestTree of Conjunction)
      → (part_ways_of names default of).either (test_part names default left) (test_part names default right) ≡ test_part names default (tree.Either left right)
  pub comparisons : (at : ℕ) (name : List ℕ) (comparison : Comparison) (content : List ℕ)
      → (part_ways_of names default of).compared at name comparison content ≡ test_part names default {of = of} (tree.Compared at name comparison content)

not_alike : (names : List (List ℕ)) (default : ℕ) {of : Tested} (test : TestTree of Unary) → not_part (test_part names default test) ≡ test_part names default (tree.Not test)
not_alike names default test =
    let x = test_of names default test in
    let n = test_nodes x in
    rw (cap_more n, kept_in q.Not q.Any q.Any x (capped n) (capped (1 + n)) (omega arith)) refl

both_alike : (names : List (List ℕ)) (default : ℕ) {of : Tested} (left : TestTree of Conjunction) (right : TestTree of Unary)
    → both_part (test_part names default left) (test_part names default right) ≡ test_part names default (tree.Both left right)
both_alike names default left right =
    let x = test_of names default left in
    let y = test_of names default right in
    let n = test_nodes x in
    let k = test_nodes y in
    rw (cap_two n k, kept_two q.Both q.Any q.Any x q.Any y (capped n) (capped k) (capped (1 + (n + k))) (omega arith) (omega arith)) refl

either_alike : (names : List (List ℕ)) (default : ℕ) {of : Tested} (left : TestTree of Whole) (right : TestTree of Conjunction)
    → either_part (test_part names default left) (test_part names default right) ≡ test_part names default (tree.Either left right)
either_alike names default left right =
    let x = test_of names default left in
    let y = test_of names default right in
    let n = test_nodes x in
    let k = test_nodes y in
    rw (cap_two n k, kept_two q.Either q.Any q.Any x q.Any y (capped n) (capped k) (capped (1 + (n + k))) (omega arith) (omega arith)) refl

compared_alike : (names : List (List ℕ)) (default : ℕ) (of : Tested) (at : ℕ) (name : List ℕ) (comparison : Comparison) (content : List ℕ)
    → compared_part names at name comparison content ≡ test_part names default {of = of} (tree.Compared at name comparison content)
unfolding kept
compared_alike names default of at name Accepts content = refl
compared_alike names default of at name Refuses content = refl
compared_alike names default of at name Equals content = refl
compared_alike names default of at name Differs content = refl

alike : (names : List (List ℕ)) (default : ℕ) (of : Tested) → Alike names default of
alike names default OfToken = record {
  nots = not_alike names default;
  bracketed = λ test. refl;
  ones = λ test. refl;
  boths = both_alike names default;
  soles = λ test. refl;
  eithers = either_alike names default;
  comparisons = compared_alike names default OfToken;
}
alike names default OfTag = record {
  nots = not_alike names default;
  bracketed = λ test. refl;
  ones = λ test. refl;
  boths = both_alike names default;
  soles = λ test. refl;
  eithers = either_alike names default;
  comparisons = compared_alike names default OfTag;
}

abbrev pub seen_level : List (List ℕ) → (default : ℕ) → {of : Tested} → Level (TestTree of) → Level TestParts
seen_level names default level = record { either = seen (test_part names default) level.either; both = seen (test_part names default) level.both; nots = level.nots }

abbrev pub seen_levels : List (List ℕ) → (default : ℕ) → {of : Tested} → List (Level (TestTree of)) → List (Level TestParts)
seen_levels names default [] = []
seen_levels names default (level ∷ levels) = seen_level names default level ∷ seen_levels names default levels

abbrev pub seen_test : List (List ℕ) → (default : ℕ) → {of : Tested} → TestState (TestTree of) → TestState TestParts
seen_test names default (WantTest level outer) = WantTest (seen_level names default level) (seen_levels names default outer)
seen_test names default (Named at name level outer) = Named at name (seen_level names default level) (seen_levels names default outer)
seen_test names default (Compares at name comparison level outer) = Compares at name comparison (seen_level names default level) (seen_levels names default outer)
seen_test names default (HaveTest both either outer) = HaveTest (test_part names default both) (seen (test_part names default) either) (seen_levels names default outer)

nots_seen : (names : List (List ℕ)) (default : ℕ) {of : Tested} (n : ℕ) (test : TestTree of Unary)
    → nots_of (part_ways_of names default of).not n (test_part names default test) ≡ test_part names default (nots_of (ways_of (the_ways of)).not n test)
nots_seen names default zero test = refl
nots_seen names default {of = of} (suc n) test = rw ((alike names default of).nots test) (nots_seen names default n (tree.Not test))

both_seen : (names : List (List ℕ)) (default : ℕ) {of : Tested} (left : Option (TestTree of Conjunction)) (test : TestTree of Unary)
    → joined_of (part_ways_of names default of).one (part_ways_of names default of).both (seen (test_part names default) left) (test_part names default test) ≡ test_part names default (joined_of (ways_of (the_ways of)).one (ways_of (the_ways of)).both left test)
both_seen names default {of = of} None test = (alike names default of).ones test
both_seen names default {of = of} (Some left) test = (alike names default of).boths left test

either_seen : (names : List (List ℕ)) (default : ℕ) {of : Tested} (left : Option (TestTree of Whole)) (test : TestTree of Conjunction)
    → joined_of (part_ways_of names default of).sole (part_ways_of names default of).either (seen (test_part names default) left) (test_part names default test) ≡ test_part names default (joined_of (ways_of (the_ways of)).sole (ways_of (the_ways of)).either left test)
either_seen names default {of = of} None test = (alike names default of).soles test
either_seen names default {of = of} (Some left) test = (alike names default of).eithers left test

have_seen : (names : List (List ℕ)) (default : ℕ) {of : Tested} (test : TestTree of Unary) (level : Level (TestTree of)) (outer : List (Level (TestTree of)))
    → have_test (part_ways_of names default of) (test_part names default test) (seen_level names default level) (seen_levels names default outer)
    ≡ seen_test names default (have_test (ways_of (the_ways of)) test level outer)
have_seen names default {of = of} test level outer =
    rw (nots_seen names default level.nots test, both_seen names default level.both (nots_of (ways_of (the_ways of)).not level.nots test)) refl

-- what a step gives on parts and on productions
abbrev TestsAlike : (names : List (List ℕ)) (default : ℕ) {of : Tested} → Option (TestState TestParts) → Option (TestState (TestTree of)) → Type 0
TestsAlike names default parts trees = parts ≡ seen (seen_test names default) trees

want_seen : (names : List (List ℕ)) (default : ℕ) {of : Tested} (level : Level (TestTree of)) (outer : List (Level (TestTree of))) (token : Token)
    → TestsAlike names default (want_step (part_ways_of names default of) (seen_level names default level) (seen_levels names default outer) token) (want_step (ways_of (the_ways of)) level outer token)
unfolding want_step kept
want_seen names default level outer (Word at name) = refl
want_seen names default {of = OfToken} level outer (Quoted content) = ap Some (have_seen names default {of = OfToken} (tree.Bare content) level outer)
want_seen names default {of = OfTag} level outer (Quoted content) = refl
want_seen names default level outer (Mark t.Bang) = refl
want_seen names default level outer (Mark t.OpenRound) = refl
want_seen names default level outer _ = refl

test_named_seen : (names : List (List ℕ)) (default : ℕ) {of : Tested} (at : ℕ) (name : List ℕ) (level : Level (TestTree of)) (outer : List (Level (TestTree of))) (token : Token)
    → TestsAlike names default (test_named_step at name (seen_level names default level) (seen_levels names default outer) token) (test_named_step at name level outer token)
unfolding test_named_step
test_named_seen names default at name level outer (Mark sign) = go (comparison_of sign)
  where
    go : (found : Option Comparison) → elim found [ Some comparison ↦ Some (Compares at name comparison (seen_level names default level) (seen_levels names default outer)) | None ↦ None ]
        ≡ seen (seen_test names default) (elim found [ Some comparison ↦ Some (Compares at name comparison level outer) | None ↦ None ])
    go None = refl
    go (Some comparison) = refl
test_named_seen names default at name level outer _ = refl

compares_seen : (names : List (List ℕ)) (default : ℕ) {of : Tested} (at : ℕ) (name : List ℕ) (comparison : Comparison) (level : Level (TestTree of)) (outer : List (Level (TestTree of))) (token : Token)
    → TestsAlike names default (compares_step (part_ways_of names default of) at name comparison (seen_level names default level) (seen_levels names default outer) token)
    (compares_step (ways_of (the_ways of)) at name comparison level outer token)
unfolding compares_step
compares_seen names default {of = of} at name comparison level outer (Quoted content) =
    rw ((alike names default of).comparisons at name comparison content) (ap Some (have_seen names default {of = of} (tree.Compared at name comparison content) level outer))
compares_seen names default at name comparison level outer _ = refl

close_seen : (names : List (List ℕ)) (default : ℕ) {of : Tested} (test : TestTree of Whole) (outer : List (Level (TestTree of)))
    → TestsAlike names default (close_test (part_ways_of names default of) (test_part names default test) (seen_levels names default outer)) (close_test (ways_of (the_ways of)) test outer)
unfolding close_test
close_seen names default test [] = refl
close_seen names default {of = of} test (level ∷ outer) = rw ((alike names default of).bracketed test) (ap Some (have_seen names default {of = of} (tree.Bracketed test) level outer))

have_step_seen : (names : List (List ℕ)) (default : ℕ) {of : Tested} (both : TestTree of Conjunction) (either : Option (TestTree of Whole)) (outer : List (Level (TestTree of))) (token : Token)
    → TestsAlike names default (have_step (part_ways_of names default of) (test_part names default both) (seen (test_part names default) either) (seen_levels names default outer) token)
    (have_step (ways_of (the_ways of)) both either outer token)
unfolding have_step
have_step_seen names default both either outer (Mark t.And) = refl
have_step_seen names default both either outer (Mark t.Bar) = rw (either_seen names default either both) refl
have_step_seen names default {of = of} both either outer (Mark t.CloseRound) =
    rw (either_seen names default either both) (close_seen names default (joined_of (ways_of (the_ways of)).sole (ways_of (the_ways of)).either either both) outer)
have_step_seen names default both either outer _ = refl

pub test_step_seen : (names : List (List ℕ)) (default : ℕ) {of : Tested} (state : TestState (TestTree of)) (token : Token)
    → TestsAlike names default (test_step (part_ways_of names default of) (seen_test names default state) token) (test_step (ways_of (the_ways of)) state token)
unfolding test_step
test_step_seen names default (WantTest level outer) token = want_seen names default level outer token
test_step_seen names default (Named at name level outer) token = test_named_seen names default at name level outer token
test_step_seen names default (Compares at name comparison level outer) token = compares_seen names default at name comparison level outer token
test_step_seen names default (HaveTest both either outer) token = have_step_seen names default both either outer token

pub whole_seen : (names : List (List ℕ)) (default : ℕ) {of : Tested} (state : TestState (TestTree of))
    → whole_test (part_ways_of names default of) (seen_test names default state) ≡ seen (test_part names default) (whole_test (ways_of (the_ways of)) state)
unfolding whole_test
whole_seen names default (HaveTest both either []) = ap Some (either_seen names default either both)
whole_seen names default (HaveTest both either (level ∷ outer)) = refl
whole_seen names default _ = refl

-- ## Expressions

abbrev pub part_of : Registry → (default : ℕ) → {rank : Rank} → ExprTree rank → Part
part_of registry default part = record {
  expr = kept_expr (capped (expr_nodes (expr_of registry default part))) (expr_of registry default part);
  labels = label_places part;
  label = label_fault part;
  range = range_fault part;
  unknown = expr_unknown registry part;
  nodes = capped (expr_nodes (expr_of registry default part));
  size = capped (expr_size (expr_of registry default part));
}

-- what is kept of an expression that is too great
abbrev no_expr : q.Expr
no_expr = q.TokenTest 0 q.Any

module _ (registry : Registry) (default : ℕ) where
  pub token_same : (label : Label) (test : Option (TestTree OfToken Whole))
      → token_part label (maybe_part (seen (test_part (attr_names registry.attrs) default) test)) ≡ part_of registry default (tree.TokenTest label test)
  token_same label None = refl
  token_same label (Some test) =
      let x = test_of (attr_names registry.attrs) default test in
      let n = test_nodes x in
      rw (cap_more n, kept_in (q.TokenTest (label_number label)) no_expr q.Any x (capped n) (capped (1 + n)) (omega arith)) refl

  pub begin_same : (at : ℕ) (name : List ℕ) (test : Option (TestTree OfTag Whole))
      → begin_part (kind_names registry.kinds) at name (maybe_part (seen (test_part (attrs_of_kind registry name) default) test)) ≡ part_of registry default (tree.BeginTag at name test)
  begin_same at name None = refl
  begin_same at name (Some test) =
      let x = test_of (attrs_of_kind registry name) default test in
      let n = test_nodes x in
      rw (cap_more n, kept_in (q.Begin (or_first (number_of (kind_names registry.kinds) name))) no_expr q.Any x (capped n) (capped (1 + n)) (omega arith)) refl

  pub whole_same : (at : ℕ) (name : List ℕ) (test : Option (TestTree OfTag Whole))
      → whole_part (kind_names registry.kinds) at name (maybe_part (seen (test_part (attrs_of_kind registry name) default) test)) ≡ part_of registry default (tree.WholeTag at name test)
  whole_same at name None = refl
  whole_same at name (Some test) =
      let x = test_of (attrs_of_kind registry name) default test in
      let n = test_nodes x in
      rw (cap_more n, kept_in (q.Whole (or_first (number_of (kind_names registry.kinds) name))) no_expr q.Any x (capped n) (capped (1 + n)) (omega arith)) refl

  pub string_same : (label : Label) (content : List ℕ) → token_part label (pattern_part default content) ≡ part_of registry default (tree.String label content)
  string_same label content = refl

  pub end_same : (at : ℕ) (name : List ℕ) → end_part (kind_names registry.kinds) at name ≡ part_of registry default (tree.EndTag at name)
  unfolding kept
  end_same at name = refl

  pub repeated_same : (inner : ExprTree Atom) (repetition : Repetition) → repeated_part (part_of registry default inner) repetition ≡ part_of registry default (tree.Repeated inner repetition)
  repeated_same inner repetition =
      let x = expr_of registry default inner in
      let n = expr_nodes x in
      rw (
        cap_more n,
        kept_in (λ x. q.Repeat x (least_turns repetition) (most_turns repetition)) no_expr no_expr x (capped n) (capped (1 + n)) (omega arith),
        cap_times (expr_size x) (most_turns repetition),
      ) refl

  pub then_same : (left : ExprTree Sequence) (right : ExprTree Item) → then_part (part_of registry default left) (part_of registry default right) ≡ part_of registry default (tree.Then left right)
  then_same left right =
      let x = expr_of registry default left in
      let y = expr_of registry default right in
      let n = expr_nodes x in
      let k = expr_nodes y in
      rw (
        cap_two n k,
        kept_two q.Seq no_expr no_expr x no_expr y (capped n) (capped k) (capped (1 + (n + k))) (omega arith) (omega arith),
        cap_sum (expr_size x) (expr_size y),
      ) refl

  pub or_same : (left : ExprTree Choice) (right : ExprTree Sequence) → or_part (part_of registry default left) (part_of registry default right) ≡ part_of registry default (tree.Or left right)
  or_same left right =
      let x = expr_of registry default left in
      let y = expr_of registry default right in
      let n = expr_nodes x in
      let k = expr_nodes y in
      rw (
        cap_two n k,
        kept_two q.Choice no_expr no_expr x no_expr y (capped n) (capped k) (capped (1 + (n + k))) (omega arith) (omega arith),
        cap_sum (expr_size x) (expr_size y),
      ) refl

-- ## Filters

abbrev pub operand_nodes : Registry → (default : ℕ) → FilterTree Operand → ℕ
operand_nodes registry default operand = capped (expr_nodes (filters_of registry default operand).0 + filter_nodes (filters_of registry default operand).1)

abbrev pub operand_of : Registry → (default : ℕ) → FilterTree Operand → OperandPart
operand_of registry default operand = record {
  head = kept_expr (operand_nodes registry default operand) (filters_of registry default operand).0;
  filters = kept (operand_nodes registry default operand) q.NoMore (filters_of registry default operand).1;
  label = filters_label_fault operand;
  range = filters_range_fault operand;
  unknown = filters_unknown registry operand;
  nodes = operand_nodes registry default operand;
  size = capped (expr_size (filters_of registry default operand).0 + filter_size (filters_of registry default operand).1);
}

abbrev pub filters_part_of : Registry → (default : ℕ) → FilterTree Filters → FiltersPart
filters_part_of registry default filters = record {
  filters = kept (capped (filter_nodes (chained (filters_of registry default filters)))) [] (filters_of registry default filters);
  label = filters_label_fault filters;
  range = filters_range_fault filters;
  unknown = filters_unknown registry filters;
  nodes = capped (filter_nodes (chained (filters_of registry default filters)));
  size = capped (filter_size (chained (filters_of registry default filters)));
}

nodes_snoc : (filters : List FilterOf) (f : FilterOf) → filter_nodes (chained (filters ++ f ∷ [])) ≡ 1 + (filter_nodes (chained filters) + (expr_nodes f.head + filter_nodes f.filters))
nodes_snoc [] f = omega arith
nodes_snoc (g ∷ filters) f = let e = nodes_snoc filters f in omega (arith, e)

size_snoc : (filters : List FilterOf) (f : FilterOf) → filter_size (chained (filters ++ f ∷ [])) ≡ filter_size (chained filters) + (expr_size f.head + filter_size f.filters)
size_snoc [] f = omega arith
size_snoc (g ∷ filters) f = let e = size_snoc filters f in omega (arith, e)

none_more : (n : ℕ) → capped n ≡ capped (n + 0)
none_more n = omega arith

plus_more : (n m : ℕ) → capped (capped (n + m) + 1) ≡ capped (suc (n + m))
plus_more n m = omega arith

last_one : (n m : ℕ) → capped (capped (n + m) + 1) ≡ capped (1 + (n + (m + 0)))
last_one n m = omega arith

last_size : (n m : ℕ) → capped (n + m) ≡ capped (n + (m + 0))
last_size n m = omega arith

pub plain_same : (registry : Registry) (default : ℕ) (choice : ExprTree Choice) → plain_part (part_of registry default choice) ≡ operand_of registry default (tree.Plain choice)
plain_same registry default choice =
    let n = expr_nodes (expr_of registry default choice) in
    rw (none_more n, none_more (expr_size (expr_of registry default choice)), kept_either (capped (n + 0)) q.NoMore) refl

pub with_filters_same : (registry : Registry) (default : ℕ) (choice : ExprTree Choice) (filters : FilterTree Filters)
    → with_filters_part (part_of registry default choice) (filters_part_of registry default filters) ≡ operand_of registry default (tree.WithFilters choice filters)
with_filters_same registry default choice filters =
    let x = expr_of registry default choice in
    let fs = filters_of registry default filters in
    let n = expr_nodes x in
    let k = filter_nodes (chained fs) in
    rw (
      cap_sum n k,
      cap_sum (expr_size x) (filter_size (chained fs)),
      kept_in {X = q.Expr} {Y = q.Expr} (λ x. x) no_expr no_expr x (capped n) (capped (n + k)) (omega arith),
      kept_in chained q.NoMore [] fs (capped k) (capped (n + k)) (omega arith),
    ) refl

-- a filter by its operator and its operand
abbrev one_filter : Op → q.Expr → q.Filters → List FilterOf
one_filter op head filters = record { kind = kind_of op; head = head; filters = filters } ∷ []

pub filter_same : (registry : Registry) (default : ℕ) (op : Op) (operand : FilterTree Operand)
    → filter_part op (operand_of registry default operand) ≡ filters_part_of registry default (tree.Filter op operand)
filter_same registry default op operand =
    let o = filters_of registry default operand in
    let n = expr_nodes o.0 in
    let k = filter_nodes o.1 in
    rw (
      last_one n k,
      last_size (expr_size o.0) (filter_size o.1),
      kept_two (one_filter op) [] no_expr o.0 q.NoMore o.1 (capped (n + k)) (capped (n + k)) (capped (1 + (n + (k + 0)))) (omega arith) (omega arith),
    ) refl

pub more_same : (registry : Registry) (default : ℕ) (filters : FilterTree Filters) (op : Op) (operand : FilterTree Operand)
    → more_part (filters_part_of registry default filters) op (operand_of registry default operand) ≡ filters_part_of registry default (tree.More filters op operand)
more_same registry default filters op operand =
    let o = filters_of registry default operand in
    let f = filters_of registry default filters in
    let n = filter_nodes (chained f) in
    let k = expr_nodes o.0 + filter_nodes o.1 in
    rw (
      nodes_snoc f (record { kind = kind_of op; head = o.0; filters = o.1 }),
      size_snoc f (record { kind = kind_of op; head = o.0; filters = o.1 }),
      cap_two n k,
      cap_sum (filter_size (chained f)) (expr_size o.0 + filter_size o.1),
      kept_in {X = List FilterOf} {Y = List FilterOf} (λ x. x ++ one_filter op (kept_expr (capped k) o.0) (kept (capped k) q.NoMore o.1)) [] [] f (capped n) (capped (1 + (n + k))) (omega arith),
      kept_two (λ x y. f ++ one_filter op x y) [] no_expr o.0 q.NoMore o.1 (capped k) (capped k) (capped (1 + (n + k))) (omega arith) (omega arith),
    ) refl

-- ## Conditions

abbrev pub conds_of : Registry → ExprTree Choice → List CondTree → CondsPart
conds_of registry head conds = record {
  conds = map (cond_of registry) conds;
  label = conds_label_fault (label_places head) conds;
  unknown = conds_unknown registry conds;
  nodes = capped (length conds);
}

map_snoc : (registry : Registry) (conds : List CondTree) (c : CondTree) → map (cond_of registry) conds ++ cond_of registry c ∷ [] ≡ map (cond_of registry) (conds ++ c ∷ [])
map_snoc registry [] c = refl
map_snoc registry (d ∷ conds) c = ap (λ x. cond_of registry d ∷ x) (map_snoc registry conds c)

label_snoc : (places : List (Option ℕ)) (conds : List CondTree) (c : CondTree)
    → least_of (conds_label_fault places conds) (cond_label_fault places c) ≡ conds_label_fault places (conds ++ c ∷ [])
label_snoc places [] c = sym (least_of_none (cond_label_fault places c))
label_snoc places (d ∷ conds) c = least_of_three (cond_label_fault places d) (conds_label_fault places conds) (cond_label_fault places c) ∙ ap (least_of (cond_label_fault places d)) (label_snoc places conds c)

unknown_snoc : (registry : Registry) (conds : List CondTree) (c : CondTree) → first_of (conds_unknown registry conds) (cond_unknown registry c) ≡ conds_unknown registry (conds ++ c ∷ [])
unknown_snoc registry [] c = sym (first_of_none (cond_unknown registry c))
unknown_snoc registry (d ∷ conds) c = first_of_three (cond_unknown registry d) (conds_unknown registry conds) (cond_unknown registry c) ∙ ap (first_of (cond_unknown registry d)) (unknown_snoc registry conds c)

nodes_more : (conds : List CondTree) (c : CondTree) → capped (capped (length conds) + 1) ≡ capped (length (conds ++ c ∷ []))
nodes_more conds c = let e = length-append conds (c ∷ []) in omega (arith, e)

pub cond_same : (registry : Registry) (default : ℕ) (head : ExprTree Choice) (conds : List CondTree) (c : CondTree)
    → cond_part registry (part_of registry default head) (conds_of registry head conds) c ≡ conds_of registry head (conds ++ c ∷ [])
cond_same registry default head conds c =
    rw (map_snoc registry conds c, label_snoc (label_places head) conds c, unknown_snoc registry conds c, nodes_more conds c) refl

-- ## Queries

great_same : (a b c d : ℕ) → a ≡ b → c ≡ d → great (capped a) (capped c) ≡ great b d
great_same a b c d e f = rw (cap_below a 256 (omega arith), cap_below c 4096 (omega arith), e, f) refl

abbrev query_with : q.Expr → q.Filters → List q.Cond → q.Query
query_with head filters conds = record { head = head; filters = filters; conds = conds }

-- a query of parts that have few nodes has their trees
query_kept : (head : q.Expr) (filters : List FilterOf) (conds : List q.Cond) (n k : ℕ) → n ≤ 256 → k ≤ 256
    → query_with (kept_expr n head) (chained (kept k [] filters)) conds ≡ query_with head (chained filters) conds
query_kept head filters conds n k h i = rw (kept_whole n no_expr head h, kept_whole k [] filters i) refl

pub asks_same : (registry : Registry) (default : ℕ) (head : ExprTree Choice) (conds : List CondTree)
    → asks_part (part_of registry default head) (conds_of registry head conds) ≡ verdict registry default (tree.Asks head conds)
asks_same registry default head conds =
    let n = expr_nodes (expr_of registry default head) in
    let s = expr_size (expr_of registry default head) in
    let l : length (map (cond_of registry) conds) ≡ length conds = length-map conds (cond_of registry) in
    let fault = worst (range_fault head) (least_of (label_fault head) (conds_label_fault (label_places head) conds)) in
    let unknown = first_of (expr_unknown registry head) (conds_unknown registry conds) in
    judged_alike fault unknown (great (capped (capped n + capped (length conds))) (capped s)) (query_with (kept_expr (capped n) (expr_of registry default head)) q.NoMore (map (cond_of registry) conds))
    (meaning_of registry default (tree.Asks head conds)) (λ g.
    let few : capped (capped n + capped (length conds)) ≤ 256 = few_nodes (capped (capped n + capped (length conds))) (capped s) g in
    ap (λ x. query_with x q.NoMore (map (cond_of registry) conds)) (kept_whole (capped n) no_expr (expr_of registry default head) (omega arith)))
    ∙ ap (λ g. judged fault unknown g (meaning_of registry default (tree.Asks head conds)))
    (ap (λ x. great x (capped s)) (cap_sum n (length conds)) ∙ great_same (n + length conds) (n + (0 + length (map (cond_of registry) conds))) s (s + 0) (omega arith) (omega arith))

pub asks_filtered_same : (registry : Registry) (default : ℕ) (head : ExprTree Choice) (filters : FilterTree Filters) (conds : List CondTree)
    → asks_filtered_part (part_of registry default head) (filters_part_of registry default filters) (conds_of registry head conds) ≡ verdict registry default (tree.AsksFiltered head filters conds)
asks_filtered_same registry default head filters conds =
    let n = expr_nodes (expr_of registry default head) in
    let s = expr_size (expr_of registry default head) in
    let fs = chained (filters_of registry default filters) in
    let l : length (map (cond_of registry) conds) ≡ length conds = length-map conds (cond_of registry) in
    let fault = worst (least_of (range_fault head) (filters_range_fault filters)) (least_of (least_of (label_fault head) (filters_label_fault filters)) (conds_label_fault (label_places head) conds)) in
    let unknown = first_of (first_of (expr_unknown registry head) (filters_unknown registry filters)) (conds_unknown registry conds) in
    let m = capped (capped n + capped (capped (filter_nodes fs) + capped (length conds))) in
    let t = capped (capped s + capped (filter_size fs)) in
    judged_alike fault unknown (great m t)
    (query_with (kept_expr (capped n) (expr_of registry default head)) (chained (kept (capped (filter_nodes fs)) [] (filters_of registry default filters))) (map (cond_of registry) conds))
    (meaning_of registry default (tree.AsksFiltered head filters conds)) (λ g.
    let few : m ≤ 256 = few_nodes m t g in
    query_kept (expr_of registry default head) (filters_of registry default filters) (map (cond_of registry) conds) (capped n) (capped (filter_nodes fs)) (omega arith) (omega arith))
    ∙ ap (λ g. judged fault unknown g (meaning_of registry default (tree.AsksFiltered head filters conds)))
    (ap (λ x. great x (capped (capped s + capped (filter_size fs)))) (cap_three n (filter_nodes fs) (length conds))
    ∙ ap (λ x. great (capped (n + (filter_nodes fs + length conds))) x) (cap_sum s (filter_size fs))
    ∙ great_same (n + (filter_nodes fs + length conds)) (n + (filter_nodes fs + length (map (cond_of registry) conds))) (s + filter_size fs) (s + filter_size fs) (omega arith) refl)
