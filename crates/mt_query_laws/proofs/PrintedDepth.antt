-- A printed query nests as deep as its query must.
use Rattle.std.proofs.Common.{ℕ, ◌+◌, ◌^◌, ◌≡◌, ◌<◌, ◌≤◌, Bool, true, false, List, [], ◌∷◌, ◌++◌, Ok, refl, sym, ◌∙◌, ap, arith, length, append-nil, nat_lt, subst}
use Rattle.std.specs.Prelude.{cond, max, codes, decimal, ◌==◌, ◌||◌}
use Rattle.std.proofs.lemmas.List.{length-map}
use Rattle.mt_text_spec.specs.Registries.{Registry, Attr, ValidRegistry, attr_names, kind_names, kind_attrs}
use Rattle.mt_text_spec.specs.Words.{IsIdentifier}
use Rattle.mt_text_spec.specs.Queries as q
use Rattle.mt_query_spec.specs.Tokens.{Nesting, deepest}
use Rattle.mt_query_spec.specs.Trees.{TestRank, Unary, Conjunction, Rank, Atom, Item, Sequence, Choice, query_tokens}
use Rattle.mt_query_spec.specs.Trees as tree
use Rattle.mt_query_spec.specs.Printed.{name_at, escaped, pattern_string, literal_string, bracketed, has_test, brackets_both, brackets_either, brackets_repeat, brackets_seq, brackets_choice, printed_test, printed_label, printed_tag, printed_turns, printed_expr, printed_kind, has_filters, printed_filters, printed_side, printed_cond, printed_conds, printed}
use Rattle.mt_query_spec.specs.Valid.{ValidTest, ValidMaybe, ValidExpr, ValidFilters, ValidConds, ValidQuery, IsReadAs}
use Rattle.mt_query_spec.specs.Verdicts.{Means}
use Rattle.mt_query_laws.proofs.Quoting.{pattern_length, literal_length}
use Rattle.mt_query_laws.proofs.PrintedTests.{Fit, name_fits}
use Rattle.mt_query_laws.proofs.PrintedExprs.{attrs_fit, kind_attrs_fit, kind_named}
use Rattle.mt_query_laws.proofs.PrintedQueries.{label_within}
use Rattle.mt_query_laws.proofs.Nesting.{nesting_of, deepest_of}
use Rattle.mt_query_laws.proofs.Depths.{deeper, test_need, expr_need, filters_need, query_need, query_depth, query_nests}
use Rattle.mt_query_laws.proofs.Deep.{join, flat_before, flat_behind, behind_bytes, DeepBytes, plain_bytes, round_bytes, name_deep, number_deep, string_deep, tokens_depth}
use Rattle.mt_query_laws.proofs.ValidQueries.{good_reading, read_as}

bracketed_deep : (round : Bool) (k : ℕ) (bytes : List ℕ) → DeepBytes k bytes → DeepBytes (deeper round k) (bracketed round bytes)
bracketed_deep true k bytes d = round_bytes k bytes d
bracketed_deep false k bytes d = d

-- two parts and what stands between them
joined : (a b : ℕ) (xs sign ys : List ℕ) → DeepBytes a xs → DeepBytes 0 sign → DeepBytes b ys → DeepBytes (max a b) (xs ++ (sign ++ ys))
joined a b xs sign ys x s y = join behind_bytes a b xs (sign ++ ys) x (flat_before behind_bytes b sign ys s y)

module _ (names : List (List ℕ)) (fit : Fit names) where
  string_behind : (attr : ℕ) (sign text : List ℕ) → attr < length names → DeepBytes 0 sign → DeepBytes 0 text → DeepBytes 0 (name_at names attr ++ (sign ++ text))
  string_behind attr sign text h s d = joined 0 0 (name_at names attr) sign text (name_deep (name_at names attr) (name_fits names attr fit h)) s d

  test_printed : (rank : TestRank) (test : q.Test) → ValidTest names test → DeepBytes (test_need rank test) (printed_test names rank test)
  test_printed rank q.Any v = absurd v
  test_printed rank (q.Pattern attr text true) v =
      string_behind attr (codes "!=") (pattern_string text) v.0 (plain_bytes _ (λ o m rest. refl)) (string_deep (escaped (λ b. b == 34) text) (pattern_length false text [] v.1))
  test_printed rank (q.Pattern attr text false) v =
      string_behind attr (codes "=") (pattern_string text) v.0 (plain_bytes _ (λ o m rest. refl)) (string_deep (escaped (λ b. b == 34) text) (pattern_length false text [] v.1))
  test_printed rank (q.Literal attr text true) v =
      string_behind attr (codes "!==") (literal_string text) v (plain_bytes _ (λ o m rest. refl)) (string_deep (escaped (λ b. b == 34 || b == 92) text) (literal_length text []))
  test_printed rank (q.Literal attr text false) v =
      string_behind attr (codes "==") (literal_string text) v (plain_bytes _ (λ o m rest. refl)) (string_deep (escaped (λ b. b == 34 || b == 92) text) (literal_length text []))
  test_printed rank (q.Not inner) v =
      flat_before behind_bytes (test_need Unary inner) (codes "!") (printed_test names Unary inner) (plain_bytes (codes "!") (λ o m rest. refl)) (test_printed Unary inner v)
  test_printed rank (q.Both left right) v = bracketed_deep (brackets_both rank) (max (test_need Conjunction left) (test_need Unary right)) _
      (joined (test_need Conjunction left) (test_need Unary right) (printed_test names Conjunction left) (codes " & ") (printed_test names Unary right) (test_printed Conjunction left v.0)
      (plain_bytes (codes " & ") (λ o m rest. refl)) (test_printed Unary right v.1))
  test_printed rank (q.Either left right) v = bracketed_deep (brackets_either rank) (max (test_need tree.Whole left) (test_need Conjunction right)) _
      (joined (test_need tree.Whole left) (test_need Conjunction right) (printed_test names tree.Whole left) (codes " | ") (printed_test names Conjunction right) (test_printed tree.Whole left v.0)
      (plain_bytes (codes " | ") (λ o m rest. refl)) (test_printed Conjunction right v.1))

  maybe_printed : (test : q.Test) → ValidMaybe names test → DeepBytes (test_need tree.Whole test) (printed_test names tree.Whole test)
  maybe_printed q.Any v = plain_bytes [] (λ o m rest. refl)
  maybe_printed (q.Pattern attr text negated) v = test_printed tree.Whole (q.Pattern attr text negated) v
  maybe_printed (q.Literal attr text negated) v = test_printed tree.Whole (q.Literal attr text negated) v
  maybe_printed (q.Not inner) v = test_printed tree.Whole (q.Not inner) v
  maybe_printed (q.Both left right) v = test_printed tree.Whole (q.Both left right) v
  maybe_printed (q.Either left right) v = test_printed tree.Whole (q.Either left right) v

  gap_deep : (some : Bool) → DeepBytes 0 (cond some (codes " ") [])
  gap_deep true = plain_bytes _ (λ o m rest. refl)
  gap_deep false = plain_bytes _ (λ o m rest. refl)

  tag_printed : (name last : List ℕ) (test : q.Test) → IsIdentifier name → DeepBytes 0 last → ValidMaybe names test → DeepBytes (test_need tree.Whole test) (printed_tag name names test ++ last)
  tag_printed name last test h l v =
      let k = test_need tree.Whole test in
      let gap : List ℕ = cond (has_test test) (codes " ") [] in
      flat_behind behind_bytes k (printed_tag name names test) last
      (flat_before behind_bytes k (codes "<") (name ++ (gap ++ printed_test names tree.Whole test)) (plain_bytes (codes "<") (λ o m rest. refl))
      (flat_before behind_bytes k name (gap ++ printed_test names tree.Whole test) (name_deep name h)
      (flat_before behind_bytes k gap (printed_test names tree.Whole test) (gap_deep (has_test test)) (maybe_printed test v)))) l

label_printed : (label : ℕ) → label < 10 → DeepBytes 0 (printed_label label)
label_printed label h = go (nat_lt 0 label)
  where
    go : (some : Bool) → DeepBytes 0 (cond some (decimal label ++ codes ":") [])
    go true = flat_behind behind_bytes 0 (decimal label) (codes ":") (number_deep label (omega arith)) (plain_bytes (codes ":") (λ o m rest. refl))
    go false = plain_bytes [] (λ o m rest. refl)

turns_printed : (fewest most : ℕ) → fewest ≤ most → most < 10 ^ 9 → DeepBytes 0 (printed_turns fewest most)
turns_printed fewest most h l =
    flat_before behind_bytes 0 (codes "{") _ (plain_bytes (codes "{") (λ o m rest. refl)) (flat_before behind_bytes 0 (decimal fewest) _ (number_deep fewest (omega arith))
    (flat_before behind_bytes 0 (codes ",") _ (plain_bytes (codes ",") (λ o m rest. refl)) (flat_before behind_bytes 0 (decimal most) _ (number_deep most (omega arith)) (plain_bytes (codes "}") (λ o m rest. refl)))))

module _ (registry : Registry) (valid : ValidRegistry registry) where
  expr_printed : (rank : Rank) (expr : q.Expr) → ValidExpr registry expr → DeepBytes (expr_need rank expr) (printed_expr registry rank expr)
  expr_printed rank (q.TokenTest label test) v =
      let k = test_need tree.Whole test in
      let text = printed_test (attr_names registry.attrs) tree.Whole test in
      flat_before behind_bytes k (printed_label label) (codes "[" ++ (text ++ codes "]")) (label_printed label v.0)
      (flat_before behind_bytes k (codes "[") (text ++ codes "]") (plain_bytes (codes "[") (λ o m rest. refl))
      (flat_behind behind_bytes k text (codes "]") (maybe_printed (attr_names registry.attrs) (attrs_fit registry valid) test v.1) (plain_bytes (codes "]") (λ o m rest. refl))))
  expr_printed rank (q.Begin kind test) v =
      tag_printed (kind_attrs registry.kinds kind) (kind_attrs_fit registry kind valid v.0) _ (codes ">") test (kind_named registry kind valid v.0) (plain_bytes (codes ">") (λ o m rest. refl)) v.1
  expr_printed rank (q.End kind) v =
      flat_before behind_bytes 0 (codes "</") (name_at (kind_names registry.kinds) kind ++ codes ">") (plain_bytes (codes "</") (λ o m rest. refl))
      (flat_behind behind_bytes 0 (name_at (kind_names registry.kinds) kind) (codes ">") (name_deep _ (kind_named registry kind valid v)) (plain_bytes (codes ">") (λ o m rest. refl)))
  expr_printed rank (q.Whole kind test) v =
      tag_printed (kind_attrs registry.kinds kind) (kind_attrs_fit registry kind valid v.0) _ (codes "/>") test (kind_named registry kind valid v.0) (plain_bytes (codes "/>") (λ o m rest. refl)) v.1
  expr_printed rank (q.Seq left right) v = bracketed_deep (brackets_seq rank) (max (expr_need Sequence left) (expr_need Item right)) _
      (joined (expr_need Sequence left) (expr_need Item right) (printed_expr registry Sequence left) (codes " ") (printed_expr registry Item right) (expr_printed Sequence left v.0)
      (plain_bytes (codes " ") (λ o m rest. refl)) (expr_printed Item right v.1))
  expr_printed rank (q.Choice left right) v = bracketed_deep (brackets_choice rank) (max (expr_need Choice left) (expr_need Sequence right)) _
      (joined (expr_need Choice left) (expr_need Sequence right) (printed_expr registry Choice left) (codes " | ") (printed_expr registry Sequence right) (expr_printed Choice left v.0)
      (plain_bytes (codes " | ") (λ o m rest. refl)) (expr_printed Sequence right v.1))
  expr_printed rank (q.Repeat inner fewest most) v = bracketed_deep (brackets_repeat rank) (expr_need Atom inner) _
      (flat_behind behind_bytes (expr_need Atom inner) (printed_expr registry Atom inner) (printed_turns fewest most) (expr_printed Atom inner v.0) (turns_printed fewest most v.1 v.2))

  kind_printed : (kind : q.FilterKind) → DeepBytes 0 (printed_kind kind)
  kind_printed q.Within = plain_bytes _ (λ o m rest. refl)
  kind_printed q.NotWithin = plain_bytes _ (λ o m rest. refl)
  kind_printed q.Containing = plain_bytes _ (λ o m rest. refl)
  kind_printed q.NotContaining = plain_bytes _ (λ o m rest. refl)

  filters_printed : (filters : q.Filters) → ValidFilters registry filters → DeepBytes (filters_need filters) (printed_filters registry filters)
  filters_printed q.NoMore v = plain_bytes [] (λ o m rest. refl)
  filters_printed (q.More kind head filters others) v =
      let k = max (expr_need Choice head) (filters_need filters) in
      let text = printed_expr registry Choice head ++ printed_filters registry filters in
      flat_before behind_bytes (filters_need (q.More kind head filters others)) (printed_kind kind) _ (kind_printed kind)
      (join behind_bytes (deeper (has_filters filters) k) (filters_need others) (bracketed (has_filters filters) text) (printed_filters registry others)
      (bracketed_deep (has_filters filters) k text
      (join behind_bytes (expr_need Choice head) (filters_need filters) (printed_expr registry Choice head) (printed_filters registry filters) (expr_printed Choice head v.0) (filters_printed filters v.2)))
      (filters_printed others v.3))

  side_printed : (label attr : ℕ) → label < 10 → attr < length registry.attrs → DeepBytes 0 (printed_side (attr_names registry.attrs) label attr)
  side_printed label attr h k =
      let l = length-map registry.attrs (λ (attr : Attr). attr.name) in
      joined 0 0 (decimal label) (codes ".") (name_at (attr_names registry.attrs) attr) (number_deep label (omega arith)) (plain_bytes (codes ".") (λ o m rest. refl))
      (name_deep _ (name_fits (attr_names registry.attrs) attr (attrs_fit registry valid) (omega arith)))

  equal_printed : (equal : Bool) → DeepBytes 0 (cond equal (codes " = ") (codes " != "))
  equal_printed true = plain_bytes _ (λ o m rest. refl)
  equal_printed false = plain_bytes _ (λ o m rest. refl)

  conds_printed : (head : q.Expr) → ValidExpr registry head → (conds : List q.Cond) → ValidConds registry head conds → DeepBytes 0 (printed_conds (attr_names registry.attrs) conds)
  conds_printed head h [] v = plain_bytes [] (λ o m rest. refl)
  conds_printed head h (c ∷ conds) v =
      let names = attr_names registry.attrs in
      flat_before behind_bytes 0 (printed_cond names c) (printed_conds names conds)
      (flat_before behind_bytes 0 (codes " & ") _ (plain_bytes (codes " & ") (λ o m rest. refl))
      (joined 0 0 (printed_side names c.left c.left_attr) (cond c.equal (codes " = ") (codes " != ")) (printed_side names c.right c.right_attr)
      (side_printed c.left c.left_attr (label_within registry head h c.left v.0.left).small v.0.left_attr) (equal_printed c.equal)
      (side_printed c.right c.right_attr (label_within registry head h c.right v.0.right).small v.0.right_attr)))
      (conds_printed head h conds v.1)

  query_printed : (query : q.Query) → ValidExpr registry query.head → ValidFilters registry query.filters → ValidConds registry query.head query.conds
      → deepest (printed registry query) ≡ query_need query
  query_printed query h f c =
      let d = join behind_bytes (expr_need Choice query.head) (filters_need query.filters) (printed_expr registry Choice query.head)
      (printed_filters registry query.filters ++ printed_conds (attr_names registry.attrs) query.conds) (expr_printed Choice query.head h)
      (flat_behind behind_bytes (filters_need query.filters) (printed_filters registry query.filters) (printed_conds (attr_names registry.attrs) query.conds) (filters_printed query.filters f)
      (conds_printed query.head h query.conds c)) in
      ap deepest (sym (append-nil (printed registry query))) ∙ ap (λ (s : Nesting). s.most) (d.is 0 0 [] (omega arith))
      ∙ (let e : max 0 (0 + query_need query) ≡ query_need query = omega arith in e)

-- each query that a text is read as is valid
pub read_valid : (registry : Registry) (default : ℕ) (text : List ℕ) (query : q.Query) → ValidRegistry registry → default < length registry.attrs → IsReadAs registry default text query
    → ValidQuery registry query
read_valid registry default text query valid d r =
    let g = good_reading registry default text query d r in
    let a : deepest text ≡ query_depth r.part = deepest_of text r.whole ∙ ap (λ x. (nesting_of 0 0 x).most) (sym r.tokens) ∙ tokens_depth r.part in
    let b : query_need query ≤ query_depth r.part = subst (λ x. query_need x ≤ query_depth r.part) g.is (query_nests registry default r.part) in
    let c : deepest text ≤ 32 = r.nests in
    let e : deepest (printed registry query) ≡ query_need query = query_printed registry valid query g.good.head g.good.filters g.good.conds in
    record { head = g.good.head; filters = g.good.filters; conds = g.good.conds; small = g.small; nests = omega arith }

pub means_valid : (registry : Registry) (default : ℕ) (text : List ℕ) (query : q.Query) → ValidRegistry registry → default < length registry.attrs → Means registry default text (Ok query)
    → ValidQuery registry query
means_valid registry default text query valid d m = read_valid registry default text query valid d (read_as registry default text query (Ok query) m refl)
