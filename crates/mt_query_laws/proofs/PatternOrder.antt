-- The patterns of a query stand in it in the order in which its tokens write them.
use Rattle.std.proofs.Common.{ℕ, ◌≡◌, Bool, true, false, List, [], ◌∷◌, ◌++◌, None, Some, Option, refl, sym, ◌∙◌, ap, append_assoc, append-nil}
use Rattle.mt_text_spec.specs.Registries.{Registry, attr_names}
use Rattle.mt_query_spec.specs.Tokens.{Token, Mark}
use Rattle.mt_query_spec.specs.Tokens as t
use Rattle.mt_query_spec.specs.Trees.{TestTree, TestRank, test_tokens, maybe_tokens, Label, NoLabel, Labelled, label_tokens, Repetition, Star, Plus, Question, Exactly, From, Between, repetition_tokens, Rank, ExprTree, expr_tokens, Op, Within, NotWithin, Containing, NotContaining, op_tokens, Filtered, Operand, Filters, FilterTree, filter_tokens, CondTree, cond_tokens, conds_tokens, QueryTree, Asks, AsksFiltered, query_tokens, Accepts, Refuses, Equals, Differs}
use Rattle.mt_query_spec.specs.Trees as tree
use Rattle.mt_query_spec.specs.Meaning.{test_of, maybe_test, expr_of, attrs_of_kind, FilterOf, chained, filters_of, query_of}
use Rattle.mt_query_spec.specs.Contents.{test_patterns, expr_patterns, filter_patterns, patterns, written_patterns}

abbrev written : List Token → List (List ℕ)
written tokens = written_patterns false tokens

module _ (names : List (List ℕ)) (default : ℕ) where
  tests : {of : tree.Tested} {rank : TestRank} (test : TestTree of rank) (rest : List Token)
      → written (test_tokens test ++ rest) ≡ test_patterns (test_of names default test) ++ written rest
  unfolding test_tokens
  tests (tree.Compared at name Accepts content) rest = refl
  tests (tree.Compared at name Refuses content) rest = refl
  tests (tree.Compared at name Equals content) rest = refl
  tests (tree.Compared at name Differs content) rest = refl
  tests (tree.Bare content) rest = refl
  tests (tree.Not inner) rest = tests inner rest
  tests (tree.Bracketed inner) rest = ap written (append_assoc (test_tokens inner) (Mark t.CloseRound ∷ []) rest) ∙ tests inner (Mark t.CloseRound ∷ rest)
  tests (tree.One inner) rest = tests inner rest
  tests (tree.Both left right) rest =
      ap written (append_assoc (test_tokens left) (Mark t.And ∷ test_tokens right) rest) ∙ tests left (Mark t.And ∷ (test_tokens right ++ rest))
      ∙ ap (λ x. test_patterns (test_of names default left) ++ x) (tests right rest)
      ∙ sym (append_assoc (test_patterns (test_of names default left)) (test_patterns (test_of names default right)) (written rest))
  tests (tree.Sole inner) rest = tests inner rest
  tests (tree.Either left right) rest =
      ap written (append_assoc (test_tokens left) (Mark t.Bar ∷ test_tokens right) rest) ∙ tests left (Mark t.Bar ∷ (test_tokens right ++ rest))
      ∙ ap (λ x. test_patterns (test_of names default left) ++ x) (tests right rest)
      ∙ sym (append_assoc (test_patterns (test_of names default left)) (test_patterns (test_of names default right)) (written rest))

  maybe_tests : {of : tree.Tested} (test : Option (TestTree of tree.Whole)) (rest : List Token)
      → written (maybe_tokens test ++ rest) ≡ test_patterns (maybe_test names default test) ++ written rest
  maybe_tests None rest = refl
  maybe_tests (Some test) rest = tests test rest

  -- a test, and one token more that writes no pattern
  closed : {of : tree.Tested} (test : Option (TestTree of tree.Whole)) (last : Token) (rest : List Token) → written (last ∷ rest) ≡ written rest
      → written ((maybe_tokens test ++ last ∷ []) ++ rest) ≡ test_patterns (maybe_test names default test) ++ written rest
  closed test last rest h =
      ap written (append_assoc (maybe_tokens test) (last ∷ []) rest) ∙ maybe_tests test (last ∷ rest) ∙ ap (λ x. test_patterns (maybe_test names default test) ++ x) h

repetitions : (r : Repetition) (rest : List Token) → written (repetition_tokens r ++ rest) ≡ written rest
repetitions Star rest = refl
repetitions Plus rest = refl
repetitions Question rest = refl
repetitions (Exactly at n_at n) rest = refl
repetitions (From at n_at n) rest = refl
repetitions (Between at n_at n m_at m) rest = refl

ops : (op : Op) (rest : List Token) → written (op_tokens op ++ rest) ≡ written rest
ops (Within at) rest = refl
ops (NotWithin at) rest = refl
ops (Containing at) rest = refl
ops (NotContaining at) rest = refl

labels : (label : Label) (tokens rest : List Token) → written ((label_tokens label ++ tokens) ++ rest) ≡ written (tokens ++ rest)
labels NoLabel tokens rest = refl
labels (Labelled at number) tokens rest = refl

module _ (registry : Registry) (default : ℕ) where
  exprs : {rank : Rank} (part : ExprTree rank) (rest : List Token) → written (expr_tokens part ++ rest) ≡ expr_patterns (expr_of registry default part) ++ written rest
  unfolding expr_tokens
  exprs (tree.TokenTest label test) rest =
      labels label (Mark t.OpenSquare ∷ (maybe_tokens test ++ Mark t.CloseSquare ∷ [])) rest ∙ closed (attr_names registry.attrs) default test (Mark t.CloseSquare) rest refl
  exprs (tree.String label content) rest = labels label (t.Quoted content ∷ []) rest
  exprs (tree.BeginTag at name test) rest = closed (attrs_of_kind registry name) default test (Mark t.TagEnd) rest refl
  exprs (tree.WholeTag at name test) rest = closed (attrs_of_kind registry name) default test (Mark t.WholeEnd) rest refl
  exprs (tree.EndTag at name) rest = refl
  exprs (tree.Group inner) rest = ap written (append_assoc (expr_tokens inner) (Mark t.CloseRound ∷ []) rest) ∙ exprs inner (Mark t.CloseRound ∷ rest)
  exprs (tree.Once inner) rest = exprs inner rest
  exprs (tree.Repeated inner repetition) rest =
      ap written (append_assoc (expr_tokens inner) (repetition_tokens repetition) rest) ∙ exprs inner (repetition_tokens repetition ++ rest)
      ∙ ap (λ x. expr_patterns (expr_of registry default inner) ++ x) (repetitions repetition rest)
  exprs (tree.First item) rest = exprs item rest
  exprs (tree.Then left right) rest =
      ap written (append_assoc (expr_tokens left) (expr_tokens right) rest) ∙ exprs left (expr_tokens right ++ rest)
      ∙ ap (λ x. expr_patterns (expr_of registry default left) ++ x) (exprs right rest)
      ∙ sym (append_assoc (expr_patterns (expr_of registry default left)) (expr_patterns (expr_of registry default right)) (written rest))
  exprs (tree.Branch sequence) rest = exprs sequence rest
  exprs (tree.Or left right) rest =
      ap written (append_assoc (expr_tokens left) (Mark t.Bar ∷ expr_tokens right) rest) ∙ exprs left (Mark t.Bar ∷ (expr_tokens right ++ rest))
      ∙ ap (λ x. expr_patterns (expr_of registry default left) ++ x) (exprs right rest)
      ∙ sym (append_assoc (expr_patterns (expr_of registry default left)) (expr_patterns (expr_of registry default right)) (written rest))

  -- what an operand with its filters, or some filters, have
  abbrev sort_patterns : {sort : Filtered} → FilterTree sort → List (List ℕ)
  sort_patterns {sort = Operand} part = expr_patterns (filters_of registry default part).0 ++ filter_patterns (filters_of registry default part).1
  sort_patterns {sort = Filters} part = filter_patterns (chained (filters_of registry default part))

  chained_more : (fs gs : List FilterOf) → filter_patterns (chained (fs ++ gs)) ≡ filter_patterns (chained fs) ++ filter_patterns (chained gs)
  chained_more [] gs = refl
  chained_more (f ∷ fs) gs =
      ap (λ x. expr_patterns f.head ++ (filter_patterns f.filters ++ x)) (chained_more fs gs)
      ∙ ap (λ x. expr_patterns f.head ++ x) (sym (append_assoc (filter_patterns f.filters) (filter_patterns (chained fs)) (filter_patterns (chained gs))))
      ∙ sym (append_assoc (expr_patterns f.head) (filter_patterns f.filters ++ filter_patterns (chained fs)) (filter_patterns (chained gs)))

  one_filter : (f : FilterOf) → filter_patterns (chained (f ∷ [])) ≡ expr_patterns f.head ++ filter_patterns f.filters
  one_filter f = ap (λ x. expr_patterns f.head ++ x) (append-nil (filter_patterns f.filters))

  filters : {sort : Filtered} (part : FilterTree sort) (rest : List Token) → written (filter_tokens part ++ rest) ≡ sort_patterns part ++ written rest
  unfolding filter_tokens
  filters (tree.Plain choice) rest = exprs choice rest ∙ ap (λ x. x ++ written rest) (sym (append-nil (expr_patterns (expr_of registry default choice))))
  filters (tree.WithFilters choice inner) rest =
      ap written (append_assoc (expr_tokens choice) (filter_tokens inner ++ Mark t.CloseRound ∷ []) rest)
      ∙ ap (λ x. written (expr_tokens choice ++ x)) (append_assoc (filter_tokens inner) (Mark t.CloseRound ∷ []) rest)
      ∙ exprs choice (filter_tokens inner ++ Mark t.CloseRound ∷ rest)
      ∙ ap (λ x. expr_patterns (expr_of registry default choice) ++ x) (filters inner (Mark t.CloseRound ∷ rest))
      ∙ sym (append_assoc (expr_patterns (expr_of registry default choice)) (sort_patterns inner) (written rest))
  filters (tree.Filter op operand) rest =
      ap written (append_assoc (op_tokens op) (filter_tokens operand) rest) ∙ ops op (filter_tokens operand ++ rest) ∙ filters operand rest
      ∙ ap (λ x. x ++ written rest) (sym (ap (λ x. expr_patterns (filters_of registry default operand).0 ++ x) (append-nil (filter_patterns (filters_of registry default operand).1))))
  filters (tree.More some op operand) rest =
      ap written (append_assoc (filter_tokens some) (op_tokens op ++ filter_tokens operand) rest)
      ∙ ap (λ x. written (filter_tokens some ++ x)) (append_assoc (op_tokens op) (filter_tokens operand) rest)
      ∙ filters some (op_tokens op ++ (filter_tokens operand ++ rest))
      ∙ ap (λ x. sort_patterns some ++ x) (ops op (filter_tokens operand ++ rest) ∙ filters operand rest)
      ∙ sym (append_assoc (sort_patterns some) (sort_patterns operand) (written rest))
      ∙ ap (λ x. x ++ written rest) (ap (λ x. sort_patterns some ++ x)
      (sym (ap (λ x. expr_patterns (filters_of registry default operand).0 ++ x) (append-nil (filter_patterns (filters_of registry default operand).1))))
      ∙ sym (chained_more (filters_of registry default some) _))

  cond_none : (c : CondTree) (b : Bool) (rest : List Token) → c.equal ≡ b → written rest ≡ [] → written (cond_tokens c ++ rest) ≡ []
  cond_none c true rest e h = rw e h
  cond_none c false rest e h = rw e h

  conds_none : (conds : List CondTree) → written (conds_tokens conds) ≡ []
  conds_none [] = refl
  conds_none (c ∷ conds) = cond_none c c.equal (conds_tokens conds) refl (conds_none conds)

  pub in_order : (part : QueryTree) → patterns (query_of registry default part) ≡ written (query_tokens part)
  in_order (Asks head conds) = sym (exprs head (conds_tokens conds) ∙ ap (λ x. expr_patterns (expr_of registry default head) ++ x) (conds_none conds))
  in_order (AsksFiltered head some conds) =
      sym (exprs head (filter_tokens some ++ conds_tokens conds)
      ∙ ap (λ x. expr_patterns (expr_of registry default head) ++ x) (filters some (conds_tokens conds) ∙ ap (λ x. sort_patterns some ++ x) (conds_none conds) ∙ append-nil (sort_patterns some)))
