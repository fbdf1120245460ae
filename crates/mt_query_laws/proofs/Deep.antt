-- How deep tokens and printed bytes nest.
use Rattle.std.proofs.Common.{ℕ, suc, ◌+◌, ◌-◌, ◌^◌, ◌≡◌, ◌<◌, ◌≤◌, Bool, true, false, List, [], ◌∷◌, ◌++◌, None, Some, Option, refl, sym, ◌∙◌, ap, arith, length, length-append, append_assoc, append-nil, subst}
use Rattle.std.specs.Prelude.{max, codes, decimal}
use Rattle.std.proofs.lemmas.List.{take_all}
use Rattle.std.specs.Char.{is_ascii_digit}
use Rattle.mt_text_spec.specs.Words.{is_identifier_byte, IsIdentifier}
use Rattle.mt_query_spec.specs.Tokens.{Token, Quoted, Number, Word, OpenCurly, Mark, Nesting, nesting_from, deepest, string_length}
use Rattle.mt_query_spec.specs.Tokens as t
use Rattle.mt_query_spec.specs.Trees.{Tested, Comparison, Accepts, Refuses, Equals, Differs, comparison_sign, TestRank, Unary, Conjunction, TestTree, test_tokens, maybe_tokens, Label, NoLabel, Labelled, label_tokens, Repetition, Star, Plus, Question, Exactly, From, Between, repetition_tokens, Rank, Atom, Item, Sequence, Choice, ExprTree, expr_tokens, Op, Within, NotWithin, Containing, NotContaining, op_tokens, Filtered, Operand, Filters, FilterTree, filter_tokens, CondTree, equality_sign, cond_tokens, conds_tokens, QueryTree, query_tokens}
use Rattle.mt_query_spec.specs.Trees as tree
use Rattle.mt_query_laws.proofs.Nesting.{outside, inside, nesting_of, all_flat, word_flat, digit_flat, string_nests}
use Rattle.mt_query_laws.proofs.Lexing.{passes_from, decimal_writes}
use Rattle.mt_query_laws.proofs.Depths.{test_depth, maybe_depth, expr_depth, filter_depth, query_depth}

-- items that nest so deep, whatever follows, where `run` says where they lead
pub record Deep {X : Type 0} (run : ℕ → ℕ → List X → Nesting) (k : ℕ) (items : List X) : Type 0 where
  pub is : (o m : ℕ) (rest : List X) → o ≤ m → run o m (items ++ rest) ≡ run o (max m (o + k)) rest

module _ {X : Type 0} (run : ℕ → ℕ → List X → Nesting) where
  pub flat : (items : List X) → ((o m : ℕ) (rest : List X) → run o m (items ++ rest) ≡ run o m rest) → Deep run 0 items
  flat items f = record { is = λ o m rest h. f o m rest ∙ ap (λ n. run o n rest) (let e : m ≡ max m (o + 0) = omega arith in e) }

  pub deep_as : (a b : ℕ) (items : List X) → a ≡ b → Deep run a items → Deep run b items
  deep_as a b items e d = subst (λ k. Deep run k items) e d

  pub join : (a b : ℕ) (xs ys : List X) → Deep run a xs → Deep run b ys → Deep run (max a b) (xs ++ ys)
  join a b xs ys x y = record {
    is = λ o m rest h.
        ap (run o m) (append_assoc xs ys rest) ∙ x.is o m (ys ++ rest) h ∙ y.is o (max m (o + a)) rest (omega arith)
        ∙ ap (λ n. run o n rest) (let e : max (max m (o + a)) (o + b) ≡ max m (o + max a b) = omega arith in e);
  }

  pub flat_before : (k : ℕ) (xs ys : List X) → Deep run 0 xs → Deep run k ys → Deep run k (xs ++ ys)
  flat_before k xs ys x y = deep_as (max 0 k) k (xs ++ ys) (omega arith) (join 0 k xs ys x y)

  pub flat_behind : (k : ℕ) (xs ys : List X) → Deep run k xs → Deep run 0 ys → Deep run k (xs ++ ys)
  flat_behind k xs ys x y = deep_as (max k 0) k (xs ++ ys) (omega arith) (join k 0 xs ys x y)

  pub bracket : (k : ℕ) (first last : X) (items : List X) → ((o m : ℕ) (rest : List X) → run o m (first ∷ rest) ≡ run (o + 1) (max m (o + 1)) rest)
      → ((o m : ℕ) (rest : List X) → run o m (last ∷ rest) ≡ run (o - 1) m rest) → Deep run k items → Deep run (suc k) (first ∷ (items ++ last ∷ []))
  bracket k first last items f g d = record {
    is = λ o m rest h.
        f o m ((items ++ last ∷ []) ++ rest) ∙ ap (run (o + 1) (max m (o + 1))) (append_assoc items (last ∷ []) rest) ∙ d.is (o + 1) (max m (o + 1)) (last ∷ rest) (omega arith)
        ∙ g (o + 1) (max (max m (o + 1)) (o + 1 + k)) rest ∙ ap (λ p. run p (max (max m (o + 1)) (o + 1 + k)) rest) (let e : (o + 1) - 1 ≡ o = omega arith in e)
        ∙ ap (λ n. run o n rest) (let e : max (max m (o + 1)) (o + 1 + k) ≡ max m (o + suc k) = omega arith in e);
  }

-- ## Tokens

abbrev pub DeepTokens : ℕ → List Token → Type 0
DeepTokens k tokens = Deep nesting_of k tokens

flat_tokens : (tokens : List Token) → ((o m : ℕ) (rest : List Token) → nesting_of o m (tokens ++ rest) ≡ nesting_of o m rest) → DeepTokens 0 tokens
flat_tokens tokens f = flat nesting_of tokens f

round : (k : ℕ) (tokens : List Token) → DeepTokens k tokens → DeepTokens (suc k) (Mark t.OpenRound ∷ (tokens ++ Mark t.CloseRound ∷ []))
round k tokens d = bracket nesting_of k (Mark t.OpenRound) (Mark t.CloseRound) tokens (λ o m rest. refl) (λ o m rest. refl) d

compared_deep : (at : ℕ) (name : List ℕ) (comparison : Comparison) (content : List ℕ) → DeepTokens 0 (Word at name ∷ Mark (comparison_sign comparison) ∷ Quoted content ∷ [])
compared_deep at name Accepts content = flat_tokens _ (λ o m rest. refl)
compared_deep at name Refuses content = flat_tokens _ (λ o m rest. refl)
compared_deep at name Equals content = flat_tokens _ (λ o m rest. refl)
compared_deep at name Differs content = flat_tokens _ (λ o m rest. refl)

test_deep : {of : Tested} {rank : TestRank} (part : TestTree of rank) → DeepTokens (test_depth part) (test_tokens part)
unfolding test_tokens
test_deep (tree.Compared at name comparison content) = compared_deep at name comparison content
test_deep (tree.Bare content) = flat_tokens (Quoted content ∷ []) (λ o m rest. refl)
test_deep (tree.Not inner) = flat_before nesting_of (test_depth inner) (Mark t.Bang ∷ []) (test_tokens inner) (flat_tokens (Mark t.Bang ∷ []) (λ o m rest. refl)) (test_deep inner)
test_deep (tree.Bracketed inner) = round (test_depth inner) (test_tokens inner) (test_deep inner)
test_deep (tree.One inner) = test_deep inner
test_deep (tree.Both left right) = join nesting_of (test_depth left) (test_depth right) (test_tokens left) (Mark t.And ∷ test_tokens right) (test_deep left)
    (flat_before nesting_of (test_depth right) (Mark t.And ∷ []) (test_tokens right) (flat_tokens (Mark t.And ∷ []) (λ o m rest. refl)) (test_deep right))
test_deep (tree.Sole inner) = test_deep inner
test_deep (tree.Either left right) = join nesting_of (test_depth left) (test_depth right) (test_tokens left) (Mark t.Bar ∷ test_tokens right) (test_deep left)
    (flat_before nesting_of (test_depth right) (Mark t.Bar ∷ []) (test_tokens right) (flat_tokens (Mark t.Bar ∷ []) (λ o m rest. refl)) (test_deep right))

maybe_deep : {of : Tested} (part : Option (TestTree of tree.Whole)) → DeepTokens (maybe_depth part) (maybe_tokens part)
maybe_deep None = flat_tokens [] (λ o m rest. refl)
maybe_deep (Some test) = test_deep test

label_deep : (label : Label) → DeepTokens 0 (label_tokens label)
label_deep NoLabel = flat_tokens [] (λ o m rest. refl)
label_deep (Labelled at number) = flat_tokens (Number at number ∷ Mark t.Colon ∷ []) (λ o m rest. refl)

repetition_deep : (r : Repetition) → DeepTokens 0 (repetition_tokens r)
repetition_deep Star = flat_tokens _ (λ o m rest. refl)
repetition_deep Plus = flat_tokens _ (λ o m rest. refl)
repetition_deep Question = flat_tokens _ (λ o m rest. refl)
repetition_deep (Exactly at n_at n) = flat_tokens _ (λ o m rest. refl)
repetition_deep (From at n_at n) = flat_tokens _ (λ o m rest. refl)
repetition_deep (Between at n_at n m_at m) = flat_tokens _ (λ o m rest. refl)

-- between two tokens or more in front and one behind
between : (k : ℕ) (before tokens behind : List Token) → DeepTokens 0 before → DeepTokens k tokens → DeepTokens 0 behind → DeepTokens k (before ++ (tokens ++ behind))
between k before tokens behind a b c = flat_before nesting_of k before (tokens ++ behind) a (flat_behind nesting_of k tokens behind b c)

expr_deep : {rank : Rank} (part : ExprTree rank) → DeepTokens (expr_depth part) (expr_tokens part)
unfolding expr_tokens
expr_deep (tree.TokenTest label test) = flat_before nesting_of (maybe_depth test) (label_tokens label) _ (label_deep label)
    (between (maybe_depth test) (Mark t.OpenSquare ∷ []) (maybe_tokens test) (Mark t.CloseSquare ∷ []) (flat_tokens _ (λ o m rest. refl)) (maybe_deep test) (flat_tokens _ (λ o m rest. refl)))
expr_deep (tree.String label content) = flat_before nesting_of 0 (label_tokens label) (Quoted content ∷ []) (label_deep label) (flat_tokens _ (λ o m rest. refl))
expr_deep (tree.BeginTag at name test) =
    between (maybe_depth test) (Mark t.TagBegin ∷ Word at name ∷ []) (maybe_tokens test) (Mark t.TagEnd ∷ []) (flat_tokens _ (λ o m rest. refl)) (maybe_deep test) (flat_tokens _ (λ o m rest. refl))
expr_deep (tree.WholeTag at name test) =
    between (maybe_depth test) (Mark t.TagBegin ∷ Word at name ∷ []) (maybe_tokens test) (Mark t.WholeEnd ∷ []) (flat_tokens _ (λ o m rest. refl)) (maybe_deep test) (flat_tokens _ (λ o m rest. refl))
expr_deep (tree.EndTag at name) = flat_tokens _ (λ o m rest. refl)
expr_deep (tree.Group inner) = round (expr_depth inner) (expr_tokens inner) (expr_deep inner)
expr_deep (tree.Once inner) = expr_deep inner
expr_deep (tree.Repeated inner repetition) = flat_behind nesting_of (expr_depth inner) (expr_tokens inner) (repetition_tokens repetition) (expr_deep inner) (repetition_deep repetition)
expr_deep (tree.First item) = expr_deep item
expr_deep (tree.Then left right) = join nesting_of (expr_depth left) (expr_depth right) (expr_tokens left) (expr_tokens right) (expr_deep left) (expr_deep right)
expr_deep (tree.Branch sequence) = expr_deep sequence
expr_deep (tree.Or left right) = join nesting_of (expr_depth left) (expr_depth right) (expr_tokens left) (Mark t.Bar ∷ expr_tokens right) (expr_deep left)
    (flat_before nesting_of (expr_depth right) (Mark t.Bar ∷ []) (expr_tokens right) (flat_tokens (Mark t.Bar ∷ []) (λ o m rest. refl)) (expr_deep right))

op_deep : (op : Op) → DeepTokens 0 (op_tokens op)
op_deep (Within at) = flat_tokens _ (λ o m rest. refl)
op_deep (NotWithin at) = flat_tokens _ (λ o m rest. refl)
op_deep (Containing at) = flat_tokens _ (λ o m rest. refl)
op_deep (NotContaining at) = flat_tokens _ (λ o m rest. refl)

filter_deep : {sort : Filtered} (part : FilterTree sort) → DeepTokens (filter_depth part) (filter_tokens part)
unfolding filter_tokens
filter_deep (tree.Plain choice) = expr_deep choice
filter_deep (tree.WithFilters choice filters) =
    subst (λ x. DeepTokens (suc (max (expr_depth choice) (filter_depth filters))) (Mark t.OpenRound ∷ x)) (append_assoc (expr_tokens choice) (filter_tokens filters) (Mark t.CloseRound ∷ []))
    (round (max (expr_depth choice) (filter_depth filters)) (expr_tokens choice ++ filter_tokens filters)
    (join nesting_of (expr_depth choice) (filter_depth filters) (expr_tokens choice) (filter_tokens filters) (expr_deep choice) (filter_deep filters)))
filter_deep (tree.Filter op operand) = flat_before nesting_of (filter_depth operand) (op_tokens op) (filter_tokens operand) (op_deep op) (filter_deep operand)
filter_deep (tree.More filters op operand) = join nesting_of (filter_depth filters) (filter_depth operand) (filter_tokens filters) (op_tokens op ++ filter_tokens operand) (filter_deep filters)
    (flat_before nesting_of (filter_depth operand) (op_tokens op) (filter_tokens operand) (op_deep op) (filter_deep operand))

equality_deep : (equal : Bool) (o m : ℕ) (rest : List Token) → nesting_of o m (Mark (equality_sign equal) ∷ rest) ≡ nesting_of o m rest
equality_deep true o m rest = refl
equality_deep false o m rest = refl

conds_deep : (conds : List CondTree) → DeepTokens 0 (conds_tokens conds)
conds_deep [] = flat_tokens [] (λ o m rest. refl)
conds_deep (c ∷ conds) = flat_before nesting_of 0 (cond_tokens c) (conds_tokens conds) (flat_tokens (cond_tokens c) (λ o m rest. equality_deep c.equal o m (Number c.right_at c.right ∷ Mark t.Dot ∷ Word c.right_name_at c.right_name ∷ rest))) (conds_deep conds)

query_deep : (part : QueryTree) → DeepTokens (query_depth part) (query_tokens part)
query_deep (tree.Asks head conds) = flat_behind nesting_of (expr_depth head) (expr_tokens head) (conds_tokens conds) (expr_deep head) (conds_deep conds)
query_deep (tree.AsksFiltered head filters conds) = join nesting_of (expr_depth head) (filter_depth filters) (expr_tokens head) (filter_tokens filters ++ conds_tokens conds) (expr_deep head)
    (flat_behind nesting_of (filter_depth filters) (filter_tokens filters) (conds_tokens conds) (filter_deep filters) (conds_deep conds))

pub tokens_depth : (part : QueryTree) → (nesting_of 0 0 (query_tokens part)).most ≡ query_depth part
tokens_depth part =
    let d = query_deep part in
    ap (λ (x : List Token). (nesting_of 0 0 x).most) (sym (append-nil (query_tokens part))) ∙ ap (λ (s : Nesting). s.most) (d.is 0 0 [] (omega arith))
    ∙ (let e : max 0 (0 + query_depth part) ≡ query_depth part = omega arith in e)

-- ## Bytes

abbrev pub behind_bytes : ℕ → ℕ → List ℕ → Nesting
behind_bytes o m bytes = nesting_from (outside o m) bytes

abbrev pub DeepBytes : ℕ → List ℕ → Type 0
DeepBytes k bytes = Deep behind_bytes k bytes

pub plain_bytes : (bytes : List ℕ) → ((o m : ℕ) (rest : List ℕ) → behind_bytes o m (bytes ++ rest) ≡ behind_bytes o m rest) → DeepBytes 0 bytes
plain_bytes bytes f = flat behind_bytes bytes f

pub round_bytes : (k : ℕ) (bytes : List ℕ) → DeepBytes k bytes → DeepBytes (suc k) (codes "(" ++ (bytes ++ codes ")"))
round_bytes k bytes d = bracket behind_bytes k 40 41 bytes (λ o m rest. refl) (λ o m rest. refl) d

pub name_deep : (name : List ℕ) → IsIdentifier name → DeepBytes 0 name
name_deep name h = plain_bytes name (all_flat is_identifier_byte word_flat name (passes_from is_identifier_byte name h.each))

pub number_deep : (n : ℕ) → n < 2 ^ 64 → DeepBytes 0 (decimal n)
number_deep n h = plain_bytes (decimal n) (all_flat is_ascii_digit digit_flat (decimal n) (decimal_writes n h).each)

nesting_append : (s : Nesting) (xs ys : List ℕ) → nesting_from s (xs ++ ys) ≡ nesting_from (nesting_from s xs) ys
nesting_append s [] ys = refl
nesting_append s (x ∷ xs) ys = nesting_append (t.nested s x) xs ys

pub string_deep : (content : List ℕ) → string_length false (content ++ 34 ∷ []) ≡ Some (length content) → DeepBytes 0 (codes "\"" ++ (content ++ codes "\""))
string_deep content h = plain_bytes _ (λ o m rest.
    nesting_append (inside o m false) (content ++ 34 ∷ []) rest
    ∙ ap (λ s. nesting_from s rest) (ap (nesting_from (inside o m false)) (sym (take_all (suc (length content)) (content ++ 34 ∷ []) (omega (arith, length-append content (34 ∷ [])))))
    ∙ string_nests false (content ++ 34 ∷ []) (length content) o m h))
