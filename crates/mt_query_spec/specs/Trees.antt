-- The productions: what a query is made of, each production with the tokens that it is written with.
use Rattle.std.specs.Prelude.{ℕ, Bool, true, false, List, [], ◌∷◌, ◌++◌, codes, Option, None, Some}
use Rattle.mt_query_spec.specs.Tokens.{Token, Quoted, Number, Word, OpenCurly, Mark, Sign}
use Rattle.mt_query_spec.specs.Tokens as t

-- what is tested: the tokens of a text, or the instances of a structure, where a bare string is no test
pub data Tested : Type 0 where
  OfToken : Tested
  OfTag : Tested

-- `=`, `!=`, `==`, `!==`
pub data Comparison : Type 0 where
  Accepts : Comparison
  Refuses : Comparison
  Equals : Comparison
  Differs : Comparison

-- the sign of a comparison
abbrev pub comparison_sign : Comparison → Sign
comparison_sign Accepts = t.Is
comparison_sign Refuses = t.IsNot
comparison_sign Equals = t.Same
comparison_sign Differs = t.Differs

-- how a test is joined: one that stands alone behind `!`, some with `&` between them, some of these with `|` between them
pub data TestRank : Type 0 where
  Unary : TestRank
  Conjunction : TestRank
  Whole : TestRank

-- A test.
--   unary = name cmp string | string | "!" unary | "(" test ")"
--   conj = unary | conj "&" unary
--   test = conj | test "|" conj
pub data TestTree : Tested → TestRank → Type 0 where
  Compared : {of : Tested} (at : ℕ) (name : List ℕ) (comparison : Comparison) (content : List ℕ) → TestTree of Unary
  Bare : (content : List ℕ) → TestTree OfToken Unary
  Not : {of : Tested} → TestTree of Unary → TestTree of Unary
  Bracketed : {of : Tested} → TestTree of Whole → TestTree of Unary
  One : {of : Tested} → TestTree of Unary → TestTree of Conjunction
  Both : {of : Tested} → TestTree of Conjunction → TestTree of Unary → TestTree of Conjunction
  Sole : {of : Tested} → TestTree of Conjunction → TestTree of Whole
  Either : {of : Tested} → TestTree of Whole → TestTree of Conjunction → TestTree of Whole

-- the tokens that write a test
unfoldable pub test_tokens : {of : Tested} {rank : TestRank} → TestTree of rank → List Token
test_tokens (Compared at name comparison content) = Word at name ∷ Mark (comparison_sign comparison) ∷ Quoted content ∷ []
test_tokens (Bare content) = Quoted content ∷ []
test_tokens (Not inner) = Mark t.Bang ∷ test_tokens inner
test_tokens (Bracketed inner) = Mark t.OpenRound ∷ (test_tokens inner ++ Mark t.CloseRound ∷ [])
test_tokens (One inner) = test_tokens inner
test_tokens (Both left right) = test_tokens left ++ Mark t.And ∷ test_tokens right
test_tokens (Sole inner) = test_tokens inner
test_tokens (Either left right) = test_tokens left ++ Mark t.Bar ∷ test_tokens right

-- [ test ]
abbrev pub maybe_tokens : {of : Tested} → Option (TestTree of Whole) → List Token
maybe_tokens None = []
maybe_tokens (Some test) = test_tokens test

-- a label with its colon, or none
pub data Label : Type 0 where
  NoLabel : Label
  Labelled : (at number : ℕ) → Label

-- the tokens that write a label
abbrev pub label_tokens : Label → List Token
label_tokens NoLabel = []
label_tokens (Labelled at number) = Number at number ∷ Mark t.Colon ∷ []

-- repeat = "*" | "+" | "?" | "{" n "}" | "{" n "," "}" | "{" n "," m "}"
pub data Repetition : Type 0 where
  Star : Repetition
  Plus : Repetition
  Question : Repetition
  Exactly : (at n_at n : ℕ) → Repetition
  From : (at n_at n : ℕ) → Repetition
  Between : (at n_at n m_at m : ℕ) → Repetition

-- the tokens that write a repetition
abbrev pub repetition_tokens : Repetition → List Token
repetition_tokens Star = Mark t.Star ∷ []
repetition_tokens Plus = Mark t.Plus ∷ []
repetition_tokens Question = Mark t.Question ∷ []
repetition_tokens (Exactly at n_at n) = OpenCurly at ∷ Number n_at n ∷ Mark t.CloseCurly ∷ []
repetition_tokens (From at n_at n) = OpenCurly at ∷ Number n_at n ∷ Mark t.Comma ∷ Mark t.CloseCurly ∷ []
repetition_tokens (Between at n_at n m_at m) = OpenCurly at ∷ Number n_at n ∷ Mark t.Comma ∷ Number m_at m ∷ Mark t.CloseCurly ∷ []

-- how an expression is joined: an atom, an atom that may be repeated, items one after another, sequences with `|` between them
pub data Rank : Type 0 where
  Atom : Rank
  Item : Rank
  Sequence : Rank
  Choice : Rank

-- An expression.
--   atom = label "[" [ test ] "]" | label string | tag | "(" choice ")"
--   tag = "<" name [ test ] ">" | "<" name [ test ] "/>" | "</" name ">"
--   item = atom [ repeat ]
--   seq = item | seq item
--   choice = seq | choice "|" seq
pub data ExprTree : Rank → Type 0 where
  TokenTest : (label : Label) (test : Option (TestTree OfToken Whole)) → ExprTree Atom
  String : (label : Label) (content : List ℕ) → ExprTree Atom
  BeginTag : (at : ℕ) (name : List ℕ) (test : Option (TestTree OfTag Whole)) → ExprTree Atom
  WholeTag : (at : ℕ) (name : List ℕ) (test : Option (TestTree OfTag Whole)) → ExprTree Atom
  EndTag : (at : ℕ) (name : List ℕ) → ExprTree Atom
  Group : ExprTree Choice → ExprTree Atom
  Once : ExprTree Atom → ExprTree Item
  Repeated : ExprTree Atom → (repetition : Repetition) → ExprTree Item
  First : ExprTree Item → ExprTree Sequence
  Then : ExprTree Sequence → ExprTree Item → ExprTree Sequence
  Branch : ExprTree Sequence → ExprTree Choice
  Or : ExprTree Choice → ExprTree Sequence → ExprTree Choice

-- the tokens that write an expression
unfoldable pub expr_tokens : {rank : Rank} → ExprTree rank → List Token
expr_tokens (TokenTest label test) = label_tokens label ++ Mark t.OpenSquare ∷ (maybe_tokens test ++ Mark t.CloseSquare ∷ [])
expr_tokens (String label content) = label_tokens label ++ Quoted content ∷ []
expr_tokens (BeginTag at name test) = Mark t.TagBegin ∷ Word at name ∷ (maybe_tokens test ++ Mark t.TagEnd ∷ [])
expr_tokens (WholeTag at name test) = Mark t.TagBegin ∷ Word at name ∷ (maybe_tokens test ++ Mark t.WholeEnd ∷ [])
expr_tokens (EndTag at name) = Mark t.ClosingTag ∷ Word at name ∷ Mark t.TagEnd ∷ []
expr_tokens (Group inner) = Mark t.OpenRound ∷ (expr_tokens inner ++ Mark t.CloseRound ∷ [])
expr_tokens (Once inner) = expr_tokens inner
expr_tokens (Repeated inner repetition) = expr_tokens inner ++ repetition_tokens repetition
expr_tokens (First item) = expr_tokens item
expr_tokens (Then left right) = expr_tokens left ++ expr_tokens right
expr_tokens (Branch sequence) = expr_tokens sequence
expr_tokens (Or left right) = expr_tokens left ++ Mark t.Bar ∷ expr_tokens right

-- op = [ "!" ] ( "within" | "containing" )
pub data Op : Type 0 where
  Within : (at : ℕ) → Op
  NotWithin : (at : ℕ) → Op
  Containing : (at : ℕ) → Op
  NotContaining : (at : ℕ) → Op

-- the tokens that write an op
abbrev pub op_tokens : Op → List Token
op_tokens (Within at) = Word at (codes "within") ∷ []
op_tokens (NotWithin at) = Mark t.Bang ∷ Word at (codes "within") ∷ []
op_tokens (Containing at) = Word at (codes "containing") ∷ []
op_tokens (NotContaining at) = Mark t.Bang ∷ Word at (codes "containing") ∷ []

-- an operand, or ops each with its operand
pub data Filtered : Type 0 where
  Operand : Filtered
  Filters : Filtered

-- operand = choice | "(" choice op operand { op operand } ")"
pub data FilterTree : Filtered → Type 0 where
  Plain : ExprTree Choice → FilterTree Operand
  WithFilters : ExprTree Choice → FilterTree Filters → FilterTree Operand
  Filter : (op : Op) → FilterTree Operand → FilterTree Filters
  More : FilterTree Filters → (op : Op) → FilterTree Operand → FilterTree Filters

-- the tokens that write an operand or filters
unfoldable pub filter_tokens : {sort : Filtered} → FilterTree sort → List Token
filter_tokens (Plain choice) = expr_tokens choice
filter_tokens (WithFilters choice filters) = Mark t.OpenRound ∷ (expr_tokens choice ++ (filter_tokens filters ++ Mark t.CloseRound ∷ []))
filter_tokens (Filter op operand) = op_tokens op ++ filter_tokens operand
filter_tokens (More filters op operand) = filter_tokens filters ++ (op_tokens op ++ filter_tokens operand)

-- cond = "&" number "." name ( "=" | "!=" ) number "." name
pub record CondTree : Type 0 where
  pub left_at : ℕ
  pub left : ℕ
  pub left_name_at : ℕ
  pub left_name : List ℕ
  pub equal : Bool
  pub right_at : ℕ
  pub right : ℕ
  pub right_name_at : ℕ
  pub right_name : List ℕ

-- the sign between the sides of a condition
abbrev pub equality_sign : Bool → Sign
equality_sign true = t.Is
equality_sign false = t.IsNot

-- the tokens that write a condition
abbrev pub cond_tokens : CondTree → List Token
cond_tokens c = Mark t.And ∷ Number c.left_at c.left ∷ Mark t.Dot ∷ Word c.left_name_at c.left_name ∷ Mark (equality_sign c.equal) ∷ Number c.right_at c.right ∷ Mark t.Dot
    ∷ Word c.right_name_at c.right_name ∷ []

-- the tokens that write conditions
abbrev pub conds_tokens : List CondTree → List Token
conds_tokens [] = []
conds_tokens (c ∷ cs) = cond_tokens c ++ conds_tokens cs

-- query = choice { op operand } { cond }
pub data QueryTree : Type 0 where
  Asks : ExprTree Choice → (conds : List CondTree) → QueryTree
  AsksFiltered : ExprTree Choice → FilterTree Filters → (conds : List CondTree) → QueryTree

-- the tokens that write a query
abbrev pub query_tokens : QueryTree → List Token
query_tokens (Asks head conds) = expr_tokens head ++ conds_tokens conds
query_tokens (AsksFiltered head filters conds) = expr_tokens head ++ (filter_tokens filters ++ conds_tokens conds)
