-- When a query is valid, and when a text of whatever length is read as it.
use Rattle.std.specs.Prelude.{ℕ, ◌≡◌, ◌==◌, ◌&&◌, ◌||◌, ◌^◌, ◌<◌, ◌≤◌, not, nat_eq, nat_lt, Bool, true, false, List, [], ◌∷◌, length, None, Ok}
use Rattle.mt_text_spec.specs.Registries.{Registry, attr_names, kind_attrs}
use Rattle.mt_text_spec.specs.Queries.{Test, Any, Pattern, Literal, Not, Both, Either, Expr, TokenTest, Begin, End, Whole, Seq, Choice, Repeat, Filters, NoMore, More, Cond, Query}
use Rattle.mt_query_spec.specs.Tokens.{tokens_of, deepest}
use Rattle.mt_query_spec.specs.Trees.{QueryTree, query_tokens}
use Rattle.mt_query_spec.specs.Verdicts.{plain, verdict, is_too_great}
use Rattle.mt_query_spec.specs.Printed.{printed}

-- no backslash takes a `"`, and each takes some byte; `taken` says whether one stands before
abbrev pub is_pattern_text : (taken : Bool) → List ℕ → Bool
is_pattern_text taken [] = not taken
is_pattern_text true (b ∷ rest) = not (b == 34) && is_pattern_text false rest
is_pattern_text false (b ∷ rest) = is_pattern_text (b == 92) rest

-- a test whose attributes are among these names
abbrev pub ValidTest : (names : List (List ℕ)) → Test → Type 0
ValidTest names Any = ⊥
ValidTest names (Pattern attr text negated) = (attr < length names) × (is_pattern_text false text ≡ true)
ValidTest names (Literal attr text negated) = attr < length names
ValidTest names (Not inner) = ValidTest names inner
ValidTest names (Both left right) = ValidTest names left × ValidTest names right
ValidTest names (Either left right) = ValidTest names left × ValidTest names right

-- no test, or a test
abbrev pub ValidMaybe : (names : List (List ℕ)) → Test → Type 0
ValidMaybe names Any = Unit {0}
ValidMaybe names (Pattern attr text negated) = ValidTest names (Pattern attr text negated)
ValidMaybe names (Literal attr text negated) = ValidTest names (Literal attr text negated)
ValidMaybe names (Not inner) = ValidTest names (Not inner)
ValidMaybe names (Both left right) = ValidTest names (Both left right)
ValidMaybe names (Either left right) = ValidTest names (Either left right)

-- whether a label stands in an expression; 0 is none
abbrev pub has_label : ℕ → Expr → Bool
has_label n (TokenTest label test) = nat_lt 0 label && nat_eq label n
has_label n (Begin kind test) = false
has_label n (End kind) = false
has_label n (Whole kind test) = false
has_label n (Seq left right) = has_label n left || has_label n right
has_label n (Choice left right) = has_label n left || has_label n right
has_label n (Repeat inner least most) = has_label n inner

-- no label stands in the expression
abbrev pub HasNoLabel : Expr → Type 0
HasNoLabel expr = (n : ℕ) → has_label n expr ≡ false

-- no label stands twice in one sequence, and none under a repetition that may turn more than once; the bounds of a repetition have at most nine digits
abbrev pub ValidExpr : Registry → Expr → Type 0
ValidExpr registry (TokenTest label test) = (label < 10) × ValidMaybe (attr_names registry.attrs) test
ValidExpr registry (Begin kind test) = (kind < length registry.kinds) × ValidMaybe (kind_attrs registry.kinds kind) test
ValidExpr registry (End kind) = kind < length registry.kinds
ValidExpr registry (Whole kind test) = (kind < length registry.kinds) × ValidMaybe (kind_attrs registry.kinds kind) test
ValidExpr registry (Seq left right) = ValidExpr registry left × ValidExpr registry right × ((n : ℕ) → (has_label n left && has_label n right) ≡ false)
ValidExpr registry (Choice left right) = ValidExpr registry left × ValidExpr registry right
ValidExpr registry (Repeat inner least most) = ValidExpr registry inner × (least ≤ most) × (most < 10 ^ 9) × (1 < most → HasNoLabel inner)

-- no label stands in an operand
abbrev pub ValidFilters : Registry → Filters → Type 0
ValidFilters registry NoMore = Unit {0}
ValidFilters registry (More kind head filters others) = ValidExpr registry head × HasNoLabel head × ValidFilters registry filters × ValidFilters registry others

-- a condition names labels of the head
pub record ValidCond (registry : Registry) (head : Expr) (c : Cond) : Type 0 where
  pub left : has_label c.left head ≡ true
  pub left_attr : c.left_attr < length registry.attrs
  pub right : has_label c.right head ≡ true
  pub right_attr : c.right_attr < length registry.attrs

-- each condition is valid
abbrev pub ValidConds : Registry → Expr → List Cond → Type 0
ValidConds registry head [] = Unit {0}
ValidConds registry head (c ∷ conds) = ValidCond registry head c × ValidConds registry head conds

-- A query is valid where it obeys the rules on names, labels, ranges, nodes, Size and nesting. No text of a query nests less deep than its printed one.
pub record ValidQuery (registry : Registry) (query : Query) : Type 0 where
  pub head : ValidExpr registry query.head
  pub filters : ValidFilters registry query.filters
  pub conds : ValidConds registry query.head query.conds
  pub small : is_too_great query ≡ false
  pub nests : deepest (printed registry query) ≤ 32

-- A text is read as a query and obeys all rules, but that it may be of any length.
pub record IsReadAs (registry : Registry) (default : ℕ) (text : List ℕ) (query : Query) : Type 0 where
  pub part : QueryTree
  pub whole : (tokens_of text).stop ≡ None
  pub tokens : query_tokens part ≡ plain (tokens_of text).tokens
  pub nests : deepest text ≤ 32
  pub obeys : verdict registry default part ≡ Ok query
