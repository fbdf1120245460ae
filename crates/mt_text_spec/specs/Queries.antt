-- What a query and a sketch grammar are once they are read, apart from how they are written.
use Rattle.std.specs.Prelude.{ℕ, Bool, List}

-- A test of a token, or of an instance of a structure. `attr` is the number of an attribute, of the structure's attributes where an instance is tested.
pub data Test : Type 0 where
  Any : Test
  Pattern : (attr : ℕ) (text : List ℕ) (negated : Bool) → Test
  Literal : (attr : ℕ) (text : List ℕ) (negated : Bool) → Test
  Not : (inner : Test) → Test
  Both : (left right : Test) → Test
  Either : (left right : Test) → Test

-- What a part of a query matches: a token, under a label or under none (0); the begin, the end or the whole of an instance of a structure, by the number of its
-- kind; one part after another; either of two; a part repeated, so many times at least and at most.
pub data Expr : Type 0 where
  TokenTest : (label : ℕ) (test : Test) → Expr
  Begin : (kind : ℕ) (test : Test) → Expr
  End : (kind : ℕ) → Expr
  Whole : (kind : ℕ) (test : Test) → Expr
  Seq : (left right : Expr) → Expr
  Choice : (left right : Expr) → Expr
  Repeat : (inner : Expr) (least most : ℕ) → Expr

-- what a filter asks of a span: that it lies in a span of the operand or in none, that it holds one or none
pub data FilterKind : Type 0 where
  Within : FilterKind
  NotWithin : FilterKind
  Containing : FilterKind
  NotContaining : FilterKind

-- filters from left to right, each with an operand that may have filters of its own
pub data Filters : Type 0 where
  NoMore : Filters
  More : (kind : FilterKind) (head : Expr) (filters : Filters) (others : Filters) → Filters

-- a condition on the values at two labels: that they are equal, or that they differ
pub record Cond : Type 0 where
  pub left : ℕ
  pub left_attr : ℕ
  pub equal : Bool
  pub right : ℕ
  pub right_attr : ℕ

-- a query: its head, what filters the head, and conditions on the labels of the head
pub record Query : Type 0 where
  pub head : Expr
  pub filters : Filters
  pub conds : List Cond

-- ## Sketch grammars

-- what the instances of a relation are: pairs; pairs under two names, one for each direction; pairs in both directions; pairs whose name has a third word; single
-- tokens
pub data RelationKind : Type 0 where
  Plain : RelationKind
  Dual : RelationKind
  Symmetric : RelationKind
  Trinary : RelationKind
  Unary : RelationKind

-- a relation of word sketches: its kind, its name, the second name of a dual one (else empty), and its queries
pub record Relation : Type 0 where
  pub kind : RelationKind
  pub name : List ℕ
  pub second : List ℕ
  pub queries : List Query

-- a sketch grammar: its relations in the order of its headings
pub record Grammar : Type 0 where
  pub relations : List Relation
