-- What the tests of a query ask of a segment: where their patterns stand among those of the query, and which attributes and kinds they name.
use Rattle.std.specs.Prelude.{ℕ, ◌≡◌, ◌<◌, ◌+◌, Bool, List, [], length, slice_index_or}
use Rattle.mt_text_spec.specs.Queries as q
use Rattle.mt_pattern_spec.specs.Patterns.{MarksAccepted}
use Rattle.mt_segment_spec.specs.Tables.{Tables, tables_at}
use Rattle.mt_eval_spec.specs.Asked.{test_patterns, expr_patterns, filters_patterns}

-- marks say which values of the attribute the pattern accepts
abbrev pub Answers : Tables → (attr : ℕ) → (text : List ℕ) → List Bool → Type 0
Answers tables attr text marks = MarksAccepted text (tables_at tables.attrs attr).lexicon marks

-- a pattern stands in a list of them, at this place
pub record StandsAt (texts : List (List ℕ)) (at : ℕ) (text : List ℕ) : Type 0 where
  pub within : at < length texts
  pub is_there : slice_index_or texts at [] ≡ text

-- the patterns of a test stand there from this place on
abbrev pub TestStands : (texts : List (List ℕ)) (at : ℕ) → q.Test → Type 0
TestStands texts at q.Any = Unit {0}
TestStands texts at (q.Pattern attr text negated) = StandsAt texts at text
TestStands texts at (q.Literal attr text negated) = Unit {0}
TestStands texts at (q.Not inner) = TestStands texts at inner
TestStands texts at (q.Both left right) = TestStands texts at left × TestStands texts (at + length (test_patterns left)) right
TestStands texts at (q.Either left right) = TestStands texts at left × TestStands texts (at + length (test_patterns left)) right

-- those of an expression
abbrev pub ExprStands : (texts : List (List ℕ)) (at : ℕ) → q.Expr → Type 0
ExprStands texts at (q.TokenTest label test) = TestStands texts at test
ExprStands texts at (q.Begin kind test) = TestStands texts at test
ExprStands texts at (q.End kind) = Unit {0}
ExprStands texts at (q.Whole kind test) = TestStands texts at test
ExprStands texts at (q.Seq left right) = ExprStands texts at left × ExprStands texts (at + length (expr_patterns left)) right
ExprStands texts at (q.Choice left right) = ExprStands texts at left × ExprStands texts (at + length (expr_patterns left)) right
ExprStands texts at (q.Repeat inner least most) = ExprStands texts at inner

-- and those of filters
abbrev pub FiltersStand : (texts : List (List ℕ)) (at : ℕ) → q.Filters → Type 0
FiltersStand texts at q.NoMore = Unit {0}
FiltersStand texts at (q.More kind head filters others) =
    ExprStands texts at head × FiltersStand texts (at + length (expr_patterns head)) filters ×
    FiltersStand texts (at + length (expr_patterns head) + length (filters_patterns filters)) others

-- the attributes that a test names are such
abbrev pub NamesOnly : (P : ℕ → Type 0) → q.Test → Type 0
NamesOnly P q.Any = Unit {0}
NamesOnly P (q.Pattern attr text negated) = P attr
NamesOnly P (q.Literal attr text negated) = P attr
NamesOnly P (q.Not inner) = NamesOnly P inner
NamesOnly P (q.Both left right) = NamesOnly P left × NamesOnly P right
NamesOnly P (q.Either left right) = NamesOnly P left × NamesOnly P right

-- the attributes of tokens that an expression names are such, and the kinds of structures
abbrev pub Names : (Attrs Kinds : ℕ → Type 0) → q.Expr → Type 0
Names Attrs Kinds (q.TokenTest label test) = NamesOnly Attrs test
Names Attrs Kinds (q.Begin kind test) = Kinds kind
Names Attrs Kinds (q.End kind) = Kinds kind
Names Attrs Kinds (q.Whole kind test) = Kinds kind
Names Attrs Kinds (q.Seq left right) = Names Attrs Kinds left × Names Attrs Kinds right
Names Attrs Kinds (q.Choice left right) = Names Attrs Kinds left × Names Attrs Kinds right
Names Attrs Kinds (q.Repeat inner least most) = Names Attrs Kinds inner

-- and those of filters
abbrev pub FiltersName : (Attrs Kinds : ℕ → Type 0) → q.Filters → Type 0
FiltersName Attrs Kinds q.NoMore = Unit {0}
FiltersName Attrs Kinds (q.More kind head filters others) = Names Attrs Kinds head × FiltersName Attrs Kinds filters × FiltersName Attrs Kinds others

-- an attribute of the segment
abbrev pub HasAttr : Tables → ℕ → Type 0
HasAttr tables attr = attr < length tables.attrs

-- a kind of structure of the segment
abbrev pub HasKind : Tables → ℕ → Type 0
HasKind tables kind = kind < length tables.structs
