-- The printed text of a query: the shortest parentheses, one blank where blanks stand, and the name of each attribute.
use Rattle.std.specs.Prelude.{ℕ, ◌==◌, ◌||◌, nat_lt, Bool, true, false, cond, List, [], ◌∷◌, ◌++◌, codes, decimal, slice_index_or}
use Rattle.mt_text_spec.specs.Registries.{Registry, attr_names, kind_names, kind_attrs}
use Rattle.mt_text_spec.specs.Queries.{Test, Any, Pattern, Literal, Not, Both, Either, Expr, TokenTest, Begin, End, Whole, Seq, Choice, Repeat, FilterKind, Within, NotWithin, Containing, NotContaining, Filters, NoMore, More, Cond, Query}
use Rattle.mt_query_spec.specs.Trees.{TestRank, Rank, Atom, Item, Sequence, Unary, Conjunction}
use Rattle.mt_query_spec.specs.Trees as tree

-- ## Names and strings

-- the name with a number among the names that are declared; a number of no name has none
abbrev pub name_at : List (List ℕ) → ℕ → List ℕ
name_at names number = slice_index_or names number []

-- a text with a backslash before each byte of some kind
abbrev pub escaped : (ℕ → Bool) → List ℕ → List ℕ
escaped marked [] = []
escaped marked (b ∷ rest) = cond (marked b) (92 ∷ b ∷ escaped marked rest) (b ∷ escaped marked rest)

-- a text between quotes, with a backslash before each byte of some kind
abbrev pub quoted : (ℕ → Bool) → List ℕ → List ℕ
quoted marked text = codes "\"" ++ (escaped marked text ++ codes "\"")

-- in a pattern's string each `"` has a backslash before it
abbrev pub pattern_string : List ℕ → List ℕ
pattern_string text = quoted (λ b. b == 34) text

-- in a literal's string each `"` and each backslash
abbrev pub literal_string : List ℕ → List ℕ
literal_string text = quoted (λ b. b == 34 || b == 92) text

-- in parentheses or not
abbrev pub bracketed : Bool → List ℕ → List ℕ
bracketed true text = codes "(" ++ (text ++ codes ")")
bracketed false text = text

-- ## Tests

-- where a test joined by `&` has parentheses: where one test alone is wanted, that is in the second part of another and behind `!`
abbrev pub brackets_both : TestRank → Bool
brackets_both Unary = true
brackets_both Conjunction = false
brackets_both tree.Whole = false

-- where one joined by `|` has them: everywhere but in the first part of another and where the test is whole
abbrev pub brackets_either : TestRank → Bool
brackets_either Unary = true
brackets_either Conjunction = true
brackets_either tree.Whole = false

-- a test as it is printed where a test of this rank is wanted, under the names of attributes
abbrev pub printed_test : (names : List (List ℕ)) → TestRank → Test → List ℕ
printed_test names rank Any = []
printed_test names rank (Pattern attr text negated) = name_at names attr ++ (cond negated (codes "!=") (codes "=") ++ pattern_string text)
printed_test names rank (Literal attr text negated) = name_at names attr ++ (cond negated (codes "!==") (codes "==") ++ literal_string text)
printed_test names rank (Not inner) = codes "!" ++ printed_test names Unary inner
printed_test names rank (Both left right) = bracketed (brackets_both rank) (printed_test names Conjunction left ++ (codes " & " ++ printed_test names Unary right))
printed_test names rank (Either left right) = bracketed (brackets_either rank) (printed_test names tree.Whole left ++ (codes " | " ++ printed_test names Conjunction right))

-- ## Expressions

-- a label with its colon
abbrev pub printed_label : ℕ → List ℕ
printed_label label = cond (nat_lt 0 label) (decimal label ++ codes ":") []

-- no test holds of everything, else a blank stands before it
abbrev pub has_test : Test → Bool
has_test Any = false
has_test _ = true

-- the begin of a tag: its name, and its test where it has one
abbrev pub printed_tag : (name : List ℕ) (attrs : List (List ℕ)) → Test → List ℕ
printed_tag name attrs test = codes "<" ++ (name ++ (cond (has_test test) (codes " ") [] ++ printed_test attrs tree.Whole test))

-- where a repetition has parentheses: inside another
abbrev pub brackets_repeat : Rank → Bool
brackets_repeat Atom = true
brackets_repeat Item = false
brackets_repeat Sequence = false
brackets_repeat tree.Choice = false

-- where a sequence has them: in the second part of another and inside a repetition
abbrev pub brackets_seq : Rank → Bool
brackets_seq Atom = true
brackets_seq Item = true
brackets_seq Sequence = false
brackets_seq tree.Choice = false

-- where a choice has them: everywhere but in the first part of another and where the expression is whole
abbrev pub brackets_choice : Rank → Bool
brackets_choice Atom = true
brackets_choice Item = true
brackets_choice Sequence = true
brackets_choice tree.Choice = false

-- the braces of a repetition
abbrev pub printed_turns : (least most : ℕ) → List ℕ
printed_turns least most = codes "{" ++ (decimal least ++ (codes "," ++ (decimal most ++ codes "}")))

-- an expression as it is printed where one of this rank is wanted
abbrev pub printed_expr : Registry → Rank → Expr → List ℕ
printed_expr registry rank (TokenTest label test) = printed_label label ++ (codes "[" ++ (printed_test (attr_names registry.attrs) tree.Whole test ++ codes "]"))
printed_expr registry rank (Begin kind test) = printed_tag (name_at (kind_names registry.kinds) kind) (kind_attrs registry.kinds kind) test ++ codes ">"
printed_expr registry rank (End kind) = codes "</" ++ (name_at (kind_names registry.kinds) kind ++ codes ">")
printed_expr registry rank (Whole kind test) = printed_tag (name_at (kind_names registry.kinds) kind) (kind_attrs registry.kinds kind) test ++ codes "/>"
printed_expr registry rank (Seq left right) = bracketed (brackets_seq rank) (printed_expr registry Sequence left ++ (codes " " ++ printed_expr registry Item right))
printed_expr registry rank (Choice left right) = bracketed (brackets_choice rank) (printed_expr registry tree.Choice left ++ (codes " | " ++ printed_expr registry Sequence right))
printed_expr registry rank (Repeat inner least most) = bracketed (brackets_repeat rank) (printed_expr registry Atom inner ++ printed_turns least most)

-- ## Filters and conditions

-- the word of a filter, with blanks round it
abbrev pub printed_kind : FilterKind → List ℕ
printed_kind Within = codes " within "
printed_kind NotWithin = codes " !within "
printed_kind Containing = codes " containing "
printed_kind NotContaining = codes " !containing "

-- whether there is a filter
abbrev pub has_filters : Filters → Bool
has_filters NoMore = false
has_filters (More kind head filters others) = true

-- an operand stands in parentheses exactly where it has filters of its own
abbrev pub printed_filters : Registry → Filters → List ℕ
printed_filters registry NoMore = []
printed_filters registry (More kind head filters others) =
    printed_kind kind ++ (bracketed (has_filters filters) (printed_expr registry tree.Choice head ++ printed_filters registry filters) ++ printed_filters registry others)

-- one side of a condition: a label and the name of an attribute
abbrev pub printed_side : (names : List (List ℕ)) (label attr : ℕ) → List ℕ
printed_side names label attr = decimal label ++ (codes "." ++ name_at names attr)

-- a condition: its sides with the sign between them
abbrev pub printed_cond : (names : List (List ℕ)) → Cond → List ℕ
printed_cond names c = codes " & " ++ (printed_side names c.left c.left_attr ++ (cond c.equal (codes " = ") (codes " != ") ++ printed_side names c.right c.right_attr))

-- conditions, one behind the other
abbrev pub printed_conds : (names : List (List ℕ)) → List Cond → List ℕ
printed_conds names [] = []
printed_conds names (c ∷ conds) = printed_cond names c ++ printed_conds names conds

-- ## Queries

-- the text of a query: its head, its filters and its conditions
abbrev pub printed : Registry → Query → List ℕ
printed registry query = printed_expr registry tree.Choice query.head ++ (printed_filters registry query.filters ++ printed_conds (attr_names registry.attrs) query.conds)
