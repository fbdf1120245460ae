-- Sequences of tests of tokens in which one gap stands: one test of a token with no label, so many times.
use Rattle.std.specs.Prelude.{ℕ, ◌≡◌, ◌+◌, ◌<◌, ◌≤◌, ◌⊎◌, List, [], ◌∷◌, ◌++◌, length}
use Rattle.std.specs.List.{All, AllZip}
use Rattle.mt_text_spec.specs.Texts.{Row}
use Rattle.mt_text_spec.specs.Queries as q
use Rattle.mt_query_spec.specs.Contents.{token_tests}
use Rattle.mt_match_spec.specs.Labels.{no_labels, labelled, united}
use Rattle.mt_segment_spec.specs.Tables.{Tables, first_place}
use Rattle.mt_eval_spec.specs.Told.{told}
use Rattle.mt_automaton.specs.RowsFrom.{IsRowFrom}
use Rattle.mt_prepare.specs.Resolved.{Resolves}
use Rattle.mt_prepare.specs.TestRows.{HasAttrs, SaysAt}
use Rattle.mt_prepare.specs.declared.resolved.Resolved.{Resolved}
use Rattle.mt_eval.specs.Sequences.{IsSequence, SayFrom}

-- a test of a token with no label
abbrev pub IsTurn : q.Expr → q.Test → Type 0
IsTurn (q.TokenTest label test) gap = (label ≡ 0) × (test ≡ gap)
IsTurn (q.Begin kind test) gap = ⊥
IsTurn (q.End kind) gap = ⊥
IsTurn (q.Whole kind test) gap = ⊥
IsTurn (q.Seq left right) gap = ⊥
IsTurn (q.Choice left right) gap = ⊥
IsTurn (q.Repeat inner least most) gap = ⊥

-- tests of tokens before a gap, the test of the gap, and tests behind it; of the gap's tokens there are at least and at most so many
abbrev pub IsGapped : q.Expr → (heads : List q.Test) → (gap : q.Test) → (tails : List q.Test) → (least most : ℕ) → Type 0
IsGapped (q.TokenTest label test) heads gap tails least most = ⊥
IsGapped (q.Begin kind test) heads gap tails least most = ⊥
IsGapped (q.End kind) heads gap tails least most = ⊥
IsGapped (q.Whole kind test) heads gap tails least most = ⊥
IsGapped (q.Seq left right) heads gap tails least most =
    (IsSequence right × (rest : List q.Test) × IsGapped left heads gap rest least most × (tails ≡ rest ++ token_tests right))
    ⊎ (IsSequence left × (rest : List q.Test) × IsGapped right rest gap tails least most × (heads ≡ token_tests left ++ rest))
IsGapped (q.Choice left right) heads gap tails least most = ⊥
IsGapped (q.Repeat inner least most) heads gap tails low high = IsTurn inner gap × (heads ≡ []) × (tails ≡ []) × (least ≡ low) × (most ≡ high)

-- there is one gap behind so many tests
pub record HasGap (expr : q.Expr) (before least most : ℕ) : Type 0 where
  pub heads : List q.Test
  pub gap : q.Test
  pub tails : List q.Test
  pub is : IsGapped expr heads gap tails least most
  pub count : length heads ≡ before
  pub whole : token_tests expr ≡ heads ++ gap ∷ tails

-- how many tokens an expression takes, where each of its gaps takes so many
abbrev pub width_over : q.Expr → (turns : ℕ) → ℕ
width_over (q.TokenTest label test) turns = 1
width_over (q.Begin kind test) turns = 0
width_over (q.End kind) turns = 0
width_over (q.Whole kind test) turns = 0
width_over (q.Seq left right) turns = width_over left turns + width_over right turns
width_over (q.Choice left right) turns = 0
width_over (q.Repeat inner least most) turns = turns

-- the labels that it then sets where it begins at a place
abbrev pub labels_over : q.Expr → (turns begin : ℕ) → List ℕ
labels_over (q.TokenTest label test) turns begin = labelled label begin
labels_over (q.Begin kind test) turns begin = no_labels
labels_over (q.End kind) turns begin = no_labels
labels_over (q.Whole kind test) turns begin = no_labels
labels_over (q.Seq left right) turns begin = united (labels_over left turns begin) (labels_over right turns (begin + width_over left turns))
labels_over (q.Choice left right) turns begin = no_labels
labels_over (q.Repeat inner least most) turns begin = no_labels

-- its row there
abbrev pub row_over : q.Expr → (turns text begin : ℕ) → Row
row_over expr turns text begin = record { span = record { text = text; begin = begin; end = begin + width_over expr turns }; labels = labels_over expr turns begin }

-- the tests before a gap, that of the gap and those behind it, resolved
pub record AreTestsAround (tables : Tables) (expr : q.Expr) (before : List Resolved) (gap : Resolved) (after : List Resolved) (least most : ℕ) : Type 0 where
  pub heads : List q.Test
  pub test : q.Test
  pub tails : List q.Test
  pub is : IsGapped expr heads test tails least most
  pub heads_are : AllZip (Resolves tables) heads before
  pub test_is : Resolves tables test gap
  pub tails_are : AllZip (Resolves tables) tails after
  pub before_attrs : All (HasAttrs tables) before
  pub gap_attrs : HasAttrs tables gap
  pub after_attrs : All (HasAttrs tables) after

-- from a place of a text on the tests say so, one after another, and their tokens lie in the text
pub record AreMet (tables : Tables) (text : ℕ) (tests : List Resolved) (begin : ℕ) : Type 0 where
  pub inside : first_place tables text + begin + length tests ≤ first_place tables (text + 1)
  pub say : SayFrom tables tests 0 (length tests) (first_place tables text + begin)

-- from a place of a text on a test says so of so many tokens, which lie in the text
pub record IsMetOver (tables : Tables) (text : ℕ) (test : Resolved) (begin turns : ℕ) : Type 0 where
  pub inside : first_place tables text + begin + turns ≤ first_place tables (text + 1)
  pub say : (n : ℕ) → n < turns → SaysAt tables test (first_place tables text + begin + n)

-- and of no more, or they are as many as may be
pub record IsReach (tables : Tables) (text : ℕ) (test : Resolved) (begin most reach : ℕ) : Type 0 where
  pub high : reach ≤ most
  pub met : IsMetOver tables text test begin reach
  pub last : reach < most → first_place tables text + begin + reach < first_place tables (text + 1) → ¬ SaysAt tables test (first_place tables text + begin + reach)

-- a row from a place of a text on that has so many tokens
pub record IsRowLong (tables : Tables) (expr : q.Expr) (text begin tokens : ℕ) (row : Row) : Type 0 where
  pub is : IsRowFrom (told tables text) expr text begin row
  pub long : row.span.end ≡ begin + tokens

-- or fewer
pub record IsRowShort (tables : Tables) (expr : q.Expr) (text begin tokens : ℕ) (row : Row) : Type 0 where
  pub is : IsRowFrom (told tables text) expr text begin row
  pub short : row.span.end < begin + tokens
