-- What the parser does with the tokens of a whole query, one by one.
use Rattle.std.specs.Prelude.{ℕ, Bool, true, false, List, [], ◌∷◌, Option, None, Some, nat_eq, cond, codes}
use Rattle.std.specs.Cmp.Lexicographic.{pointwise}
use Rattle.mt_query_spec.specs.Tokens.{Token, Quoted, Number, Word, OpenCurly, Mark, Sign}
use Rattle.mt_query_spec.specs.Tokens as t
use Rattle.mt_query_spec.specs.Trees.{Tested, OfToken, OfTag, TestRank, Whole, Label, NoLabel, Labelled, Repetition, Star, Plus, Question, Exactly, From, Between, Rank, Atom, Item, Sequence, Choice, Op, Within, NotWithin, Containing, NotContaining, Filtered, Operand, Filters, CondTree}
use Rattle.mt_query_laws.specs.Machine.{and_then, TestWays, TestState, test_start, test_step, whole_test}

-- how a query is built
pub record Ways (Y : Tested → TestRank → Type 0) (X : Rank → Type 0) (F : Filtered → Type 0) (C Q : Type 0) : Type 0 where
  pub token_tests : TestWays (Y OfToken)
  pub tag_tests : List ℕ → TestWays (Y OfTag)
  pub token_test : Label → Option (Y OfToken Whole) → X Atom
  pub string : Label → List ℕ → X Atom
  pub begin_tag : ℕ → List ℕ → Option (Y OfTag Whole) → X Atom
  pub whole_tag : ℕ → List ℕ → Option (Y OfTag Whole) → X Atom
  pub end_tag : ℕ → List ℕ → X Atom
  pub group : X Choice → X Atom
  pub once : X Atom → X Item
  pub repeated : X Atom → Repetition → X Item
  pub first : X Item → X Sequence
  pub then : X Sequence → X Item → X Sequence
  pub branch : X Sequence → X Choice
  pub or : X Choice → X Sequence → X Choice
  pub plain : X Choice → F Operand
  pub with_filters : X Choice → F Filters → F Operand
  pub filter : Op → F Operand → F Filters
  pub more : F Filters → Op → F Operand → F Filters
  pub no_conds : C
  pub cond : X Choice → C → CondTree → C
  pub asks : X Choice → C → Q
  pub asks_filtered : X Choice → F Filters → C → Q

-- what stands before a choice inside parentheses: items before it in one sequence, sequences before that
pub record Group (X : Rank → Type 0) : Type 0 where
  pub sequence : Option (X Sequence)
  pub branches : Option (X Choice)

-- an op whose operand is being read, with what stands before it
pub record Head (X : Rank → Type 0) (F : Filtered → Type 0) : Type 0 where
  pub choice : X Choice
  pub filters : Option (F Filters)
  pub op : Op

-- what stands round a choice that is being read: parentheses round it, the nearest first, and outside of them ops whose operands are being read, of which each but
-- the last stands in parentheses
pub record Around (X : Rank → Type 0) (F : Filtered → Type 0) : Type 0 where
  pub groups : List (Group X)
  pub heads : List (Head X F)

-- where an item stands
pub record Place (X : Rank → Type 0) (F : Filtered → Type 0) : Type 0 where
  pub before : Group X
  pub around : Around X F

-- what of a repetition is read behind its `{`
pub data Counting : Type 0 where
  Opened : Counting
  Least : (n_at n : ℕ) → Counting
  LeastComma : (n_at n : ℕ) → Counting
  Most : (n_at n m_at m : ℕ) → Counting

-- a side of a condition: a label, and the name of an attribute
pub record Side : Type 0 where
  pub at : ℕ
  pub number : ℕ
  pub name_at : ℕ
  pub name : List ℕ

-- what of a side is read: nothing, its label, or the dot behind that
pub data SideState : Type 0 where
  Started : SideState
  Numbered : (at number : ℕ) → SideState
  Dotted : (at number : ℕ) → SideState

-- what of a condition is read behind its `&`: some of its left side, all of that, or that with the sign and some of its right side
pub data Condition : Type 0 where
  Left : (side : SideState) → Condition
  LeftRead : (left : Side) → Condition
  Right : (left : Side) (equal : Bool) (right : SideState) → Condition

-- the condition of two sides and the sign between them
abbrev pub cond_tree : Side → (equal : Bool) → Side → CondTree
cond_tree left equal right = record {
  left_at = left.at;
  left = left.number;
  left_name_at = left.name_at;
  left_name = left.name;
  equal = equal;
  right_at = right.at;
  right = right.number;
  right_name_at = right.name_at;
  right_name = right.name;
}

-- the next token of the left side of a condition
unfoldable pub left_step : SideState → Token → Option Condition
left_step Started (Number at number) = Some (Left (Numbered at number))
left_step (Numbered at number) (Mark t.Dot) = Some (Left (Dotted at number))
left_step (Dotted at number) (Word name_at name) = Some (LeftRead (record { at = at; number = number; name_at = name_at; name = name }))
left_step side _ = None

-- the sign behind it
unfoldable pub sign_step : Side → Token → Option Condition
sign_step left (Mark t.Is) = Some (Right left true Started)
sign_step left (Mark t.IsNot) = Some (Right left false Started)
sign_step left _ = None

-- the next token of the right side, before its name
unfoldable pub right_step : Side → (equal : Bool) → SideState → Token → Option Condition
right_step left equal Started (Number at number) = Some (Right left equal (Numbered at number))
right_step left equal (Numbered at number) (Mark t.Dot) = Some (Right left equal (Dotted at number))
right_step left equal right _ = None

-- the head of a query and its filters
pub record Asked (X : Rank → Type 0) (F : Filtered → Type 0) : Type 0 where
  pub choice : X Choice
  pub filters : Option (F Filters)

-- the word that begins an op, behind `!` or not
abbrev pub op_of : ℕ → List ℕ → Option Op
op_of at name = cond (pointwise nat_eq name (codes "within")) (Some (Within at)) (cond (pointwise nat_eq name (codes "containing")) (Some (Containing at)) None)

-- the word behind `!` that begins an op
abbrev pub not_op_of : ℕ → List ℕ → Option Op
not_op_of at name = cond (pointwise nat_eq name (codes "within")) (Some (NotWithin at)) (cond (pointwise nat_eq name (codes "containing")) (Some (NotContaining at)) None)

-- a `(` behind an op holds filters if an op follows its choice
unfoldable pub opened_operand : {X : Rank → Type 0} {F : Filtered → Type 0} → X Choice → Option (X Sequence) → Option (X Choice) → List (Head X F) → Option (Asked X F × List (Head X F))
opened_operand choice None None heads = Some (record { choice = choice; filters = None }, heads)
opened_operand choice _ _ heads = None

-- where the reading of a query stands
pub data State (Y : Tested → TestRank → Type 0) (X : Rank → Type 0) (F : Filtered → Type 0) (C : Type 0) : Type 0 where
  Wanted : (place : Place X F) → State Y X F C
  LabelRead : (at number : ℕ) (place : Place X F) → State Y X F C
  LabelDone : (at number : ℕ) (place : Place X F) → State Y X F C
  TokenOpened : (label : Label) (place : Place X F) → State Y X F C
  InToken : (label : Label) (test : TestState (Y OfToken)) (place : Place X F) → State Y X F C
  TagOpened : (place : Place X F) → State Y X F C
  TagNamed : (at : ℕ) (name : List ℕ) (place : Place X F) → State Y X F C
  InTag : (at : ℕ) (name : List ℕ) (test : TestState (Y OfTag)) (place : Place X F) → State Y X F C
  ClosingOpened : (place : Place X F) → State Y X F C
  ClosingNamed : (at : ℕ) (name : List ℕ) (place : Place X F) → State Y X F C
  AtomRead : (atom : X Atom) (place : Place X F) → State Y X F C
  InRepeat : (atom : X Atom) (at : ℕ) (counting : Counting) (place : Place X F) → State Y X F C
  ItemRead : (sequence : X Sequence) (branches : Option (X Choice)) (around : Around X F) → State Y X F C
  FiltersRead : (choice : X Choice) (filters : F Filters) (heads : List (Head X F)) → State Y X F C
  BangRead : (asked : Asked X F) (heads : List (Head X F)) → State Y X F C
  InCond : (asked : Asked X F) (conds : C) (cond : Condition) → State Y X F C
  CondRead : (asked : Asked X F) (conds : C) → State Y X F C

module _ {Y : Tested → TestRank → Type 0} {X : Rank → Type 0} {F : Filtered → Type 0} {C Q : Type 0} (ways : Ways Y X F C Q) where
  -- nothing stands before
  abbrev pub none_before : Group X
  none_before = record { sequence = None; branches = None }

  -- a choice is wanted
  abbrev pub choice_place : Around X F → Place X F
  choice_place around = record { before = none_before; around = around }

  -- nothing of a query is read
  abbrev pub start : State Y X F C
  start = Wanted (choice_place (record { groups = []; heads = [] }))

  -- a sequence with one item more
  abbrev pub sequence_of : Option (X Sequence) → X Item → X Sequence
  sequence_of None item = ways.first item
  sequence_of (Some left) item = ways.then left item

  -- a choice with one sequence more
  abbrev pub choice_of : Option (X Choice) → X Sequence → X Choice
  choice_of None sequence = ways.branch sequence
  choice_of (Some left) sequence = ways.or left sequence

  -- filters with one more
  abbrev pub filters_of : Option (F Filters) → Op → F Operand → F Filters
  filters_of None op operand = ways.filter op operand
  filters_of (Some left) op operand = ways.more left op operand

  -- an item is read
  abbrev pub item_read : X Item → Place X F → State Y X F C
  item_read item place = ItemRead (sequence_of place.before.sequence item) place.before.branches place.around

  -- an item begins
  unfoldable pub begin_step : Place X F → Token → Option (State Y X F C)
  begin_step place (Number at number) = Some (LabelRead at number place)
  begin_step place (Quoted content) = Some (AtomRead (ways.string NoLabel content) place)
  begin_step place (Mark t.OpenSquare) = Some (TokenOpened NoLabel place)
  begin_step place (Mark t.TagBegin) = Some (TagOpened place)
  begin_step place (Mark t.ClosingTag) = Some (ClosingOpened place)
  begin_step place (Mark t.OpenRound) = Some (Wanted (choice_place (record { groups = place.before ∷ place.around.groups; heads = place.around.heads })))
  begin_step place _ = None

  -- behind a label's colon
  unfoldable pub labelled_step : ℕ → ℕ → Place X F → Token → Option (State Y X F C)
  labelled_step at number place (Quoted content) = Some (AtomRead (ways.string (Labelled at number) content) place)
  labelled_step at number place (Mark t.OpenSquare) = Some (TokenOpened (Labelled at number) place)
  labelled_step at number place _ = None

  -- inside `[`, where the test goes on
  unfoldable pub in_token : Label → Place X F → Option (TestState (Y OfToken)) → Option (State Y X F C)
  in_token label place None = None
  in_token label place (Some test) = Some (InToken label test place)

  -- behind `]`, where the test may end
  unfoldable pub token_read : Label → Place X F → Option (Y OfToken Whole) → Option (State Y X F C)
  token_read label place None = None
  token_read label place (Some test) = Some (AtomRead (ways.token_test label (Some test)) place)

  -- inside a test between brackets
  unfoldable pub token_step : Label → TestState (Y OfToken) → Place X F → Token → Option (State Y X F C)
  token_step label test place (Mark t.CloseSquare) = token_read label place (whole_test ways.token_tests test)
  token_step label test place token = in_token label place (test_step ways.token_tests test token)

  -- behind `[`
  unfoldable pub opened_step : Label → Place X F → Token → Option (State Y X F C)
  opened_step label place (Mark t.CloseSquare) = Some (AtomRead (ways.token_test label None) place)
  opened_step label place token = in_token label place (test_step ways.token_tests test_start token)

  -- inside a tag, where its test goes on
  unfoldable pub in_tag : ℕ → List ℕ → Place X F → Option (TestState (Y OfTag)) → Option (State Y X F C)
  in_tag at name place None = None
  in_tag at name place (Some test) = Some (InTag at name test place)

  -- behind the `>` of a tag, where its test may end
  unfoldable pub begin_read : ℕ → List ℕ → Place X F → Option (Y OfTag Whole) → Option (State Y X F C)
  begin_read at name place None = None
  begin_read at name place (Some test) = Some (AtomRead (ways.begin_tag at name (Some test)) place)

  -- behind the `/>` of a tag, where its test may end
  unfoldable pub whole_read : ℕ → List ℕ → Place X F → Option (Y OfTag Whole) → Option (State Y X F C)
  whole_read at name place None = None
  whole_read at name place (Some test) = Some (AtomRead (ways.whole_tag at name (Some test)) place)

  -- inside the test of a tag
  unfoldable pub tag_step : ℕ → List ℕ → TestState (Y OfTag) → Place X F → Token → Option (State Y X F C)
  tag_step at name test place (Mark t.TagEnd) = begin_read at name place (whole_test (ways.tag_tests name) test)
  tag_step at name test place (Mark t.WholeEnd) = whole_read at name place (whole_test (ways.tag_tests name) test)
  tag_step at name test place token = in_tag at name place (test_step (ways.tag_tests name) test token)

  -- behind the name of a tag
  unfoldable pub named_step : ℕ → List ℕ → Place X F → Token → Option (State Y X F C)
  named_step at name place (Mark t.TagEnd) = Some (AtomRead (ways.begin_tag at name None) place)
  named_step at name place (Mark t.WholeEnd) = Some (AtomRead (ways.whole_tag at name None) place)
  named_step at name place token = in_tag at name place (test_step (ways.tag_tests name) test_start token)

  -- behind `<`
  unfoldable pub tag_opened_step : Place X F → Token → Option (State Y X F C)
  tag_opened_step place (Word at name) = Some (TagNamed at name place)
  tag_opened_step place _ = None

  -- behind `</`
  unfoldable pub closing_opened_step : Place X F → Token → Option (State Y X F C)
  closing_opened_step place (Word at name) = Some (ClosingNamed at name place)
  closing_opened_step place _ = None

  -- behind the name of a closing tag
  unfoldable pub closing_named_step : ℕ → List ℕ → Place X F → Token → Option (State Y X F C)
  closing_named_step at name place (Mark t.TagEnd) = Some (AtomRead (ways.end_tag at name) place)
  closing_named_step at name place _ = None

  -- behind the number of a label
  unfoldable pub label_step : ℕ → ℕ → Place X F → Token → Option (State Y X F C)
  label_step at number place (Mark t.Colon) = Some (LabelDone at number place)
  label_step at number place _ = None

  -- inside the braces of a repetition
  unfoldable pub repeat_step : X Atom → ℕ → Counting → Place X F → Token → Option (State Y X F C)
  repeat_step atom at Opened place (Number n_at n) = Some (InRepeat atom at (Least n_at n) place)
  repeat_step atom at (Least n_at n) place (Mark t.CloseCurly) = Some (item_read (ways.repeated atom (Exactly at n_at n)) place)
  repeat_step atom at (Least n_at n) place (Mark t.Comma) = Some (InRepeat atom at (LeastComma n_at n) place)
  repeat_step atom at (LeastComma n_at n) place (Mark t.CloseCurly) = Some (item_read (ways.repeated atom (From at n_at n)) place)
  repeat_step atom at (LeastComma n_at n) place (Number m_at m) = Some (InRepeat atom at (Most n_at n m_at m) place)
  repeat_step atom at (Most n_at n m_at m) place (Mark t.CloseCurly) = Some (item_read (ways.repeated atom (Between at n_at n m_at m)) place)
  repeat_step atom at counting place _ = None

  -- the filters of an operand end before a `)`
  unfoldable pub close_filters : X Choice → F Filters → List (Head X F) → Option (State Y X F C)
  close_filters choice filters [] = None
  close_filters choice filters (head ∷ heads) = Some (FiltersRead head.choice (filters_of head.filters head.op (ways.with_filters choice filters)) heads)

  -- the filters with one more, whose operand has none
  abbrev pub with_operand : Head X F → X Choice → F Filters
  with_operand head choice = filters_of head.filters head.op (ways.plain choice)

  -- a choice ends before a `)`
  unfoldable pub close_choice : X Choice → List (Group X) → List (Head X F) → Option (State Y X F C)
  close_choice choice (group ∷ groups) heads = Some (AtomRead (ways.group choice) (record { before = group; around = record { groups = groups; heads = heads } }))
  close_choice choice [] [] = None
  close_choice choice [] (head ∷ heads) = close_filters head.choice (with_operand head choice) heads

  -- a choice ends before an op: what the op filters, and the heads outside
  unfoldable pub before_op : X Choice → List (Group X) → List (Head X F) → Option (Asked X F × List (Head X F))
  before_op choice [] [] = Some (record { choice = choice; filters = None }, [])
  before_op choice [] (head ∷ heads) = Some (record { choice = head.choice; filters = Some (with_operand head choice) }, heads)
  before_op choice (group ∷ []) (head ∷ heads) = opened_operand choice group.sequence group.branches (head ∷ heads)
  before_op choice _ _ = None

  -- a choice ends before a condition or the end of the text
  unfoldable pub asked_of : X Choice → List (Group X) → List (Head X F) → Option (Asked X F)
  asked_of choice [] [] = Some (record { choice = choice; filters = None })
  asked_of choice [] (head ∷ []) = Some (record { choice = head.choice; filters = Some (with_operand head choice) })
  asked_of choice _ _ = None

  -- filters end before a condition or the end of the text
  unfoldable pub asked_filters : X Choice → F Filters → List (Head X F) → Option (Asked X F)
  asked_filters choice filters [] = Some (record { choice = choice; filters = Some filters })
  asked_filters choice filters (head ∷ heads) = None

  -- a `!` that begins an op
  unfoldable pub bang : Option (Asked X F × List (Head X F)) → Option (State Y X F C)
  bang None = None
  bang (Some (asked, heads)) = Some (BangRead asked heads)

  -- an op, and the operand is wanted
  unfoldable pub filtered : Option Op → Option (Asked X F × List (Head X F)) → Option (State Y X F C)
  filtered (Some op) (Some (asked, heads)) = Some (Wanted (choice_place (record { groups = []; heads = record { choice = asked.choice; filters = asked.filters; op = op } ∷ heads })))
  filtered _ _ = None

  -- a `&` behind the head and its filters begins a condition
  unfoldable pub cond_begins : Option (Asked X F) → C → Option (State Y X F C)
  cond_begins None conds = None
  cond_begins (Some asked) conds = Some (InCond asked conds (Left Started))

  -- a choice could end here, or go on
  unfoldable pub read_step : X Sequence → Option (X Choice) → Around X F → Token → Option (State Y X F C)
  read_step sequence branches around (Mark t.Bar) = Some (Wanted (record { before = record { sequence = None; branches = Some (choice_of branches sequence) }; around = around }))
  read_step sequence branches around (Mark t.CloseRound) = close_choice (choice_of branches sequence) around.groups around.heads
  read_step sequence branches around (Mark t.Bang) = bang (before_op (choice_of branches sequence) around.groups around.heads)
  read_step sequence branches around (Mark t.And) = cond_begins (asked_of (choice_of branches sequence) around.groups around.heads) ways.no_conds
  read_step sequence branches around (Word at name) = filtered (op_of at name) (before_op (choice_of branches sequence) around.groups around.heads)
  read_step sequence branches around token = begin_step (record { before = record { sequence = Some sequence; branches = branches }; around = around }) token

  -- an atom is read, which may be repeated
  unfoldable pub atom_step : X Atom → Place X F → Token → Option (State Y X F C)
  atom_step atom place (Mark t.Star) = Some (item_read (ways.repeated atom Star) place)
  atom_step atom place (Mark t.Plus) = Some (item_read (ways.repeated atom Plus) place)
  atom_step atom place (Mark t.Question) = Some (item_read (ways.repeated atom Question) place)
  atom_step atom place (OpenCurly at) = Some (InRepeat atom at Opened place)
  atom_step atom place token = read_step (sequence_of place.before.sequence (ways.once atom)) place.before.branches place.around token

  -- behind filters in parentheses
  unfoldable pub filters_step : X Choice → F Filters → List (Head X F) → Token → Option (State Y X F C)
  filters_step choice filters heads (Mark t.CloseRound) = close_filters choice filters heads
  filters_step choice filters heads (Mark t.Bang) = Some (BangRead (record { choice = choice; filters = Some filters }) heads)
  filters_step choice filters heads (Mark t.And) = cond_begins (asked_filters choice filters heads) ways.no_conds
  filters_step choice filters heads (Word at name) = filtered (op_of at name) (Some (record { choice = choice; filters = Some filters }, heads))
  filters_step choice filters heads _ = None

  -- behind the `!` of an op
  unfoldable pub bang_step : Asked X F → List (Head X F) → Token → Option (State Y X F C)
  bang_step asked heads (Word at name) = filtered (not_op_of at name) (Some (asked, heads))
  bang_step asked heads _ = None

  -- what of a condition is read then, where it goes on
  unfoldable pub in_cond : Asked X F → C → Option Condition → Option (State Y X F C)
  in_cond asked conds None = None
  in_cond asked conds (Some cond) = Some (InCond asked conds cond)

  -- inside a condition
  unfoldable pub cond_step : Asked X F → C → Condition → Token → Option (State Y X F C)
  cond_step asked conds (Left side) token = in_cond asked conds (left_step side token)
  cond_step asked conds (LeftRead left) token = in_cond asked conds (sign_step left token)
  cond_step asked conds (Right left equal (Dotted at number)) (Word name_at name) =
      Some (CondRead asked (ways.cond asked.choice conds (cond_tree left equal (record { at = at; number = number; name_at = name_at; name = name }))))
  cond_step asked conds (Right left equal right) token = in_cond asked conds (right_step left equal right token)

  -- behind a condition
  unfoldable pub conds_step : Asked X F → C → Token → Option (State Y X F C)
  conds_step asked conds (Mark t.And) = Some (InCond asked conds (Left Started))
  conds_step asked conds _ = None

  -- the next token of a query; None where no query goes on so
  unfoldable pub step : State Y X F C → Token → Option (State Y X F C)
  step (Wanted place) token = begin_step place token
  step (LabelRead at number place) token = label_step at number place token
  step (LabelDone at number place) token = labelled_step at number place token
  step (TokenOpened label place) token = opened_step label place token
  step (InToken label test place) token = token_step label test place token
  step (TagOpened place) token = tag_opened_step place token
  step (TagNamed at name place) token = named_step at name place token
  step (InTag at name test place) token = tag_step at name test place token
  step (ClosingOpened place) token = closing_opened_step place token
  step (ClosingNamed at name place) token = closing_named_step at name place token
  step (AtomRead atom place) token = atom_step atom place token
  step (InRepeat atom at counting place) token = repeat_step atom at counting place token
  step (ItemRead sequence branches around) token = read_step sequence branches around token
  step (FiltersRead choice filters heads) token = filters_step choice filters heads token
  step (BangRead asked heads) token = bang_step asked heads token
  step (InCond asked conds cond) token = cond_step asked conds cond token
  step (CondRead asked conds) token = conds_step asked conds token

  -- all these tokens, one after another
  unfoldable pub run : State Y X F C → List Token → Option (State Y X F C)
  run state [] = Some state
  run state (token ∷ tokens) = and_then (step state token) (λ next. run next tokens)

  -- the query of a head, its filters and its conditions
  abbrev pub query_of : Asked X F → C → Q
  query_of asked conds = elim asked.filters [ Some filters ↦ ways.asks_filtered asked.choice filters conds | None ↦ ways.asks asked.choice conds ]

  -- the query, where the text may end here
  unfoldable pub ends : Option (Asked X F) → C → Option Q
  ends None conds = None
  ends (Some asked) conds = Some (query_of asked conds)

  -- the query that was read, where the text may end here
  unfoldable pub finish : State Y X F C → Option Q
  finish (AtomRead atom place) = ends (asked_of (choice_of place.before.branches (sequence_of place.before.sequence (ways.once atom))) place.around.groups place.around.heads) ways.no_conds
  finish (ItemRead sequence branches around) = ends (asked_of (choice_of branches sequence) around.groups around.heads) ways.no_conds
  finish (FiltersRead choice filters heads) = ends (asked_filters choice filters heads) ways.no_conds
  finish (CondRead asked conds) = Some (query_of asked conds)
  finish _ = None
