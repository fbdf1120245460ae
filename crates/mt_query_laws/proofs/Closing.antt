-- From each state that the reading of a query comes to, some query can be reached: by the shortest form of what is missing, and by closing what is open.
use Rattle.std.proofs.Common.{ℕ, ◌≡◌, List, [], ◌∷◌, ◌++◌, None, Some, Option, refl}
use Rattle.std.specs.Prelude.{codes}
use Rattle.mt_query_spec.specs.Tokens.{Token, Quoted, Number, Word, OpenCurly, Mark, Sign}
use Rattle.mt_query_spec.specs.Tokens as t
use Rattle.mt_query_spec.specs.Trees as tree
use Rattle.mt_query_spec.specs.Trees.{OfToken, OfTag, TestTree, Whole, Label, Labelled, Atom, Sequence, Choice, ExprTree, Within, Filters, FilterTree, CondTree, QueryTree}
use Rattle.mt_query_laws.specs.Machine.{TestState, whole_test}
use Rattle.mt_query_laws.specs.Exprs.{Counting, Opened, Least, LeastComma, Most, Started, Numbered, Dotted, Condition, Left, LeftRead, Right, Wanted, LabelRead, LabelDone, TokenOpened, InToken, TagOpened, TagNamed, InTag, ClosingOpened, ClosingNamed, AtomRead, InRepeat, ItemRead, FiltersRead, BangRead, InCond, CondRead}
use Rattle.mt_query_laws.specs.Exprs.{sequence_of, choice_of, filters_of, item_read, begin_step, labelled_step, token_step, token_read, begin_read, opened_step, tag_step, named_step, tag_opened_step, closing_opened_step, closing_named_step, label_step, repeat_step, close_filters, with_operand, close_choice, asked_of, asked_filters, filtered, read_step, filters_step, bang_step, left_step, sign_step, right_step, in_cond, cond_step, step, run, query_of, ends, finish}
use Rattle.mt_query_laws.proofs.Building.{tree_ways}
use Rattle.mt_query_laws.proofs.TestLaws as tests
use Rattle.mt_query_laws.proofs.Spelling.{TreeState, TreePlace, TreeHead, TreeGroup, TreeAsked}
use Rattle.mt_query_laws.proofs.Reading.{TreeAround, HasRead, then_run, one_run, atom_has_read, item_has_read, in_token_run, in_tag_run}

-- these tokens end in a query
pub record Ends (state : TreeState) (tokens : List Token) : Type 0 where
  pub end : TreeState
  pub query : QueryTree
  pub runs : run tree_ways state tokens ≡ Some end
  pub is : finish tree_ways end ≡ Some query

abbrev rest_closes : List TreeHead → List Token
rest_closes [] = []
rest_closes (head ∷ heads) = Mark t.CloseRound ∷ rest_closes heads

abbrev heads_close : List TreeHead → List Token
heads_close [] = []
heads_close (head ∷ heads) = rest_closes heads

abbrev closes : List TreeGroup → List TreeHead → List Token
closes [] heads = heads_close heads
closes (group ∷ groups) heads = Mark t.CloseRound ∷ closes groups heads

one_more : (state middle : TreeState) (x : Token) (xs : List Token) → step tree_ways state x ≡ Some middle → Ends middle xs → Ends state (x ∷ xs)
one_more state middle x xs h e = record { end = e.end; query = e.query; runs = one_run state middle x xs _ h e.runs; is = e.is }

filters_closes : (choice : ExprTree Choice) (filters : FilterTree Filters) (head : TreeHead) (heads : List TreeHead)
    → step tree_ways (FiltersRead choice filters (head ∷ heads)) (Mark t.CloseRound) ≡ Some (FiltersRead head.choice (filters_of tree_ways head.filters head.op (tree.WithFilters choice filters)) heads)
unfolding step filters_step close_filters
filters_closes choice filters head heads = refl

filters_end : (heads : List TreeHead) (choice : ExprTree Choice) (filters : FilterTree Filters) → Ends (FiltersRead choice filters heads) (rest_closes heads)
unfolding run finish ends asked_filters
filters_end [] choice filters = record { end = FiltersRead choice filters []; query = tree.AsksFiltered choice filters []; runs = refl; is = refl }
filters_end (head ∷ heads) choice filters =
    let next = filters_of tree_ways head.filters head.op (tree.WithFilters choice filters) in
    one_more _ (FiltersRead head.choice next heads) (Mark t.CloseRound) (rest_closes heads) (filters_closes choice filters head heads) (filters_end heads head.choice next)

read_end : (groups : List TreeGroup) (heads : List TreeHead) (state : TreeState) (sequence : ExprTree Sequence) (branches : Option (ExprTree Choice))
    → HasRead state sequence branches (record { groups = groups; heads = heads }) → Ends state (closes groups heads)
unfolding run finish ends asked_of read_step close_choice close_filters
read_end [] [] state sequence branches r = record { end = state; query = tree.Asks (choice_of tree_ways branches sequence) []; runs = refl; is = r.ends }
read_end [] (head ∷ []) state sequence branches r =
    record { end = state; query = tree.AsksFiltered head.choice (with_operand tree_ways head (choice_of tree_ways branches sequence)) []; runs = refl; is = r.ends }
read_end [] (head ∷ other ∷ heads) state sequence branches r =
    let next = filters_of tree_ways other.filters other.op (tree.WithFilters head.choice (with_operand tree_ways head (choice_of tree_ways branches sequence))) in
    one_more state (FiltersRead other.choice next heads) (Mark t.CloseRound) (rest_closes heads) (r.goes (Mark t.CloseRound) refl) (filters_end heads other.choice next)
read_end (group ∷ groups) heads state sequence branches r =
    let atom = tree.Group (choice_of tree_ways branches sequence) in
    let place : TreePlace = record { before = group; around = record { groups = groups; heads = heads } } in
    one_more state (AtomRead atom place) (Mark t.CloseRound) (closes groups heads) (r.goes (Mark t.CloseRound) refl)
    (read_end groups heads (AtomRead atom place) (sequence_of tree_ways group.sequence (tree.Once atom)) group.branches (atom_has_read atom place))

around_closes : TreePlace → List Token
around_closes place = closes place.around.groups place.around.heads

atom_end : (atom : ExprTree Atom) (place : TreePlace) → Ends (AtomRead atom place) (around_closes place)
unfolding around_closes
atom_end atom place = read_end place.around.groups place.around.heads (AtomRead atom place) _ _ (atom_has_read atom place)

item_end : (sequence : ExprTree Sequence) (branches : Option (ExprTree Choice)) (around : TreeAround) → Ends (ItemRead sequence branches around) (closes around.groups around.heads)
item_end sequence branches around = read_end around.groups around.heads (ItemRead sequence branches around) sequence branches (item_has_read sequence branches around)

repeated_end : (atom : ExprTree Atom) (repetition : Rattle.mt_query_spec.specs.Trees.Repetition) (place : TreePlace) → Ends (item_read tree_ways (tree.Repeated atom repetition) place) (around_closes place)
unfolding around_closes
repeated_end atom repetition place = item_end _ _ place.around

-- some tokens that end in a query
pub record Closes (state : TreeState) : Type 0 where
  pub tokens : List Token
  pub ends : Ends state tokens

then_close : (state middle : TreeState) (x : Token) → step tree_ways state x ≡ Some middle → Closes middle → Closes state
then_close state middle x h c = record { tokens = x ∷ c.tokens; ends = one_more state middle x c.tokens h c.ends }

some_close : (state : TreeState) (tokens : List Token) → Ends state tokens → Closes state
some_close state tokens e = record { tokens = tokens; ends = e }

atom_close : (atom : ExprTree Atom) (place : TreePlace) → Closes (AtomRead atom place)
atom_close atom place = some_close _ (around_closes place) (atom_end atom place)

wanted_close : (place : TreePlace) → Closes (Wanted place)
unfolding step begin_step
wanted_close place = then_close _ (AtomRead (tree.String tree.NoLabel []) place) (Quoted []) refl (atom_close _ place)

labelled_close : (at number : ℕ) (place : TreePlace) → Closes (LabelDone at number place)
unfolding step labelled_step
labelled_close at number place = then_close _ (AtomRead (tree.String (Labelled at number) []) place) (Quoted []) refl (atom_close _ place)

label_close : (at number : ℕ) (place : TreePlace) → Closes (LabelRead at number place)
unfolding step label_step
label_close at number place = then_close _ (LabelDone at number place) (Mark t.Colon) refl (labelled_close at number place)

opened_close : (label : Label) (place : TreePlace) → Closes (TokenOpened label place)
unfolding step opened_step
opened_close label place = then_close _ (AtomRead (tree.TokenTest label None) place) (Mark t.CloseSquare) refl (atom_close _ place)

test_close : (label : Label) (test : TestState (TestTree OfToken)) (place : TreePlace) (whole : TestTree OfToken Whole) → whole_test tree_ways.token_tests test ≡ Some whole → Closes (InToken label test place)
unfolding step token_step token_read
test_close label test place whole h = then_close _ (AtomRead (tree.TokenTest label (Some whole)) place) (Mark t.CloseSquare) (rw h refl) (atom_close _ place)

tag_test_close : (at : ℕ) (name : List ℕ) (test : TestState (TestTree OfTag)) (place : TreePlace) (whole : TestTree OfTag Whole) → whole_test (tree_ways.tag_tests name) test ≡ Some whole
    → Closes (InTag at name test place)
unfolding step tag_step begin_read
tag_test_close at name test place whole h = then_close _ (AtomRead (tree.BeginTag at name (Some whole)) place) (Mark t.TagEnd) (rw h refl) (atom_close _ place)

named_close : (at : ℕ) (name : List ℕ) (place : TreePlace) → Closes (TagNamed at name place)
unfolding step named_step
named_close at name place = then_close _ (AtomRead (tree.BeginTag at name None) place) (Mark t.TagEnd) refl (atom_close _ place)

closing_close : (at : ℕ) (name : List ℕ) (place : TreePlace) → Closes (ClosingNamed at name place)
unfolding step closing_named_step
closing_close at name place = then_close _ (AtomRead (tree.EndTag at name) place) (Mark t.TagEnd) refl (atom_close _ place)

run_close : (state middle : TreeState) (tokens : List Token) → run tree_ways state tokens ≡ Some middle → Closes middle → Closes state
run_close state middle tokens h c = record {
  tokens = tokens ++ c.tokens;
  ends = record { end = c.ends.end; query = c.ends.query; runs = then_run state middle tokens c.tokens _ h c.ends.runs; is = c.ends.is };
}

repeat_close : (atom : ExprTree Atom) (at : ℕ) (counting : Counting) (place : TreePlace) → Closes (InRepeat atom at counting place)
unfolding step repeat_step
repeat_close atom at Opened place = then_close _ (InRepeat atom at (Least 0 0) place) (Number 0 0) refl
    (then_close _ _ (Mark t.CloseCurly) refl (some_close _ (around_closes place) (repeated_end atom (tree.Exactly at 0 0) place)))
repeat_close atom at (Least n_at n) place = then_close _ _ (Mark t.CloseCurly) refl (some_close _ (around_closes place) (repeated_end atom (tree.Exactly at n_at n) place))
repeat_close atom at (LeastComma n_at n) place = then_close _ _ (Mark t.CloseCurly) refl (some_close _ (around_closes place) (repeated_end atom (tree.From at n_at n) place))
repeat_close atom at (Most n_at n m_at m) place = then_close _ _ (Mark t.CloseCurly) refl (some_close _ (around_closes place) (repeated_end atom (tree.Between at n_at n m_at m) place))

conds_close : (asked : TreeAsked) (conds : List CondTree) → Closes (CondRead asked conds)
unfolding run finish
conds_close asked conds = some_close _ [] (record { end = CondRead asked conds; query = query_of tree_ways asked conds; runs = refl; is = refl })

cond_close : (asked : TreeAsked) (conds : List CondTree) (cond : Condition) → Closes (InCond asked conds cond)
unfolding step cond_step in_cond left_step sign_step right_step run finish
cond_close asked conds (Right left equal (Dotted at number)) = then_close _ _ (Word 0 []) refl (conds_close asked _)
cond_close asked conds (Right left equal (Numbered at number)) = run_close _ _ (Mark t.Dot ∷ Word 0 [] ∷ []) refl (conds_close asked _)
cond_close asked conds (Right left equal Started) = run_close _ _ (Number 0 0 ∷ Mark t.Dot ∷ Word 0 [] ∷ []) refl (conds_close asked _)
cond_close asked conds (LeftRead left) = run_close _ _ (Mark t.Is ∷ Number 0 0 ∷ Mark t.Dot ∷ Word 0 [] ∷ []) refl (conds_close asked _)
cond_close asked conds (Left (Dotted at number)) = run_close _ _ (Word 0 [] ∷ Mark t.Is ∷ Number 0 0 ∷ Mark t.Dot ∷ Word 0 [] ∷ []) refl (conds_close asked _)
cond_close asked conds (Left (Numbered at number)) = run_close _ _ (Mark t.Dot ∷ Word 0 [] ∷ Mark t.Is ∷ Number 0 0 ∷ Mark t.Dot ∷ Word 0 [] ∷ []) refl (conds_close asked _)
cond_close asked conds (Left Started) = run_close _ _ (Number 0 0 ∷ Mark t.Dot ∷ Word 0 [] ∷ Mark t.Is ∷ Number 0 0 ∷ Mark t.Dot ∷ Word 0 [] ∷ []) refl (conds_close asked _)

bang_close : (asked : TreeAsked) (heads : List TreeHead) → Closes (BangRead asked heads)
unfolding step bang_step filtered
bang_close asked heads = then_close _ _ (Word 0 (codes "within")) refl (wanted_close _)

tag_opened_close : (place : TreePlace) → Closes (TagOpened place)
unfolding step tag_opened_step
tag_opened_close place = then_close _ (TagNamed 0 [] place) (Word 0 []) refl (named_close 0 [] place)

closing_opened_close : (place : TreePlace) → Closes (ClosingOpened place)
unfolding step closing_opened_step
closing_opened_close place = then_close _ (ClosingNamed 0 [] place) (Word 0 []) refl (closing_close 0 [] place)

-- each state closes
pub state_closes : (state : TreeState) → Closes state
state_closes (Wanted place) = wanted_close place
state_closes (LabelRead at number place) = label_close at number place
state_closes (LabelDone at number place) = labelled_close at number place
state_closes (TokenOpened label place) = opened_close label place
state_closes (InToken label test place) =
    let e = tests.closing_ends test in run_close _ (InToken label e.end place) (tests.closing test) (in_token_run label place test e.end (tests.closing test) e.runs) (test_close label e.end place e.test e.whole)
state_closes (TagOpened place) = tag_opened_close place
state_closes (TagNamed at name place) = named_close at name place
state_closes (InTag at name test place) =
    let e = tests.closing_ends test in run_close _ (InTag at name e.end place) (tests.closing test) (in_tag_run at name place test e.end (tests.closing test) e.runs) (tag_test_close at name e.end place e.test e.whole)
state_closes (ClosingOpened place) = closing_opened_close place
state_closes (ClosingNamed at name place) = closing_close at name place
state_closes (AtomRead atom place) = atom_close atom place
state_closes (InRepeat atom at counting place) = repeat_close atom at counting place
state_closes (ItemRead sequence branches around) = some_close _ (closes around.groups around.heads) (item_end sequence branches around)
state_closes (FiltersRead choice filters heads) = some_close _ (rest_closes heads) (filters_end heads choice filters)
state_closes (BangRead asked heads) = bang_close asked heads
state_closes (InCond asked conds cond) = cond_close asked conds cond
state_closes (CondRead asked conds) = conds_close asked conds
