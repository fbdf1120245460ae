-- A query is read where its tokens stand.
use Rattle.std.proofs.Common.{ℕ, ◌≡◌, Bool, true, false, List, [], ◌∷◌, ◌++◌, None, Some, Option, refl, ◌∙◌, ap, append_assoc, append-nil}
use Rattle.std.specs.Prelude.{codes}
use Rattle.mt_query_spec.specs.Tokens.{Token, Quoted, Number, Word, OpenCurly, Mark, Sign}
use Rattle.mt_query_spec.specs.Tokens as t
use Rattle.mt_query_spec.specs.Trees as tree
use Rattle.mt_query_spec.specs.Trees.{Tested, OfToken, OfTag, TestTree, TestRank, Unary, Conjunction, Whole, Label, NoLabel, Labelled, Repetition, Rank, Atom, Item, Sequence, Choice, ExprTree, Op, Within, NotWithin, Containing, NotContaining, Filtered, Operand, Filters, FilterTree, CondTree, QueryTree, test_tokens, maybe_tokens, label_tokens, repetition_tokens, expr_tokens, op_tokens, filter_tokens, equality_sign, cond_tokens, conds_tokens, query_tokens}
use Rattle.mt_query_laws.specs.Machine.{and_then, TestState, test_start, test_step, test_run, whole_test, want_step, named_step as test_named_step, compares_step, have_step}
use Rattle.mt_query_laws.specs.Exprs.{Around, Started, Left, Wanted, LabelRead, LabelDone, TokenOpened, InToken, TagOpened, TagNamed, InTag, ClosingOpened, ClosingNamed, AtomRead, ItemRead, FiltersRead, BangRead, InCond, CondRead, op_of, opened_operand}
use Rattle.mt_query_laws.specs.Exprs.{start, sequence_of, choice_of, filters_of, item_read, begin_step, labelled_step, in_token, token_read, token_step, opened_step, in_tag, begin_read, whole_read, tag_step, named_step, tag_opened_step, closing_opened_step, closing_named_step, label_step, repeat_step, close_filters, with_operand, close_choice, before_op, asked_of, asked_filters, bang, filtered, cond_begins, read_step, atom_step, filters_step, bang_step, left_step, sign_step, right_step, in_cond, cond_step, conds_step, step, run, query_of, ends, finish}
use Rattle.mt_query_laws.proofs.Building.{tree_ways}
use Rattle.mt_query_laws.proofs.TestLaws.{test_reads}
use Rattle.mt_query_laws.proofs.Spelling.{TreeState, TreePlace, TreeHead, TreeAsked}

abbrev pub TreeAround : Type 0
TreeAround = Around ExprTree FilterTree

-- ## Runs

pub run_append : (state : TreeState) (xs ys : List Token) → run tree_ways state (xs ++ ys) ≡ and_then (run tree_ways state xs) (λ next. run tree_ways next ys)
unfolding run
run_append state [] ys = refl
run_append state (x ∷ xs) ys = go (λ next. run_append next xs ys) (step tree_ways state x)
  where
    go : ((next : TreeState) → run tree_ways next (xs ++ ys) ≡ and_then (run tree_ways next xs) (λ next. run tree_ways next ys)) → (found : Option TreeState)
        → and_then found (λ next. run tree_ways next (xs ++ ys)) ≡ and_then (and_then found (λ next. run tree_ways next xs)) (λ next. run tree_ways next ys)
    go again None = refl
    go again (Some next) = again next

-- one part of the tokens, and then the others
pub then_run : (state middle : TreeState) (xs ys : List Token) (end : Option TreeState)
    → run tree_ways state xs ≡ Some middle → run tree_ways middle ys ≡ end → run tree_ways state (xs ++ ys) ≡ end
then_run state middle xs ys end h k = run_append state xs ys ∙ rw h k

-- one token, and then the others
pub one_run : (state middle : TreeState) (x : Token) (ys : List Token) (end : Option TreeState)
    → step tree_ways state x ≡ Some middle → run tree_ways middle ys ≡ end → run tree_ways state (x ∷ ys) ≡ end
unfolding run
one_run state middle x ys end h k = rw h k

pub last_run : (state : TreeState) (x : Token) (end : Option TreeState) → step tree_ways state x ≡ end → run tree_ways state (x ∷ []) ≡ end
unfolding run
last_run state x end h = rw h (go end)
  where
    go : (end : Option TreeState) → and_then end (λ next. Some next) ≡ end
    go None = refl
    go (Some s) = refl

-- ## Tests

no_close : (test : TestState (TestTree OfToken)) → test_step tree_ways.token_tests test (Mark t.CloseSquare) ≡ None
unfolding test_step want_step test_named_step compares_step have_step
no_close (Rattle.mt_query_laws.specs.Machine.WantTest level outer) = refl
no_close _ = refl

no_end : (name : List ℕ) (test : TestState (TestTree OfTag)) → test_step (tree_ways.tag_tests name) test (Mark t.TagEnd) ≡ None
unfolding test_step want_step test_named_step compares_step have_step
no_end name (Rattle.mt_query_laws.specs.Machine.WantTest level outer) = refl
no_end name _ = refl

no_whole_end : (name : List ℕ) (test : TestState (TestTree OfTag)) → test_step (tree_ways.tag_tests name) test (Mark t.WholeEnd) ≡ None
unfolding test_step want_step test_named_step compares_step have_step
no_whole_end name (Rattle.mt_query_laws.specs.Machine.WantTest level outer) = refl
no_whole_end name _ = refl

token_on : (label : Label) (place : TreePlace) (test next : TestState (TestTree OfToken)) (token : Token) → test_step tree_ways.token_tests test token ≡ Some next
    → token_step tree_ways label test place token ≡ Some (InToken label next place)
unfolding token_step in_token
token_on label place test next (Mark t.CloseSquare) h = let e = no_close test in cc
token_on label place test next _ h = rw h refl

first_on : (label : Label) (place : TreePlace) (next : TestState (TestTree OfToken)) (token : Token) → test_step tree_ways.token_tests test_start token ≡ Some next
    → opened_step tree_ways label place token ≡ Some (InToken label next place)
unfolding opened_step in_token
first_on label place next (Mark t.CloseSquare) h = let e = no_close test_start in cc
first_on label place next _ h = rw h refl

tag_on : (at : ℕ) (name : List ℕ) (place : TreePlace) (test next : TestState (TestTree OfTag)) (token : Token) → test_step (tree_ways.tag_tests name) test token ≡ Some next
    → tag_step tree_ways at name test place token ≡ Some (InTag at name next place)
unfolding tag_step in_tag
tag_on at name place test next (Mark t.TagEnd) h = let e = no_end name test in cc
tag_on at name place test next (Mark t.WholeEnd) h = let e = no_whole_end name test in cc
tag_on at name place test next _ h = rw h refl

tag_first_on : (at : ℕ) (name : List ℕ) (place : TreePlace) (next : TestState (TestTree OfTag)) (token : Token) → test_step (tree_ways.tag_tests name) test_start token ≡ Some next
    → named_step tree_ways at name place token ≡ Some (InTag at name next place)
unfolding named_step in_tag
tag_first_on at name place next (Mark t.TagEnd) h = let e = no_end name test_start in cc
tag_first_on at name place next (Mark t.WholeEnd) h = let e = no_whole_end name test_start in cc
tag_first_on at name place next _ h = rw h refl

-- a part of a run
pub test_split : {of : Tested} (w : Rattle.mt_query_laws.specs.Machine.TestWays (TestTree of)) (state next : TestState (TestTree of)) (x : Token) (xs : List Token) → test_run w state (x ∷ xs) ≡ Some next
    → (middle : TestState (TestTree of)) × (test_step w state x ≡ Some middle) × (test_run w middle xs ≡ Some next)
unfolding test_run
test_split {of = of} w state next x xs h = go (test_step w state x) refl h
  where
    go : (found : Option (TestState (TestTree of))) → test_step w state x ≡ found → and_then found (λ middle. test_run w middle xs) ≡ Some next
        → (middle : TestState (TestTree of)) × (test_step w state x ≡ Some middle) × (test_run w middle xs ≡ Some next)
    go None e h = cc
    go (Some middle) e h = (middle, e, h)

pub test_none_left : {of : Tested} (w : Rattle.mt_query_laws.specs.Machine.TestWays (TestTree of)) (state next : TestState (TestTree of)) → test_run w state [] ≡ Some next → state ≡ next
unfolding test_run
test_none_left w state next h = cc

pub in_token_run : (label : Label) (place : TreePlace) (test next : TestState (TestTree OfToken)) (tokens : List Token) → test_run tree_ways.token_tests test tokens ≡ Some next
    → run tree_ways (InToken label test place) tokens ≡ Some (InToken label next place)
unfolding run step
in_token_run label place test next [] h = ap (λ s. Some (InToken label s place)) (test_none_left tree_ways.token_tests test next h)
in_token_run label place test next (x ∷ xs) h =
    let s = test_split tree_ways.token_tests test next x xs h in
    one_run (InToken label test place) _ x xs _ (token_on label place test s.0 x s.1) (in_token_run label place s.0 next xs s.2)

pub in_tag_run : (at : ℕ) (name : List ℕ) (place : TreePlace) (test next : TestState (TestTree OfTag)) (tokens : List Token) → test_run (tree_ways.tag_tests name) test tokens ≡ Some next
    → run tree_ways (InTag at name test place) tokens ≡ Some (InTag at name next place)
unfolding run step
in_tag_run at name place test next [] h = ap (λ s. Some (InTag at name s place)) (test_none_left (tree_ways.tag_tests name) test next h)
in_tag_run at name place test next (x ∷ xs) h =
    let s = test_split (tree_ways.tag_tests name) test next x xs h in
    one_run (InTag at name test place) _ x xs _ (tag_on at name place test s.0 x s.1) (in_tag_run at name place s.0 next xs s.2)

close_token : (label : Label) (place : TreePlace) (test : TestTree OfToken Whole) (end : TestState (TestTree OfToken)) → whole_test tree_ways.token_tests end ≡ Some test
    → run tree_ways (InToken label end place) (Mark t.CloseSquare ∷ []) ≡ Some (AtomRead (tree.TokenTest label (Some test)) place)
unfolding run step token_step token_read
close_token label place test end h = rw h refl

more_token : (label : Label) (place : TreePlace) (test : TestTree OfToken Whole) (end : TestState (TestTree OfToken)) (tokens : List Token)
    → test_run tree_ways.token_tests test_start tokens ≡ Some end → whole_test tree_ways.token_tests end ≡ Some test
    → run tree_ways (TokenOpened label place) (tokens ++ Mark t.CloseSquare ∷ []) ≡ Some (AtomRead (tree.TokenTest label (Some test)) place)
unfolding whole_test step
more_token label place test end [] h k = let e = test_none_left tree_ways.token_tests test_start end h in let l = ap (whole_test tree_ways.token_tests) e in cc
more_token label place test end (x ∷ xs) h k =
    let s = test_split tree_ways.token_tests test_start end x xs h in
    one_run (TokenOpened label place) _ x (xs ++ Mark t.CloseSquare ∷ []) _ (first_on label place s.0 x s.1)
    (then_run _ _ xs (Mark t.CloseSquare ∷ []) _ (in_token_run label place s.0 end xs s.2) (close_token label place test end k))

-- what a whole test, or none, between `[` and `]` leads to
token_test_run : (label : Label) (place : TreePlace) (test : Option (TestTree OfToken Whole))
    → run tree_ways (TokenOpened label place) (maybe_tokens test ++ Mark t.CloseSquare ∷ []) ≡ Some (AtomRead (tree.TokenTest label test) place)
unfolding run step opened_step
token_test_run label place None = refl
token_test_run label place (Some test) = let r = test_reads test in more_token label place test r.end (test_tokens test) r.runs r.whole

close_begin : (at : ℕ) (name : List ℕ) (place : TreePlace) (test : TestTree OfTag Whole) (end : TestState (TestTree OfTag)) → whole_test (tree_ways.tag_tests name) end ≡ Some test
    → run tree_ways (InTag at name end place) (Mark t.TagEnd ∷ []) ≡ Some (AtomRead (tree.BeginTag at name (Some test)) place)
unfolding run step tag_step begin_read
close_begin at name place test end h = rw h refl

close_whole : (at : ℕ) (name : List ℕ) (place : TreePlace) (test : TestTree OfTag Whole) (end : TestState (TestTree OfTag)) → whole_test (tree_ways.tag_tests name) end ≡ Some test
    → run tree_ways (InTag at name end place) (Mark t.WholeEnd ∷ []) ≡ Some (AtomRead (tree.WholeTag at name (Some test)) place)
unfolding run step tag_step whole_read
close_whole at name place test end h = rw h refl

-- a test inside a tag, and the tag's end
more_tag : (at : ℕ) (name : List ℕ) (place : TreePlace) (test : TestTree OfTag Whole) (end : TestState (TestTree OfTag)) (tokens last : List Token) (state : Option TreeState)
    → test_run (tree_ways.tag_tests name) test_start tokens ≡ Some end → whole_test (tree_ways.tag_tests name) end ≡ Some test
    → run tree_ways (InTag at name end place) last ≡ state → run tree_ways (TagNamed at name place) (tokens ++ last) ≡ state
unfolding whole_test step
more_tag at name place test end [] last state h k l = let e = test_none_left (tree_ways.tag_tests name) test_start end h in let l = ap (whole_test (tree_ways.tag_tests name)) e in cc
more_tag at name place test end (x ∷ xs) last state h k l =
    let s = test_split (tree_ways.tag_tests name) test_start end x xs h in
    one_run (TagNamed at name place) _ x (xs ++ last) _ (tag_first_on at name place s.0 x s.1)
    (then_run _ _ xs last _ (in_tag_run at name place s.0 end xs s.2) l)

begin_tag_run : (at : ℕ) (name : List ℕ) (place : TreePlace) (test : Option (TestTree OfTag Whole))
    → run tree_ways (TagNamed at name place) (maybe_tokens test ++ Mark t.TagEnd ∷ []) ≡ Some (AtomRead (tree.BeginTag at name test) place)
unfolding run step named_step
begin_tag_run at name place None = refl
begin_tag_run at name place (Some test) =
    let r = test_reads test in more_tag at name place test r.end (test_tokens test) (Mark t.TagEnd ∷ []) _ r.runs r.whole (close_begin at name place test r.end r.whole)

whole_tag_run : (at : ℕ) (name : List ℕ) (place : TreePlace) (test : Option (TestTree OfTag Whole))
    → run tree_ways (TagNamed at name place) (maybe_tokens test ++ Mark t.WholeEnd ∷ []) ≡ Some (AtomRead (tree.WholeTag at name test) place)
unfolding run step named_step
whole_tag_run at name place None = refl
whole_tag_run at name place (Some test) =
    let r = test_reads test in more_tag at name place test r.end (test_tokens test) (Mark t.WholeEnd ∷ []) _ r.runs r.whole (close_whole at name place test r.end r.whole)

-- ## Expressions

-- a token that begins an item
abbrev pub begins : Token → Bool
begins (Number at number) = true
begins (Quoted content) = true
begins (Mark t.OpenSquare) = true
begins (Mark t.TagBegin) = true
begins (Mark t.ClosingTag) = true
begins (Mark t.OpenRound) = true
begins _ = false

-- a token that repeats an atom
abbrev pub repeats : Token → Bool
repeats (OpenCurly at) = true
repeats (Mark t.Star) = true
repeats (Mark t.Plus) = true
repeats (Mark t.Question) = true
repeats _ = false

-- at a state an item may begin, at this place
pub record MayBegin (state : TreeState) (place : TreePlace) : Type 0 where
  pub goes : (token : Token) → begins token ≡ true → step tree_ways state token ≡ begin_step tree_ways place token

-- at a state this sequence is read
pub record HasRead (state : TreeState) (sequence : ExprTree Sequence) (branches : Option (ExprTree Choice)) (around : TreeAround) : Type 0 where
  pub goes : (token : Token) → repeats token ≡ false → step tree_ways state token ≡ read_step tree_ways sequence branches around token
  pub ends : finish tree_ways state ≡ finish tree_ways (ItemRead sequence branches around)

read_begin : (sequence : ExprTree Sequence) (branches : Option (ExprTree Choice)) (around : TreeAround) (token : Token) → begins token ≡ true
    → (repeats token ≡ false) × (read_step tree_ways sequence branches around token ≡ begin_step tree_ways (record { before = record { sequence = Some sequence; branches = branches }; around = around }) token)
unfolding read_step
read_begin sequence branches around (Number at number) h = (refl, refl)
read_begin sequence branches around (Quoted content) h = (refl, refl)
read_begin sequence branches around (Mark t.OpenSquare) h = (refl, refl)
read_begin sequence branches around (Mark t.TagBegin) h = (refl, refl)
read_begin sequence branches around (Mark t.ClosingTag) h = (refl, refl)
read_begin sequence branches around (Mark t.OpenRound) h = (refl, refl)
read_begin sequence branches around _ h = cc

-- behind a sequence the next item may begin
pub next_begins : (state : TreeState) (sequence : ExprTree Sequence) (branches : Option (ExprTree Choice)) (around : TreeAround) → HasRead state sequence branches around
    → MayBegin state (record { before = record { sequence = Some sequence; branches = branches }; around = around })
next_begins state sequence branches around r = record { goes = λ token h. let k = read_begin sequence branches around token h in r.goes token k.0 ∙ k.1 }

pub wanted_begins : (place : TreePlace) → MayBegin (Wanted place) place
unfolding step
wanted_begins place = record { goes = λ token h. refl }

pub item_has_read : (sequence : ExprTree Sequence) (branches : Option (ExprTree Choice)) (around : TreeAround) → HasRead (ItemRead sequence branches around) sequence branches around
unfolding step
item_has_read sequence branches around = record { goes = λ token h. refl; ends = refl }

atom_goes_on : (atom : ExprTree Atom) (place : TreePlace) (token : Token) → repeats token ≡ false
    → atom_step tree_ways atom place token ≡ read_step tree_ways (sequence_of tree_ways place.before.sequence (tree.Once atom)) place.before.branches place.around token
unfolding atom_step
atom_goes_on atom place (Mark t.Star) h = cc
atom_goes_on atom place (Mark t.Plus) h = cc
atom_goes_on atom place (Mark t.Question) h = cc
atom_goes_on atom place (OpenCurly at) h = cc
atom_goes_on atom place _ h = refl

pub atom_has_read : (atom : ExprTree Atom) (place : TreePlace)
    → HasRead (AtomRead atom place) (sequence_of tree_ways place.before.sequence (tree.Once atom)) place.before.branches place.around
unfolding step finish
atom_has_read atom place = record { goes = λ token h. atom_goes_on atom place token h; ends = refl }

-- what the reading of an item, a sequence and a choice leads to
pub record ItemGoes (item : ExprTree Item) (state : TreeState) (place : TreePlace) (tokens : List Token) : Type 0 where
  pub end : TreeState
  pub runs : run tree_ways state tokens ≡ Some end
  pub read : HasRead end (sequence_of tree_ways place.before.sequence item) place.before.branches place.around

pub record SequenceGoes (sequence : ExprTree Sequence) (state : TreeState) (branches : Option (ExprTree Choice)) (around : TreeAround) (tokens : List Token) : Type 0 where
  pub end : TreeState
  pub runs : run tree_ways state tokens ≡ Some end
  pub read : HasRead end sequence branches around

pub record ChoiceGoes (choice : ExprTree Choice) (state : TreeState) (around : TreeAround) (tokens : List Token) : Type 0 where
  pub end : TreeState
  pub branches : Option (ExprTree Choice)
  pub sequence : ExprTree Sequence
  pub runs : run tree_ways state tokens ≡ Some end
  pub read : HasRead end sequence branches around
  pub is : choice_of tree_ways branches sequence ≡ choice

abbrev pub branch_place : Option (ExprTree Choice) → TreeAround → TreePlace
branch_place branches around = record { before = record { sequence = None; branches = branches }; around = around }

abbrev pub Goes : (rank : Rank) → ExprTree rank → Type 0
Goes Atom atom = (state : TreeState) (place : TreePlace) → MayBegin state place → run tree_ways state (expr_tokens atom) ≡ Some (AtomRead atom place)
Goes Item item = (state : TreeState) (place : TreePlace) → MayBegin state place → ItemGoes item state place (expr_tokens item)
Goes Sequence sequence = (state : TreeState) (branches : Option (ExprTree Choice)) (around : TreeAround) → MayBegin state (branch_place branches around)
    → SequenceGoes sequence state branches around (expr_tokens sequence)
Goes Choice choice = (state : TreeState) (around : TreeAround) → MayBegin state (branch_place None around) → ChoiceGoes choice state around (expr_tokens choice)

the_colon : (at number : ℕ) (place : TreePlace) → step tree_ways (LabelRead at number place) (Mark t.Colon) ≡ Some (LabelDone at number place)
unfolding step label_step
the_colon at number place = refl

token_goes : (label : Label) (test : Option (TestTree OfToken Whole)) (state : TreeState) (place : TreePlace) → MayBegin state place
    → run tree_ways state (label_tokens label ++ Mark t.OpenSquare ∷ (maybe_tokens test ++ Mark t.CloseSquare ∷ [])) ≡ Some (AtomRead (tree.TokenTest label test) place)
unfolding step begin_step labelled_step
token_goes NoLabel test state place may =
    one_run state (TokenOpened NoLabel place) (Mark t.OpenSquare) _ _ (may.goes (Mark t.OpenSquare) refl) (token_test_run NoLabel place test)
token_goes (Labelled at number) test state place may =
    one_run state (LabelRead at number place) (Number at number) _ _ (may.goes (Number at number) refl)
    (one_run (LabelRead at number place) (LabelDone at number place) (Mark t.Colon) _ _ (the_colon at number place)
    (one_run (LabelDone at number place) (TokenOpened (Labelled at number) place) (Mark t.OpenSquare) _ _ refl (token_test_run (Labelled at number) place test)))

string_goes : (label : Label) (content : List ℕ) (state : TreeState) (place : TreePlace) → MayBegin state place
    → run tree_ways state (label_tokens label ++ Quoted content ∷ []) ≡ Some (AtomRead (tree.String label content) place)
unfolding step begin_step labelled_step
string_goes NoLabel content state place may = last_run state (Quoted content) _ (may.goes (Quoted content) refl)
string_goes (Labelled at number) content state place may =
    one_run state (LabelRead at number place) (Number at number) _ _ (may.goes (Number at number) refl)
    (one_run (LabelRead at number place) (LabelDone at number place) (Mark t.Colon) _ _ (the_colon at number place)
    (last_run (LabelDone at number place) (Quoted content) _ refl))

tag_named : (at : ℕ) (name : List ℕ) (state : TreeState) (place : TreePlace) (tokens : List Token) (end : Option TreeState) → MayBegin state place
    → run tree_ways (TagNamed at name place) tokens ≡ end → run tree_ways state (Mark t.TagBegin ∷ Word at name ∷ tokens) ≡ end
unfolding step begin_step tag_opened_step
tag_named at name state place tokens end may h =
    one_run state (TagOpened place) (Mark t.TagBegin) _ _ (may.goes (Mark t.TagBegin) refl) (one_run (TagOpened place) (TagNamed at name place) (Word at name) tokens end refl h)

closing_goes : (at : ℕ) (name : List ℕ) (state : TreeState) (place : TreePlace) → MayBegin state place
    → run tree_ways state (Mark t.ClosingTag ∷ Word at name ∷ Mark t.TagEnd ∷ []) ≡ Some (AtomRead (tree.EndTag at name) place)
unfolding step begin_step closing_opened_step closing_named_step
closing_goes at name state place may =
    one_run state (ClosingOpened place) (Mark t.ClosingTag) _ _ (may.goes (Mark t.ClosingTag) refl)
    (one_run (ClosingOpened place) (ClosingNamed at name place) (Word at name) _ _ refl (last_run (ClosingNamed at name place) (Mark t.TagEnd) _ refl))

repetition_goes : (atom : ExprTree Atom) (place : TreePlace) (repetition : Repetition)
    → run tree_ways (AtomRead atom place) (repetition_tokens repetition) ≡ Some (item_read tree_ways (tree.Repeated atom repetition) place)
unfolding run step atom_step repeat_step
repetition_goes atom place tree.Star = refl
repetition_goes atom place tree.Plus = refl
repetition_goes atom place tree.Question = refl
repetition_goes atom place (tree.Exactly at n_at n) = refl
repetition_goes atom place (tree.From at n_at n) = refl
repetition_goes atom place (tree.Between at n_at n m_at m) = refl

-- a `)` behind a choice inside parentheses
group_closes : (choice : ExprTree Choice) (end : TreeState) (branches : Option (ExprTree Choice)) (sequence : ExprTree Sequence) (place : TreePlace)
    → HasRead end sequence branches (record { groups = place.before ∷ place.around.groups; heads = place.around.heads }) → choice_of tree_ways branches sequence ≡ choice
    → step tree_ways end (Mark t.CloseRound) ≡ Some (AtomRead (tree.Group choice) place)
unfolding read_step close_choice
group_closes choice end branches sequence place read is = read.goes (Mark t.CloseRound) refl ∙ ap (λ c. Some (AtomRead (tree.Group c) place)) is

opens : (state : TreeState) (place : TreePlace) → MayBegin state place
    → step tree_ways state (Mark t.OpenRound) ≡ Some (Wanted (branch_place None (record { groups = place.before ∷ place.around.groups; heads = place.around.heads })))
unfolding begin_step
opens state place may = may.goes (Mark t.OpenRound) refl

bar_goes : (end : TreeState) (branches : Option (ExprTree Choice)) (sequence : ExprTree Sequence) (around : TreeAround) (choice : ExprTree Choice)
    → HasRead end sequence branches around → choice_of tree_ways branches sequence ≡ choice → step tree_ways end (Mark t.Bar) ≡ Some (Wanted (branch_place (Some choice) around))
unfolding read_step
bar_goes end branches sequence around choice read is = read.goes (Mark t.Bar) refl ∙ ap (λ c. Some (Wanted (branch_place (Some c) around))) is

pub goes : {rank : Rank} (tree : ExprTree rank) → Goes rank tree
unfolding expr_tokens
goes (tree.TokenTest label test) = λ state place may. token_goes label test state place may
goes (tree.String label content) = λ state place may. string_goes label content state place may
goes (tree.BeginTag at name test) = λ state place may. tag_named at name state place (maybe_tokens test ++ Mark t.TagEnd ∷ []) _ may (begin_tag_run at name place test)
goes (tree.WholeTag at name test) = λ state place may. tag_named at name state place (maybe_tokens test ++ Mark t.WholeEnd ∷ []) _ may (whole_tag_run at name place test)
goes (tree.EndTag at name) = λ state place may. closing_goes at name state place may
goes (tree.Group inner) = λ state place may.
    let around : TreeAround = record { groups = place.before ∷ place.around.groups; heads = place.around.heads } in
    let r = goes inner (Wanted (branch_place None around)) around (wanted_begins (branch_place None around)) in
    one_run state (Wanted (branch_place None around)) (Mark t.OpenRound) (expr_tokens inner ++ Mark t.CloseRound ∷ []) _ (opens state place may)
    (then_run (Wanted (branch_place None around)) r.end (expr_tokens inner) (Mark t.CloseRound ∷ []) _ r.runs
    (last_run r.end (Mark t.CloseRound) _ (group_closes inner r.end r.branches r.sequence place r.read r.is)))
goes (tree.Once atom) = λ state place may. record { end = AtomRead atom place; runs = goes atom state place may; read = atom_has_read atom place }
goes (tree.Repeated atom repetition) = λ state place may. record {
  end = item_read tree_ways (tree.Repeated atom repetition) place;
  runs = then_run state (AtomRead atom place) (expr_tokens atom) (repetition_tokens repetition) _ (goes atom state place may) (repetition_goes atom place repetition);
  read = item_has_read (sequence_of tree_ways place.before.sequence (tree.Repeated atom repetition)) place.before.branches place.around;
}
goes (tree.First item) = λ state branches around may. let r = goes item state (branch_place branches around) may in record { end = r.end; runs = r.runs; read = r.read }
goes (tree.Then left right) = λ state branches around may.
    let l = goes left state branches around may in
    let place : TreePlace = record { before = record { sequence = Some left; branches = branches }; around = around } in
    let r = goes right l.end place (next_begins l.end left branches around l.read) in
    record { end = r.end; runs = then_run state l.end (expr_tokens left) (expr_tokens right) _ l.runs r.runs; read = r.read }
goes (tree.Branch sequence) = λ state around may.
    let r = goes sequence state None around may in record { end = r.end; branches = None; sequence = sequence; runs = r.runs; read = r.read; is = refl }
goes (tree.Or left right) = λ state around may.
    let l = goes left state around may in
    let place = branch_place (Some left) around in
    let r = goes right (Wanted place) (Some left) around (wanted_begins place) in
    record {
      end = r.end;
      branches = Some left;
      sequence = right;
      read = r.read;
      is = refl;
      runs = then_run state l.end (expr_tokens left) (Mark t.Bar ∷ expr_tokens right) _ l.runs
          (one_run l.end (Wanted place) (Mark t.Bar) (expr_tokens right) _ (bar_goes l.end l.branches l.sequence around left l.read l.is) r.runs);
    }

-- ## Filters

-- a token that may stand behind an operand
abbrev pub follows : Token → Bool
follows (Word at name) = true
follows (Mark t.CloseRound) = true
follows (Mark t.Bang) = true
follows (Mark t.And) = true
follows _ = false

-- at a state a head and its filters are read
pub record HasFilters (state : TreeState) (choice : ExprTree Choice) (filters : FilterTree Filters) (heads : List TreeHead) : Type 0 where
  pub goes : (token : Token) → follows token ≡ true → step tree_ways state token ≡ filters_step tree_ways choice filters heads token
  pub ends : finish tree_ways state ≡ finish tree_ways (FiltersRead choice filters heads)

-- at a state an op may follow what is asked
pub record MayFilter (state : TreeState) (asked : TreeAsked) (heads : List TreeHead) : Type 0 where
  pub word : (at : ℕ) (name : List ℕ) → step tree_ways state (Word at name) ≡ filtered tree_ways (op_of at name) (Some (asked, heads))
  pub bang : step tree_ways state (Mark t.Bang) ≡ Some (BangRead asked heads)

-- what stands before an operand
abbrev pub with_op : TreeAsked → Op → TreeHead
with_op asked op = record { choice = asked.choice; filters = asked.filters; op = op }

abbrev pub operand_place : List TreeHead → TreePlace
operand_place heads = branch_place None (record { groups = []; heads = heads })

op_goes : (op : Op) (state : TreeState) (asked : TreeAsked) (heads : List TreeHead) → MayFilter state asked heads
    → run tree_ways state (op_tokens op) ≡ Some (Wanted (operand_place (with_op asked op ∷ heads)))
unfolding step filtered bang_step
op_goes (Within at) state asked heads may = last_run state (Word at (codes "within")) _ (may.word at (codes "within"))
op_goes (Containing at) state asked heads may = last_run state (Word at (codes "containing")) _ (may.word at (codes "containing"))
op_goes (NotWithin at) state asked heads may =
    one_run state (BangRead asked heads) (Mark t.Bang) _ _ may.bang (last_run (BangRead asked heads) (Word at (codes "within")) _ refl)
op_goes (NotContaining at) state asked heads may =
    one_run state (BangRead asked heads) (Mark t.Bang) _ _ may.bang (last_run (BangRead asked heads) (Word at (codes "containing")) _ refl)

filters_may : (state : TreeState) (choice : ExprTree Choice) (filters : FilterTree Filters) (heads : List TreeHead) → HasFilters state choice filters heads
    → MayFilter state (record { choice = choice; filters = Some filters }) heads
unfolding filters_step
filters_may state choice filters heads r = record { word = λ at name. r.goes (Word at name) refl; bang = r.goes (Mark t.Bang) refl }

plain_follows : (sequence : ExprTree Sequence) (branches : Option (ExprTree Choice)) (head : TreeHead) (heads : List TreeHead) (token : Token) → follows token ≡ true
    → (repeats token ≡ false) × (read_step tree_ways sequence branches (record { groups = []; heads = head ∷ heads }) token
    ≡ filters_step tree_ways head.choice (with_operand tree_ways head (choice_of tree_ways branches sequence)) heads token)
unfolding read_step filters_step before_op asked_of asked_filters close_choice bang
plain_follows sequence branches head heads (Word at name) h = (refl, refl)
plain_follows sequence branches head heads (Mark t.CloseRound) h = (refl, refl)
plain_follows sequence branches head heads (Mark t.Bang) h = (refl, refl)
plain_follows sequence branches head [] (Mark t.And) h = (refl, refl)
plain_follows sequence branches head (other ∷ heads) (Mark t.And) h = (refl, refl)
plain_follows sequence branches head heads _ h = cc

plain_ends : (sequence : ExprTree Sequence) (branches : Option (ExprTree Choice)) (head : TreeHead) (heads : List TreeHead)
    → finish tree_ways (ItemRead sequence branches (record { groups = []; heads = head ∷ heads }))
    ≡ finish tree_ways (FiltersRead head.choice (with_operand tree_ways head (choice_of tree_ways branches sequence)) heads)
unfolding finish asked_of asked_filters
plain_ends sequence branches head [] = refl
plain_ends sequence branches head (other ∷ heads) = refl

plain_read : (state : TreeState) (sequence : ExprTree Sequence) (branches : Option (ExprTree Choice)) (head : TreeHead) (heads : List TreeHead) (choice : ExprTree Choice)
    → HasRead state sequence branches (record { groups = []; heads = head ∷ heads }) → choice_of tree_ways branches sequence ≡ choice
    → HasFilters state head.choice (with_operand tree_ways head choice) heads
plain_read state sequence branches head heads choice read is = record {
  goes = λ token h. let k = plain_follows sequence branches head heads token h in
      read.goes token k.0 ∙ k.1 ∙ ap (λ c. filters_step tree_ways head.choice (with_operand tree_ways head c) heads token) is;
  ends = read.ends ∙ plain_ends sequence branches head heads ∙ ap (λ c. finish tree_ways (FiltersRead head.choice (with_operand tree_ways head c) heads)) is;
}

-- inside a parenthesis behind an op
opened_may : (state : TreeState) (sequence : ExprTree Sequence) (branches : Option (ExprTree Choice)) (head : TreeHead) (heads : List TreeHead) (choice : ExprTree Choice)
    → HasRead state sequence branches (record { groups = record { sequence = None; branches = None } ∷ []; heads = head ∷ heads }) → choice_of tree_ways branches sequence ≡ choice
    → MayFilter state (record { choice = choice; filters = None }) (head ∷ heads)
unfolding read_step before_op opened_operand bang
opened_may state sequence branches head heads choice read is = record {
  word = λ at name. read.goes (Word at name) refl ∙ ap (λ c. filtered tree_ways (op_of at name) (Some (record { choice = c; filters = None }, head ∷ heads))) is;
  bang = read.goes (Mark t.Bang) refl ∙ ap (λ c. Some (BangRead (record { choice = c; filters = None }) (head ∷ heads))) is;
}

filters_close : (state : TreeState) (choice : ExprTree Choice) (filters : FilterTree Filters) (head : TreeHead) (heads : List TreeHead) → HasFilters state choice filters (head ∷ heads)
    → step tree_ways state (Mark t.CloseRound) ≡ Some (FiltersRead head.choice (filters_of tree_ways head.filters head.op (tree.WithFilters choice filters)) heads)
unfolding filters_step close_filters
filters_close state choice filters head heads r = r.goes (Mark t.CloseRound) refl

filters_has : (choice : ExprTree Choice) (filters : FilterTree Filters) (heads : List TreeHead) → HasFilters (FiltersRead choice filters heads) choice filters heads
unfolding step
filters_has choice filters heads = record { goes = λ token h. refl; ends = refl }

pub record OperandGoes (operand : FilterTree Operand) (head : TreeHead) (heads : List TreeHead) (tokens : List Token) : Type 0 where
  pub end : TreeState
  pub runs : run tree_ways (Wanted (operand_place (head ∷ heads))) tokens ≡ Some end
  pub read : HasFilters end head.choice (filters_of tree_ways head.filters head.op operand) heads

pub record FiltersGo (filters : FilterTree Filters) (state : TreeState) (choice : ExprTree Choice) (heads : List TreeHead) (tokens : List Token) : Type 0 where
  pub end : TreeState
  pub runs : run tree_ways state tokens ≡ Some end
  pub read : HasFilters end choice filters heads

abbrev pub FilterGoes : (sort : Filtered) → FilterTree sort → Type 0
FilterGoes Operand operand = (head : TreeHead) (heads : List TreeHead) → OperandGoes operand head heads (filter_tokens operand)
FilterGoes Filters filters = (state : TreeState) (choice : ExprTree Choice) (heads : List TreeHead) → MayFilter state (record { choice = choice; filters = None }) heads
    → FiltersGo filters state choice heads (filter_tokens filters)

pub filter_goes : {sort : Filtered} (tree : FilterTree sort) → FilterGoes sort tree
unfolding filter_tokens
filter_goes (tree.Plain choice) = λ head heads.
    let place = operand_place (head ∷ heads) in
    let r = goes choice (Wanted place) (record { groups = []; heads = head ∷ heads }) (wanted_begins place) in
    record { end = r.end; runs = r.runs; read = plain_read r.end r.sequence r.branches head heads choice r.read r.is }
filter_goes (tree.WithFilters choice filters) = λ head heads.
    let place = operand_place (head ∷ heads) in
    let around : TreeAround = record { groups = record { sequence = None; branches = None } ∷ []; heads = head ∷ heads } in
    let r = goes choice (Wanted (branch_place None around)) around (wanted_begins (branch_place None around)) in
    let f = filter_goes filters r.end choice (head ∷ heads) (opened_may r.end r.sequence r.branches head heads choice r.read r.is) in
    let end : TreeState = FiltersRead head.choice (filters_of tree_ways head.filters head.op (tree.WithFilters choice filters)) heads in
    record {
      end = end;
      runs = one_run (Wanted place) (Wanted (branch_place None around)) (Mark t.OpenRound) (expr_tokens choice ++ (filter_tokens filters ++ Mark t.CloseRound ∷ [])) _
          (opens (Wanted place) place (wanted_begins place))
          (then_run (Wanted (branch_place None around)) r.end (expr_tokens choice) (filter_tokens filters ++ Mark t.CloseRound ∷ []) _ r.runs
          (then_run r.end f.end (filter_tokens filters) (Mark t.CloseRound ∷ []) _ f.runs
          (last_run f.end (Mark t.CloseRound) _ (filters_close f.end choice filters head heads f.read))));
      read = filters_has head.choice (filters_of tree_ways head.filters head.op (tree.WithFilters choice filters)) heads;
    }
filter_goes (tree.Filter op operand) = λ state choice heads may.
    let asked : TreeAsked = record { choice = choice; filters = None } in
    let r = filter_goes operand (with_op asked op) heads in
    record { end = r.end; runs = then_run state _ (op_tokens op) (filter_tokens operand) _ (op_goes op state asked heads may) r.runs; read = r.read }
filter_goes (tree.More filters op operand) = λ state choice heads may.
    let f = filter_goes filters state choice heads may in
    let asked : TreeAsked = record { choice = choice; filters = Some filters } in
    let r = filter_goes operand (with_op asked op) heads in
    record {
      end = r.end;
      read = r.read;
      runs = then_run state f.end (filter_tokens filters) (op_tokens op ++ filter_tokens operand) _ f.runs
          (then_run f.end _ (op_tokens op) (filter_tokens operand) _ (op_goes op f.end asked heads (filters_may f.end choice filters heads f.read)) r.runs);
    }

-- ## Conditions

-- at a state this is asked, with these conditions
pub record HasAsked (state : TreeState) (asked : TreeAsked) (conds : List CondTree) : Type 0 where
  pub goes : step tree_ways state (Mark t.And) ≡ Some (InCond asked conds (Left Started))
  pub ends : finish tree_ways state ≡ Some (query_of tree_ways asked conds)

pub record CondsGo (state : TreeState) (asked : TreeAsked) (conds : List CondTree) (tokens : List Token) : Type 0 where
  pub end : TreeState
  pub runs : run tree_ways state tokens ≡ Some end
  pub read : HasAsked end asked conds

cond_rest : CondTree → List Token
cond_rest c = Number c.left_at c.left ∷ Mark t.Dot ∷ Word c.left_name_at c.left_name ∷ Mark (equality_sign c.equal) ∷ Number c.right_at c.right ∷ Mark t.Dot
    ∷ Word c.right_name_at c.right_name ∷ []

cond_goes : (asked : TreeAsked) (conds : List CondTree) (c : CondTree) → run tree_ways (InCond asked conds (Left Started)) (cond_rest c) ≡ Some (CondRead asked (conds ++ c ∷ []))
unfolding run step cond_step in_cond left_step sign_step right_step cond_rest
cond_goes asked conds c = go c.equal refl
  where
    go : (equal : Bool) → c.equal ≡ equal → run tree_ways (InCond asked conds (Left Started)) (Number c.left_at c.left ∷ Mark t.Dot ∷ Word c.left_name_at c.left_name ∷ Mark (equality_sign c.equal) ∷ Number c.right_at c.right ∷ Mark t.Dot
        ∷ Word c.right_name_at c.right_name ∷ []) ≡ Some (CondRead asked (conds ++ c ∷ []))
    go true e = rw e refl
    go false e = rw e refl

cond_has : (asked : TreeAsked) (conds : List CondTree) → HasAsked (CondRead asked conds) asked conds
unfolding step conds_step finish
cond_has asked conds = record { goes = refl; ends = refl }

conds_go : (cs : List CondTree) (state : TreeState) (asked : TreeAsked) (before : List CondTree) → HasAsked state asked before → CondsGo state asked (before ++ cs) (conds_tokens cs)
unfolding run cond_rest
conds_go [] state asked before has = record { end = state; runs = refl; read = rw (append-nil before) has }
conds_go (c ∷ cs) state asked before has =
    let r = conds_go cs (CondRead asked (before ++ c ∷ [])) asked (before ++ c ∷ []) (cond_has asked (before ++ c ∷ [])) in
    record {
      end = r.end;
      runs = one_run state (InCond asked before (Left Started)) (Mark t.And) (cond_rest c ++ conds_tokens cs) _ has.goes
          (then_run (InCond asked before (Left Started)) (CondRead asked (before ++ c ∷ [])) (cond_rest c) (conds_tokens cs) _ (cond_goes asked before c) r.runs);
      read = rw (append_assoc before (c ∷ []) cs) at r.read;
    }

-- ## Queries

head_asked : (state : TreeState) (sequence : ExprTree Sequence) (branches : Option (ExprTree Choice)) (choice : ExprTree Choice)
    → HasRead state sequence branches (record { groups = []; heads = [] }) → choice_of tree_ways branches sequence ≡ choice → HasAsked state (record { choice = choice; filters = None }) []
unfolding read_step asked_of cond_begins finish ends
head_asked state sequence branches choice read is = record {
  goes = read.goes (Mark t.And) refl ∙ ap (λ c. Some (InCond (record { choice = c; filters = None }) [] (Left Started))) is;
  ends = read.ends ∙ ap (λ c. Some (tree.Asks c [])) is;
}

head_may : (state : TreeState) (sequence : ExprTree Sequence) (branches : Option (ExprTree Choice)) (choice : ExprTree Choice)
    → HasRead state sequence branches (record { groups = []; heads = [] }) → choice_of tree_ways branches sequence ≡ choice → MayFilter state (record { choice = choice; filters = None }) []
unfolding read_step before_op bang
head_may state sequence branches choice read is = record {
  word = λ at name. read.goes (Word at name) refl ∙ ap (λ c. filtered tree_ways (op_of at name) (Some (record { choice = c; filters = None }, []))) is;
  bang = read.goes (Mark t.Bang) refl ∙ ap (λ c. Some (BangRead (record { choice = c; filters = None }) [])) is;
}

filters_asked : (state : TreeState) (choice : ExprTree Choice) (filters : FilterTree Filters) → HasFilters state choice filters []
    → HasAsked state (record { choice = choice; filters = Some filters }) []
unfolding filters_step asked_filters cond_begins finish ends
filters_asked state choice filters r = record { goes = r.goes (Mark t.And) refl; ends = r.ends }

-- a query is read where its tokens stand, and ends there
pub record QueryReads (query : QueryTree) : Type 0 where
  pub end : TreeState
  pub runs : run tree_ways (start tree_ways) (query_tokens query) ≡ Some end
  pub is : finish tree_ways end ≡ Some query

pub query_reads : (query : QueryTree) → QueryReads query
query_reads (tree.Asks choice conds) =
    let h = goes choice (start tree_ways) (record { groups = []; heads = [] }) (wanted_begins (operand_place [])) in
    let c = conds_go conds h.end (record { choice = choice; filters = None }) [] (head_asked h.end h.sequence h.branches choice h.read h.is) in
    record { end = c.end; runs = then_run (start tree_ways) h.end (expr_tokens choice) (conds_tokens conds) _ h.runs c.runs; is = c.read.ends }
query_reads (tree.AsksFiltered choice filters conds) =
    let h = goes choice (start tree_ways) (record { groups = []; heads = [] }) (wanted_begins (operand_place [])) in
    let f = filter_goes filters h.end choice [] (head_may h.end h.sequence h.branches choice h.read h.is) in
    let c = conds_go conds f.end (record { choice = choice; filters = Some filters }) [] (filters_asked f.end choice filters f.read) in
    record {
      end = c.end;
      is = c.read.ends;
      runs = then_run (start tree_ways) h.end (expr_tokens choice) (filter_tokens filters ++ conds_tokens conds) _ h.runs
          (then_run h.end f.end (filter_tokens filters) (conds_tokens conds) _ f.runs c.runs);
    }
