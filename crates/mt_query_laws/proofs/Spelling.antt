-- The tokens that lead to a state of the reading of a query are those that the state is written with.
use Rattle.std.proofs.Common.{ℕ, ◌≡◌, Bool, true, false, List, [], ◌∷◌, ◌++◌, None, Some, Option, refl, sym, ◌∙◌, ap, append_assoc, append-nil, nat_eq}
use Rattle.std.specs.Prelude.{codes, cond}
use Rattle.std.specs.Cmp.Lexicographic.{pointwise}
use Rattle.std.proofs.lemmas.Slice.Eq.{bytes_eq-Decides}
use Rattle.mt_query_spec.specs.Tokens.{Token, Quoted, Number, Word, OpenCurly, Mark, Sign}
use Rattle.mt_query_spec.specs.Tokens as t
use Rattle.mt_query_spec.specs.Trees as tree
use Rattle.mt_query_spec.specs.Trees.{Tested, OfToken, OfTag, TestTree, TestRank, Unary, Conjunction, Whole, Label, NoLabel, Labelled, Repetition, Rank, Atom, Item, Sequence, Choice, ExprTree, Op, Within, NotWithin, Containing, NotContaining, Filtered, Operand, Filters, FilterTree, CondTree, QueryTree, test_tokens, maybe_tokens, label_tokens, repetition_tokens, expr_tokens, op_tokens, filter_tokens, equality_sign, cond_tokens, conds_tokens, query_tokens}
use Rattle.mt_query_laws.specs.Machine.{and_then, TestState, test_start, test_step}
use Rattle.mt_query_laws.specs.Exprs.{Group, Head, Around, Place, Counting, Opened, Least, LeastComma, Most, Side, SideState, Started, Numbered, Dotted, Condition, Left, LeftRead, Right, Asked, State, Wanted, LabelRead, LabelDone, TokenOpened, InToken, TagOpened, TagNamed, InTag, ClosingOpened, ClosingNamed, AtomRead, InRepeat, ItemRead, FiltersRead, BangRead, InCond, CondRead, op_of, not_op_of, opened_operand}
use Rattle.mt_query_laws.specs.Exprs.{sequence_of, choice_of, filters_of, item_read, begin_step, labelled_step, in_token, token_read, token_step, opened_step, in_tag, begin_read, whole_read, tag_step, named_step, tag_opened_step, closing_opened_step, closing_named_step, label_step, repeat_step, close_filters, with_operand, close_choice, before_op, asked_of, asked_filters, bang, filtered, cond_begins, read_step, atom_step, filters_step, bang_step, cond_tree, left_step, sign_step, right_step, in_cond, cond_step, conds_step, step, run, query_of, ends, finish}
use Rattle.mt_query_laws.proofs.Building.{tree_ways}
use Rattle.mt_query_laws.proofs.TestLaws.{test_spelled, token_ways, tag_ways, test_kept, whole_spelled}

-- ## How a state is written

abbrev pub TreeState : Type 0
TreeState = State TestTree ExprTree FilterTree (List CondTree)

abbrev pub TreePlace : Type 0
TreePlace = Place ExprTree FilterTree

abbrev pub TreeHead : Type 0
TreeHead = Head ExprTree FilterTree

abbrev pub TreeGroup : Type 0
TreeGroup = Group ExprTree

abbrev pub TreeAsked : Type 0
TreeAsked = Asked ExprTree FilterTree

abbrev pub branches_spelled : Option (ExprTree Choice) → List Token
branches_spelled None = []
branches_spelled (Some choice) = expr_tokens choice ++ Mark t.Bar ∷ []

abbrev pub sequence_spelled : Option (ExprTree Sequence) → List Token
sequence_spelled None = []
sequence_spelled (Some sequence) = expr_tokens sequence

abbrev pub group_spelled : TreeGroup → List Token
group_spelled g = branches_spelled g.branches ++ sequence_spelled g.sequence

abbrev pub groups_spelled : List TreeGroup → List Token
groups_spelled [] = []
groups_spelled (g ∷ gs) = groups_spelled gs ++ (group_spelled g ++ Mark t.OpenRound ∷ [])

abbrev pub maybe_filters : Option (FilterTree Filters) → List Token
maybe_filters None = []
maybe_filters (Some filters) = filter_tokens filters

abbrev pub head_spelled : TreeHead → List Token
head_spelled h = expr_tokens h.choice ++ (maybe_filters h.filters ++ op_tokens h.op)

-- before what an op's operand in parentheses begins with
abbrev pub outside : List TreeHead → List Token
outside [] = []
outside (h ∷ hs) = outside hs ++ (head_spelled h ++ Mark t.OpenRound ∷ [])

abbrev pub heads_spelled : List TreeHead → List Token
heads_spelled [] = []
heads_spelled (h ∷ hs) = outside hs ++ head_spelled h

abbrev pub place_spelled : TreePlace → List Token
place_spelled p = heads_spelled p.around.heads ++ (groups_spelled p.around.groups ++ group_spelled p.before)

abbrev pub counting_spelled : Counting → List Token
counting_spelled Opened = []
counting_spelled (Least n_at n) = Number n_at n ∷ []
counting_spelled (LeastComma n_at n) = Number n_at n ∷ Mark t.Comma ∷ []
counting_spelled (Most n_at n m_at m) = Number n_at n ∷ Mark t.Comma ∷ Number m_at m ∷ []

abbrev pub side_spelled : Side → List Token
side_spelled side = Number side.at side.number ∷ Mark t.Dot ∷ Word side.name_at side.name ∷ []

abbrev pub side_state_spelled : SideState → List Token
side_state_spelled Started = []
side_state_spelled (Numbered at number) = Number at number ∷ []
side_state_spelled (Dotted at number) = Number at number ∷ Mark t.Dot ∷ []

abbrev pub condition_spelled : Condition → List Token
condition_spelled (Left side) = side_state_spelled side
condition_spelled (LeftRead left) = side_spelled left
condition_spelled (Right left equal right) = side_spelled left ++ Mark (equality_sign equal) ∷ side_state_spelled right

abbrev pub asked_spelled : TreeAsked → List Token
asked_spelled a = expr_tokens a.choice ++ maybe_filters a.filters

abbrev pub spelled : TreeState → List Token
spelled (Wanted place) = place_spelled place
spelled (LabelRead at number place) = place_spelled place ++ Number at number ∷ []
spelled (LabelDone at number place) = place_spelled place ++ Number at number ∷ Mark t.Colon ∷ []
spelled (TokenOpened label place) = place_spelled place ++ (label_tokens label ++ Mark t.OpenSquare ∷ [])
spelled (InToken label test place) = place_spelled place ++ (label_tokens label ++ Mark t.OpenSquare ∷ test_spelled test)
spelled (TagOpened place) = place_spelled place ++ Mark t.TagBegin ∷ []
spelled (TagNamed at name place) = place_spelled place ++ Mark t.TagBegin ∷ Word at name ∷ []
spelled (InTag at name test place) = place_spelled place ++ Mark t.TagBegin ∷ Word at name ∷ test_spelled test
spelled (ClosingOpened place) = place_spelled place ++ Mark t.ClosingTag ∷ []
spelled (ClosingNamed at name place) = place_spelled place ++ Mark t.ClosingTag ∷ Word at name ∷ []
spelled (AtomRead atom place) = place_spelled place ++ expr_tokens atom
spelled (InRepeat atom at counting place) = place_spelled place ++ (expr_tokens atom ++ OpenCurly at ∷ counting_spelled counting)
spelled (ItemRead sequence branches around) = heads_spelled around.heads ++ (groups_spelled around.groups ++ (branches_spelled branches ++ expr_tokens sequence))
spelled (FiltersRead choice filters heads) = outside heads ++ (expr_tokens choice ++ filter_tokens filters)
spelled (BangRead asked heads) = outside heads ++ (asked_spelled asked ++ Mark t.Bang ∷ [])
spelled (InCond asked conds cond) = asked_spelled asked ++ (conds_tokens conds ++ Mark t.And ∷ condition_spelled cond)
spelled (CondRead asked conds) = asked_spelled asked ++ conds_tokens conds

-- ## What the parts that are built are written with

pub sequence_of_spelled : (left : Option (ExprTree Sequence)) (item : ExprTree Item) → expr_tokens (sequence_of tree_ways left item) ≡ sequence_spelled left ++ expr_tokens item
unfolding expr_tokens
sequence_of_spelled None item = refl
sequence_of_spelled (Some left) item = refl

pub choice_of_spelled : (left : Option (ExprTree Choice)) (sequence : ExprTree Sequence) → expr_tokens (choice_of tree_ways left sequence) ≡ branches_spelled left ++ expr_tokens sequence
unfolding expr_tokens
choice_of_spelled None sequence = refl
choice_of_spelled (Some left) sequence = sym (append_assoc (expr_tokens left) (Mark t.Bar ∷ []) (expr_tokens sequence))

pub filters_of_spelled : (left : Option (FilterTree Filters)) (op : Op) (operand : FilterTree Operand)
    → filter_tokens (filters_of tree_ways left op operand) ≡ maybe_filters left ++ (op_tokens op ++ filter_tokens operand)
unfolding filter_tokens
filters_of_spelled None op operand = refl
filters_of_spelled (Some left) op operand = refl

conds_more : (conds : List CondTree) (c : CondTree) → conds_tokens (conds ++ c ∷ []) ≡ conds_tokens conds ++ cond_tokens c
conds_more [] c = append-nil (cond_tokens c)
conds_more (d ∷ conds) c = rw (conds_more conds c) (sym (append_assoc (cond_tokens d) (conds_tokens conds) (cond_tokens c)))

at_state : (s next : TreeState) (text : List Token) → Some s ≡ Some next → spelled s ≡ text → spelled next ≡ text
at_state s next text h e = let k : s ≡ next = cc in ap spelled (sym k) ∙ e

item_spelled : (item : ExprTree Item) (place : TreePlace) → spelled (item_read tree_ways item place) ≡ place_spelled place ++ expr_tokens item
item_spelled item place = rw (sequence_of_spelled place.before.sequence item) (simp append_assoc)

-- ## Each step is its token

begin_kept : (place : TreePlace) (token : Token) (next : TreeState) → begin_step tree_ways place token ≡ Some next → spelled next ≡ place_spelled place ++ token ∷ []
unfolding begin_step expr_tokens
begin_kept place (Number at number) next h = at_state _ next _ h refl
begin_kept place (Quoted content) next h = at_state _ next _ h refl
begin_kept place (Mark t.OpenSquare) next h = at_state _ next _ h refl
begin_kept place (Mark t.TagBegin) next h = at_state _ next _ h refl
begin_kept place (Mark t.ClosingTag) next h = at_state _ next _ h refl
begin_kept place (Mark t.OpenRound) next h = at_state _ next _ h (simp (append_assoc, append-nil))
begin_kept place _ next h = cc

label_kept : (at number : ℕ) (place : TreePlace) (token : Token) (next : TreeState) → label_step tree_ways at number place token ≡ Some next
    → spelled next ≡ (place_spelled place ++ Number at number ∷ []) ++ token ∷ []
unfolding label_step
label_kept at number place (Mark t.Colon) next h = at_state _ next _ h (simp append_assoc)
label_kept at number place _ next h = cc

labelled_kept : (at number : ℕ) (place : TreePlace) (token : Token) (next : TreeState) → labelled_step tree_ways at number place token ≡ Some next
    → spelled next ≡ (place_spelled place ++ Number at number ∷ Mark t.Colon ∷ []) ++ token ∷ []
unfolding labelled_step expr_tokens
labelled_kept at number place (Quoted content) next h = at_state _ next _ h (simp append_assoc)
labelled_kept at number place (Mark t.OpenSquare) next h = at_state _ next _ h (simp append_assoc)
labelled_kept at number place _ next h = cc

in_token_kept : (label : Label) (place : TreePlace) (found : Option (TestState (TestTree OfToken))) (text : List Token) (next : TreeState)
    → in_token tree_ways label place found ≡ Some next → ((s : TestState (TestTree OfToken)) → found ≡ Some s → test_spelled s ≡ text)
    → spelled next ≡ place_spelled place ++ (label_tokens label ++ Mark t.OpenSquare ∷ text)
unfolding in_token
in_token_kept label place None text next h k = cc
in_token_kept label place (Some s) text next h k = at_state _ next _ h (rw (k s refl) refl)

in_tag_kept : (at : ℕ) (name : List ℕ) (place : TreePlace) (found : Option (TestState (TestTree OfTag))) (text : List Token) (next : TreeState)
    → in_tag tree_ways at name place found ≡ Some next → ((s : TestState (TestTree OfTag)) → found ≡ Some s → test_spelled s ≡ text)
    → spelled next ≡ place_spelled place ++ Mark t.TagBegin ∷ Word at name ∷ text
unfolding in_tag
in_tag_kept at name place None text next h k = cc
in_tag_kept at name place (Some s) text next h k = at_state _ next _ h (rw (k s refl) refl)

token_read_kept : (label : Label) (place : TreePlace) (found : Option (TestTree OfToken Whole)) (text : List Token) (next : TreeState)
    → token_read tree_ways label place found ≡ Some next → ((test : TestTree OfToken Whole) → found ≡ Some test → text ≡ test_tokens test)
    → spelled next ≡ place_spelled place ++ (label_tokens label ++ Mark t.OpenSquare ∷ (text ++ Mark t.CloseSquare ∷ []))
unfolding token_read expr_tokens
token_read_kept label place None text next h k = cc
token_read_kept label place (Some test) text next h k = at_state _ next _ h (rw (k test refl) refl)

begin_read_kept : (at : ℕ) (name : List ℕ) (place : TreePlace) (found : Option (TestTree OfTag Whole)) (text : List Token) (next : TreeState)
    → begin_read tree_ways at name place found ≡ Some next → ((test : TestTree OfTag Whole) → found ≡ Some test → text ≡ test_tokens test)
    → spelled next ≡ place_spelled place ++ Mark t.TagBegin ∷ Word at name ∷ (text ++ Mark t.TagEnd ∷ [])
unfolding begin_read expr_tokens
begin_read_kept at name place None text next h k = cc
begin_read_kept at name place (Some test) text next h k = at_state _ next _ h (rw (k test refl) refl)

whole_read_kept : (at : ℕ) (name : List ℕ) (place : TreePlace) (found : Option (TestTree OfTag Whole)) (text : List Token) (next : TreeState)
    → whole_read tree_ways at name place found ≡ Some next → ((test : TestTree OfTag Whole) → found ≡ Some test → text ≡ test_tokens test)
    → spelled next ≡ place_spelled place ++ Mark t.TagBegin ∷ Word at name ∷ (text ++ Mark t.WholeEnd ∷ [])
unfolding whole_read expr_tokens
whole_read_kept at name place None text next h k = cc
whole_read_kept at name place (Some test) text next h k = at_state _ next _ h (rw (k test refl) refl)

-- a token of a test inside `[`
in_test_kept : (label : Label) (test : TestState (TestTree OfToken)) (place : TreePlace) (token : Token) (next : TreeState)
    → in_token tree_ways label place (test_step tree_ways.token_tests test token) ≡ Some next
    → spelled next ≡ (place_spelled place ++ (label_tokens label ++ Mark t.OpenSquare ∷ test_spelled test)) ++ token ∷ []
in_test_kept label test place token next h =
    in_token_kept label place _ (test_spelled test ++ token ∷ []) next h (λ s e. test_kept token_ways test token s e) ∙ simp append_assoc

in_tag_test_kept : (at : ℕ) (name : List ℕ) (test : TestState (TestTree OfTag)) (place : TreePlace) (token : Token) (next : TreeState)
    → in_tag tree_ways at name place (test_step (tree_ways.tag_tests name) test token) ≡ Some next
    → spelled next ≡ (place_spelled place ++ Mark t.TagBegin ∷ Word at name ∷ test_spelled test) ++ token ∷ []
in_tag_test_kept at name test place token next h =
    in_tag_kept at name place _ (test_spelled test ++ token ∷ []) next h (λ s e. test_kept tag_ways test token s e) ∙ simp append_assoc

token_kept : (label : Label) (test : TestState (TestTree OfToken)) (place : TreePlace) (token : Token) (next : TreeState) → token_step tree_ways label test place token ≡ Some next
    → spelled next ≡ (place_spelled place ++ (label_tokens label ++ Mark t.OpenSquare ∷ test_spelled test)) ++ token ∷ []
unfolding token_step
token_kept label test place (Mark t.CloseSquare) next h =
    token_read_kept label place _ (test_spelled test) next h (λ whole e. whole_spelled token_ways test whole e) ∙ simp append_assoc
token_kept label test place token next h = in_test_kept label test place token next h

opened_kept : (label : Label) (place : TreePlace) (token : Token) (next : TreeState) → opened_step tree_ways label place token ≡ Some next
    → spelled next ≡ (place_spelled place ++ (label_tokens label ++ Mark t.OpenSquare ∷ [])) ++ token ∷ []
unfolding opened_step expr_tokens
opened_kept label place (Mark t.CloseSquare) next h = at_state _ next _ h (simp append_assoc)
opened_kept label place token next h = in_test_kept label test_start place token next h

tag_kept : (at : ℕ) (name : List ℕ) (test : TestState (TestTree OfTag)) (place : TreePlace) (token : Token) (next : TreeState) → tag_step tree_ways at name test place token ≡ Some next
    → spelled next ≡ (place_spelled place ++ Mark t.TagBegin ∷ Word at name ∷ test_spelled test) ++ token ∷ []
unfolding tag_step
tag_kept at name test place (Mark t.TagEnd) next h =
    begin_read_kept at name place _ (test_spelled test) next h (λ whole e. whole_spelled tag_ways test whole e) ∙ simp append_assoc
tag_kept at name test place (Mark t.WholeEnd) next h =
    whole_read_kept at name place _ (test_spelled test) next h (λ whole e. whole_spelled tag_ways test whole e) ∙ simp append_assoc
tag_kept at name test place token next h = in_tag_test_kept at name test place token next h

named_kept : (at : ℕ) (name : List ℕ) (place : TreePlace) (token : Token) (next : TreeState) → named_step tree_ways at name place token ≡ Some next
    → spelled next ≡ (place_spelled place ++ Mark t.TagBegin ∷ Word at name ∷ []) ++ token ∷ []
unfolding named_step expr_tokens
named_kept at name place (Mark t.TagEnd) next h = at_state _ next _ h (simp append_assoc)
named_kept at name place (Mark t.WholeEnd) next h = at_state _ next _ h (simp append_assoc)
named_kept at name place token next h = in_tag_test_kept at name test_start place token next h

tag_opened_kept : (place : TreePlace) (token : Token) (next : TreeState) → tag_opened_step tree_ways place token ≡ Some next
    → spelled next ≡ (place_spelled place ++ Mark t.TagBegin ∷ []) ++ token ∷ []
unfolding tag_opened_step
tag_opened_kept place (Word at name) next h = at_state _ next _ h (simp append_assoc)
tag_opened_kept place _ next h = cc

closing_opened_kept : (place : TreePlace) (token : Token) (next : TreeState) → closing_opened_step tree_ways place token ≡ Some next
    → spelled next ≡ (place_spelled place ++ Mark t.ClosingTag ∷ []) ++ token ∷ []
unfolding closing_opened_step
closing_opened_kept place (Word at name) next h = at_state _ next _ h (simp append_assoc)
closing_opened_kept place _ next h = cc

closing_named_kept : (at : ℕ) (name : List ℕ) (place : TreePlace) (token : Token) (next : TreeState) → closing_named_step tree_ways at name place token ≡ Some next
    → spelled next ≡ (place_spelled place ++ Mark t.ClosingTag ∷ Word at name ∷ []) ++ token ∷ []
unfolding closing_named_step expr_tokens
closing_named_kept at name place (Mark t.TagEnd) next h = at_state _ next _ h (simp append_assoc)
closing_named_kept at name place _ next h = cc

repeat_kept : (atom : ExprTree Atom) (at : ℕ) (counting : Counting) (place : TreePlace) (token : Token) (next : TreeState) → repeat_step tree_ways atom at counting place token ≡ Some next
    → spelled next ≡ (place_spelled place ++ (expr_tokens atom ++ OpenCurly at ∷ counting_spelled counting)) ++ token ∷ []
unfolding repeat_step expr_tokens
repeat_kept atom at Opened place (Number n_at n) next h = at_state _ next _ h (simp append_assoc)
repeat_kept atom at (Least n_at n) place (Mark t.CloseCurly) next h = at_state _ next _ h (item_spelled (tree.Repeated atom (tree.Exactly at n_at n)) place ∙ simp append_assoc)
repeat_kept atom at (Least n_at n) place (Mark t.Comma) next h = at_state _ next _ h (simp append_assoc)
repeat_kept atom at (LeastComma n_at n) place (Mark t.CloseCurly) next h = at_state _ next _ h (item_spelled (tree.Repeated atom (tree.From at n_at n)) place ∙ simp append_assoc)
repeat_kept atom at (LeastComma n_at n) place (Number m_at m) next h = at_state _ next _ h (simp append_assoc)
repeat_kept atom at (Most n_at n m_at m) place (Mark t.CloseCurly) next h = at_state _ next _ h (item_spelled (tree.Repeated atom (tree.Between at n_at n m_at m)) place ∙ simp append_assoc)
repeat_kept atom at counting place _ next h = cc

-- what stands before a token that ends a choice
abbrev choice_spelled : ExprTree Choice → List TreeGroup → List TreeHead → List Token
choice_spelled choice groups heads = heads_spelled heads ++ (groups_spelled groups ++ expr_tokens choice)

filters_closed : (choice : ExprTree Choice) (filters : FilterTree Filters) (heads : List TreeHead) (next : TreeState) → close_filters tree_ways choice filters heads ≡ Some next
    → spelled next ≡ (outside heads ++ (expr_tokens choice ++ filter_tokens filters)) ++ Mark t.CloseRound ∷ []
unfolding close_filters filter_tokens
filters_closed choice filters [] next h = cc
filters_closed choice filters (head ∷ heads) next h =
    at_state _ next _ h (rw (filters_of_spelled head.filters head.op (tree.WithFilters choice filters)) (simp append_assoc))

operand_spelled : (head : TreeHead) (choice : ExprTree Choice) → filter_tokens (with_operand tree_ways head choice) ≡ maybe_filters head.filters ++ (op_tokens head.op ++ expr_tokens choice)
unfolding filter_tokens
operand_spelled head choice = filters_of_spelled head.filters head.op (tree.Plain choice)

choice_closed : (choice : ExprTree Choice) (groups : List TreeGroup) (heads : List TreeHead) (next : TreeState) → close_choice tree_ways choice groups heads ≡ Some next
    → spelled next ≡ choice_spelled choice groups heads ++ Mark t.CloseRound ∷ []
unfolding close_choice expr_tokens
choice_closed choice (group ∷ groups) heads next h = at_state _ next _ h (simp append_assoc)
choice_closed choice [] [] next h = cc
choice_closed choice [] (head ∷ heads) next h =
    filters_closed head.choice (with_operand tree_ways head choice) heads next h ∙ rw (operand_spelled head choice) (simp append_assoc)

found_before : (asked a : TreeAsked) (others o : List TreeHead) (text : List Token) → ◌≡◌ {A = Option (TreeAsked × List TreeHead)} (Some (asked, others)) (Some (a, o))
    → outside others ++ asked_spelled asked ≡ text → outside o ++ asked_spelled a ≡ text
found_before asked a others o text h e =
    let k : ◌≡◌ {A = TreeAsked × List TreeHead} (asked, others) (a, o) = cc in
    ap (λ (p : TreeAsked × List TreeHead). outside p.1 ++ asked_spelled p.0) (sym k) ∙ e

operand_opened : (choice : ExprTree Choice) (sequence : Option (ExprTree Sequence)) (branches : Option (ExprTree Choice)) (head : TreeHead) (heads : List TreeHead) (a : TreeAsked)
    (o : List TreeHead) → opened_operand choice sequence branches (head ∷ heads) ≡ Some (a, o)
    → outside o ++ asked_spelled a ≡ heads_spelled (head ∷ heads) ++ (((branches_spelled branches ++ sequence_spelled sequence) ++ Mark t.OpenRound ∷ []) ++ expr_tokens choice)
unfolding opened_operand
operand_opened choice None None head heads a o h = found_before _ a _ o _ h (simp (append_assoc, append-nil))
operand_opened choice (Some s) b head heads a o h = cc
operand_opened choice None (Some b) head heads a o h = cc

pub before_kept : (choice : ExprTree Choice) (groups : List TreeGroup) (heads : List TreeHead) (a : TreeAsked) (o : List TreeHead) → before_op tree_ways choice groups heads ≡ Some (a, o)
    → outside o ++ asked_spelled a ≡ choice_spelled choice groups heads
unfolding before_op
before_kept choice [] [] a o h = found_before _ a _ o _ h (simp append-nil)
before_kept choice [] (head ∷ heads) a o h = found_before _ a _ o _ h (rw (operand_spelled head choice) (simp append_assoc))
before_kept choice (group ∷ []) (head ∷ heads) a o h =
    operand_opened choice group.sequence group.branches head heads a o h
before_kept choice _ _ a o h = cc

found_asked : (asked a : TreeAsked) (text : List Token) → Some asked ≡ Some a → asked_spelled asked ≡ text → asked_spelled a ≡ text
found_asked asked a text h e = let k : asked ≡ a = cc in ap asked_spelled (sym k) ∙ e

pub asked_kept : (choice : ExprTree Choice) (groups : List TreeGroup) (heads : List TreeHead) (a : TreeAsked) → asked_of tree_ways choice groups heads ≡ Some a
    → asked_spelled a ≡ choice_spelled choice groups heads
unfolding asked_of
asked_kept choice [] [] a h = found_asked _ a _ h (simp append-nil)
asked_kept choice [] (head ∷ []) a h = found_asked _ a _ h (rw (operand_spelled head choice) (simp append_assoc))
asked_kept choice _ _ a h = cc

asked_filters_kept : (choice : ExprTree Choice) (filters : FilterTree Filters) (heads : List TreeHead) (a : TreeAsked) → asked_filters tree_ways choice filters heads ≡ Some a
    → asked_spelled a ≡ outside heads ++ (expr_tokens choice ++ filter_tokens filters)
unfolding asked_filters
asked_filters_kept choice filters [] a h = found_asked _ a _ h refl
asked_filters_kept choice filters (head ∷ heads) a h = cc

bang_kept : (found : Option (TreeAsked × List TreeHead)) (text : List Token) (next : TreeState) → bang tree_ways found ≡ Some next
    → ((a : TreeAsked) (o : List TreeHead) → found ≡ Some (a, o) → outside o ++ asked_spelled a ≡ text) → spelled next ≡ text ++ Mark t.Bang ∷ []
unfolding bang
bang_kept None text next h k = cc
bang_kept (Some (a, o)) text next h k = at_state _ next _ h (rw (← k a o refl) (simp append_assoc))

-- an op with its words
pub same_name : (a b : List ℕ) → pointwise nat_eq a b ≡ true → a ≡ b
same_name a b h = (bytes_eq-Decides a b).0 h

op_kept : (at : ℕ) (name : List ℕ) (op : Op) → op_of at name ≡ Some op → op_tokens op ≡ Word at name ∷ []
op_kept at name op h = go (pointwise nat_eq name (codes "within")) refl (pointwise nat_eq name (codes "containing")) refl h
  where
    go : (first : Bool) → pointwise nat_eq name (codes "within") ≡ first → (second : Bool) → pointwise nat_eq name (codes "containing") ≡ second
        → cond first (Some (Within at)) (cond second (Some (Containing at)) None) ≡ Some op → op_tokens op ≡ Word at name ∷ []
    go true e second f h = let k : Within at ≡ op = cc in ap op_tokens (sym k) ∙ ap (λ x. Word at x ∷ []) (sym (same_name name (codes "within") e))
    go false e true f h = let k : Containing at ≡ op = cc in ap op_tokens (sym k) ∙ ap (λ x. Word at x ∷ []) (sym (same_name name (codes "containing") f))
    go false e false f h = cc

not_op_kept : (at : ℕ) (name : List ℕ) (op : Op) → not_op_of at name ≡ Some op → op_tokens op ≡ Mark t.Bang ∷ Word at name ∷ []
not_op_kept at name op h = go (pointwise nat_eq name (codes "within")) refl (pointwise nat_eq name (codes "containing")) refl h
  where
    go : (first : Bool) → pointwise nat_eq name (codes "within") ≡ first → (second : Bool) → pointwise nat_eq name (codes "containing") ≡ second
        → cond first (Some (NotWithin at)) (cond second (Some (NotContaining at)) None) ≡ Some op → op_tokens op ≡ Mark t.Bang ∷ Word at name ∷ []
    go true e second f h = let k : NotWithin at ≡ op = cc in ap op_tokens (sym k) ∙ ap (λ x. Mark t.Bang ∷ Word at x ∷ []) (sym (same_name name (codes "within") e))
    go false e true f h = let k : NotContaining at ≡ op = cc in ap op_tokens (sym k) ∙ ap (λ x. Mark t.Bang ∷ Word at x ∷ []) (sym (same_name name (codes "containing") f))
    go false e false f h = cc

filtered_kept : (op : Option Op) (found : Option (TreeAsked × List TreeHead)) (text more : List Token) (next : TreeState) → filtered tree_ways op found ≡ Some next
    → ((a : TreeAsked) (o : List TreeHead) → found ≡ Some (a, o) → outside o ++ asked_spelled a ≡ text) → ((o : Op) → op ≡ Some o → op_tokens o ≡ more) → spelled next ≡ text ++ more
unfolding filtered
filtered_kept (Some op) (Some (a, o)) text more next h k l = at_state _ next _ h (rw (← k a o refl, ← l op refl) (simp (append_assoc, append-nil)))
filtered_kept None found text more next h k l = cc
filtered_kept (Some op) None text more next h k l = cc

cond_begun : (found : Option TreeAsked) (text : List Token) (next : TreeState) → cond_begins tree_ways found [] ≡ Some next
    → ((a : TreeAsked) → found ≡ Some a → asked_spelled a ≡ text) → spelled next ≡ text ++ Mark t.And ∷ []
unfolding cond_begins
cond_begun None text next h k = cc
cond_begun (Some a) text next h k = at_state _ next _ h (rw (k a refl) refl)

-- what stands before a token behind an item
abbrev items_spelled : ExprTree Sequence → Option (ExprTree Choice) → Around ExprTree FilterTree → List Token
items_spelled sequence branches around = heads_spelled around.heads ++ (groups_spelled around.groups ++ (branches_spelled branches ++ expr_tokens sequence))

items_end : (sequence : ExprTree Sequence) (branches : Option (ExprTree Choice)) (around : Around ExprTree FilterTree)
    → choice_spelled (choice_of tree_ways branches sequence) around.groups around.heads ≡ items_spelled sequence branches around
items_end sequence branches around = rw (choice_of_spelled branches sequence) refl

read_begin_kept : (sequence : ExprTree Sequence) (branches : Option (ExprTree Choice)) (around : Around ExprTree FilterTree) (token : Token) (next : TreeState)
    → begin_step tree_ways (record { before = record { sequence = Some sequence; branches = branches }; around = around }) token ≡ Some next
    → spelled next ≡ items_spelled sequence branches around ++ token ∷ []
read_begin_kept sequence branches around token next h =
    begin_kept (record { before = record { sequence = Some sequence; branches = branches }; around = around }) token next h

read_kept : (sequence : ExprTree Sequence) (branches : Option (ExprTree Choice)) (around : Around ExprTree FilterTree) (token : Token) (next : TreeState)
    → read_step tree_ways sequence branches around token ≡ Some next → spelled next ≡ items_spelled sequence branches around ++ token ∷ []
unfolding read_step
read_kept sequence branches around (Mark t.Bar) next h = at_state _ next _ h (rw (choice_of_spelled branches sequence) (simp (append_assoc, append-nil)))
read_kept sequence branches around (Mark t.CloseRound) next h =
    choice_closed (choice_of tree_ways branches sequence) around.groups around.heads next h ∙ rw (items_end sequence branches around) refl
read_kept sequence branches around (Mark t.Bang) next h =
    bang_kept _ _ next h (λ a o e. before_kept (choice_of tree_ways branches sequence) around.groups around.heads a o e ∙ items_end sequence branches around)
read_kept sequence branches around (Mark t.And) next h =
    cond_begun _ _ next h (λ a e. asked_kept (choice_of tree_ways branches sequence) around.groups around.heads a e ∙ items_end sequence branches around)
read_kept sequence branches around (Word at name) next h =
    filtered_kept _ _ _ _ next h (λ a o e. before_kept (choice_of tree_ways branches sequence) around.groups around.heads a o e ∙ items_end sequence branches around) (λ op e. op_kept at name op e)
read_kept sequence branches around token next h = read_begin_kept sequence branches around token next h

atom_end : (atom : ExprTree Atom) (place : TreePlace)
    → items_spelled (sequence_of tree_ways place.before.sequence (tree.Once atom)) place.before.branches place.around ≡ place_spelled place ++ expr_tokens atom
unfolding expr_tokens
atom_end atom place = item_spelled (tree.Once atom) place

atom_kept : (atom : ExprTree Atom) (place : TreePlace) (token : Token) (next : TreeState) → atom_step tree_ways atom place token ≡ Some next
    → spelled next ≡ (place_spelled place ++ expr_tokens atom) ++ token ∷ []
unfolding atom_step expr_tokens
atom_kept atom place (Mark t.Star) next h = at_state _ next _ h (item_spelled (tree.Repeated atom tree.Star) place ∙ simp append_assoc)
atom_kept atom place (Mark t.Plus) next h = at_state _ next _ h (item_spelled (tree.Repeated atom tree.Plus) place ∙ simp append_assoc)
atom_kept atom place (Mark t.Question) next h = at_state _ next _ h (item_spelled (tree.Repeated atom tree.Question) place ∙ simp append_assoc)
atom_kept atom place (OpenCurly at) next h = at_state _ next _ h (simp append_assoc)
atom_kept atom place token next h =
    read_kept (sequence_of tree_ways place.before.sequence (tree.Once atom)) place.before.branches place.around token next h ∙ rw (atom_end atom place) refl

filters_kept : (choice : ExprTree Choice) (filters : FilterTree Filters) (heads : List TreeHead) (token : Token) (next : TreeState) → filters_step tree_ways choice filters heads token ≡ Some next
    → spelled next ≡ (outside heads ++ (expr_tokens choice ++ filter_tokens filters)) ++ token ∷ []
unfolding filters_step
filters_kept choice filters heads (Mark t.CloseRound) next h = filters_closed choice filters heads next h
filters_kept choice filters heads (Mark t.Bang) next h = at_state _ next _ h (simp append_assoc)
filters_kept choice filters heads (Mark t.And) next h = cond_begun _ _ next h (λ a e. asked_filters_kept choice filters heads a e)
filters_kept choice filters heads (Word at name) next h =
    filtered_kept _ _ _ _ next h (λ a o e. found_before _ a _ o _ e refl) (λ op e. op_kept at name op e)
filters_kept choice filters heads _ next h = cc

bang_read_kept : (asked : TreeAsked) (heads : List TreeHead) (token : Token) (next : TreeState) → bang_step tree_ways asked heads token ≡ Some next
    → spelled next ≡ (outside heads ++ (asked_spelled asked ++ Mark t.Bang ∷ [])) ++ token ∷ []
unfolding bang_step
bang_read_kept asked heads (Word at name) next h =
    filtered_kept _ _ _ _ next h (λ a o e. found_before _ a _ o _ e refl) (λ op e. not_op_kept at name op e) ∙ simp append_assoc
bang_read_kept asked heads _ next h = cc

cond_kept : (asked : TreeAsked) (conds : List CondTree) (cond : Condition) (token : Token) (next : TreeState) → cond_step tree_ways asked conds cond token ≡ Some next
    → spelled next ≡ (asked_spelled asked ++ (conds_tokens conds ++ Mark t.And ∷ condition_spelled cond)) ++ token ∷ []
unfolding cond_step in_cond left_step sign_step right_step
cond_kept asked conds (Left Started) (Number at n) next h = at_state _ next _ h (simp append_assoc)
cond_kept asked conds (Left (Numbered at number)) (Mark t.Dot) next h = at_state _ next _ h (simp append_assoc)
cond_kept asked conds (Left (Dotted at number)) (Word name_at name) next h = at_state _ next _ h (simp append_assoc)
cond_kept asked conds (LeftRead left) (Mark t.Is) next h = at_state _ next _ h (simp append_assoc)
cond_kept asked conds (LeftRead left) (Mark t.IsNot) next h = at_state _ next _ h (simp append_assoc)
cond_kept asked conds (Right left equal Started) (Number at n) next h = at_state _ next _ h (simp append_assoc)
cond_kept asked conds (Right left equal (Numbered at number)) (Mark t.Dot) next h = at_state _ next _ h (simp append_assoc)
cond_kept asked conds (Right left equal (Dotted at number)) (Word name_at name) next h =
    at_state _ next _ h (ap (λ x. asked_spelled asked ++ x) (conds_more conds (cond_tree left equal (record { at = at; number = number; name_at = name_at; name = name }))) ∙ simp append_assoc)
cond_kept asked conds cond _ next h = cc

conds_kept : (asked : TreeAsked) (conds : List CondTree) (token : Token) (next : TreeState) → conds_step tree_ways asked conds token ≡ Some next
    → spelled next ≡ (asked_spelled asked ++ conds_tokens conds) ++ token ∷ []
unfolding conds_step
conds_kept asked conds (Mark t.And) next h = at_state _ next _ h (simp append_assoc)
conds_kept asked conds _ next h = cc

-- each step is its token
pub step_kept : (state : TreeState) (token : Token) (next : TreeState) → step tree_ways state token ≡ Some next → spelled next ≡ spelled state ++ token ∷ []
unfolding step
step_kept (Wanted place) token next h = begin_kept place token next h
step_kept (LabelRead at number place) token next h = label_kept at number place token next h
step_kept (LabelDone at number place) token next h = labelled_kept at number place token next h
step_kept (TokenOpened label place) token next h = opened_kept label place token next h
step_kept (InToken label test place) token next h = token_kept label test place token next h
step_kept (TagOpened place) token next h = tag_opened_kept place token next h
step_kept (TagNamed at name place) token next h = named_kept at name place token next h
step_kept (InTag at name test place) token next h = tag_kept at name test place token next h
step_kept (ClosingOpened place) token next h = closing_opened_kept place token next h
step_kept (ClosingNamed at name place) token next h = closing_named_kept at name place token next h
step_kept (AtomRead atom place) token next h = atom_kept atom place token next h
step_kept (InRepeat atom at counting place) token next h = repeat_kept atom at counting place token next h
step_kept (ItemRead sequence branches around) token next h = read_kept sequence branches around token next h
step_kept (FiltersRead choice filters heads) token next h = filters_kept choice filters heads token next h
step_kept (BangRead asked heads) token next h = bang_read_kept asked heads token next h
step_kept (InCond asked conds cond) token next h = cond_kept asked conds cond token next h
step_kept (CondRead asked conds) token next h = conds_kept asked conds token next h

-- and so all of them
pub run_kept : (state : TreeState) (tokens : List Token) (next : TreeState) → run tree_ways state tokens ≡ Some next → spelled next ≡ spelled state ++ tokens
unfolding run
run_kept state [] next h = at_state _ next _ h (sym (append-nil (spelled state)))
run_kept state (token ∷ tokens) next h = go (step tree_ways state token) refl h (λ middle e. run_kept middle tokens next e)
  where
    go : (found : Option TreeState) → step tree_ways state token ≡ found → and_then found (λ middle. run tree_ways middle tokens) ≡ Some next
        → ((middle : TreeState) → run tree_ways middle tokens ≡ Some next → spelled next ≡ spelled middle ++ tokens) → spelled next ≡ spelled state ++ token ∷ tokens
    go None e h k = cc
    go (Some middle) e h k = k middle h ∙ rw (step_kept state token middle e) (append_assoc (spelled state) (token ∷ []) tokens)

finish_asked : (asked : TreeAsked) (conds : List CondTree) → query_tokens (query_of tree_ways asked conds) ≡ asked_spelled asked ++ conds_tokens conds
finish_asked asked conds = go asked.filters
  where
    go : (filters : Option (FilterTree Filters))
        → query_tokens (elim filters [ Some f ↦ tree.AsksFiltered asked.choice f conds | None ↦ tree.Asks asked.choice conds ]) ≡ (expr_tokens asked.choice ++ maybe_filters filters) ++ conds_tokens conds
    go None = simp append-nil
    go (Some f) = simp append_assoc

ends_spelled : (found : Option TreeAsked) (conds : List CondTree) (query : QueryTree) (text : List Token) → ends tree_ways found conds ≡ Some query
    → ((a : TreeAsked) → found ≡ Some a → asked_spelled a ≡ text) → query_tokens query ≡ text ++ conds_tokens conds
unfolding ends
ends_spelled None conds query text h k = cc
ends_spelled (Some a) conds query text h k = let e : query_of tree_ways a conds ≡ query = cc in ap query_tokens (sym e) ∙ finish_asked a conds ∙ rw (k a refl) refl

-- the query that was read is written with the tokens
pub finish_spelled : (state : TreeState) (query : QueryTree) → finish tree_ways state ≡ Some query → query_tokens query ≡ spelled state
unfolding finish
finish_spelled (AtomRead atom place) query h =
    ends_spelled _ [] query _ h (λ a e. asked_kept _ place.around.groups place.around.heads a e
    ∙ items_end (sequence_of tree_ways place.before.sequence (tree.Once atom)) place.before.branches place.around ∙ atom_end atom place) ∙ append-nil _
finish_spelled (ItemRead sequence branches around) query h =
    ends_spelled _ [] query _ h (λ a e. asked_kept _ around.groups around.heads a e ∙ items_end sequence branches around) ∙ append-nil _
finish_spelled (FiltersRead choice filters heads) query h = ends_spelled _ [] query _ h (λ a e. asked_filters_kept choice filters heads a e) ∙ append-nil _
finish_spelled (CondRead asked conds) query h = let e : query_of tree_ways asked conds ≡ query = cc in ap query_tokens (sym e) ∙ finish_asked asked conds
finish_spelled _ query h = cc
