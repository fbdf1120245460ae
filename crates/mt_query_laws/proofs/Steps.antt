-- The steps of the parser on what it keeps are its steps on the productions.
use Rattle.std.proofs.Common.{ℕ, ◌≡◌, List, [], ◌∷◌, None, Some, Option, refl, ◌∙◌, ap}
use Rattle.mt_text_spec.specs.Registries.{Registry, attr_names}
use Rattle.mt_query_spec.specs.Tokens.{Token, Quoted, Number, Word, OpenCurly, Mark, Sign}
use Rattle.mt_query_spec.specs.Tokens as t
use Rattle.mt_query_spec.specs.Trees as tree
use Rattle.mt_query_spec.specs.Trees.{Tested, OfToken, OfTag, TestTree, TestRank, Whole, Label, NoLabel, Labelled, Repetition, Rank, Atom, Item, Sequence, Choice, ExprTree, Op, Filtered, Operand, Filters, FilterTree, CondTree, QueryTree}
use Rattle.mt_query_spec.specs.Meaning.{attrs_of_kind}
use Rattle.mt_query_spec.specs.Verdicts.{verdict}
use Rattle.mt_query_laws.specs.Machine.{and_then, TestState, test_step, test_start, whole_test}
use Rattle.mt_query_laws.specs.Parts.{TestParts, Parts, FilterParts, CondsPart, part_ways}
use Rattle.mt_query_laws.specs.Exprs.{Group, Head, Around, Place, Counting, Opened, Least, LeastComma, Most, Condition, Left, LeftRead, Right, Dotted, Asked, State, Wanted, LabelRead, LabelDone, TokenOpened, InToken, TagOpened, TagNamed, InTag, ClosingOpened, ClosingNamed, AtomRead, InRepeat, ItemRead, FiltersRead, BangRead, InCond, CondRead, op_of, not_op_of, opened_operand}
use Rattle.mt_query_laws.specs.Exprs.{sequence_of, choice_of, filters_of, item_read, begin_step, labelled_step, in_token, token_read, token_step, opened_step, in_tag, begin_read, whole_read, tag_step, named_step, tag_opened_step, closing_opened_step, closing_named_step, label_step, repeat_step, close_filters, with_operand, close_choice, before_op, asked_of, asked_filters, bang, filtered, cond_begins, read_step, atom_step, filters_step, bang_step, cond_tree, left_step, sign_step, right_step, in_cond, cond_step, conds_step, step, run, query_of, ends, finish}
use Rattle.mt_query_laws.proofs.Building.{tree_ways}
use Rattle.mt_query_laws.proofs.Spelling.{TreeState, TreePlace, TreeHead, TreeGroup, TreeAsked}
use Rattle.mt_query_laws.proofs.Reading.{TreeAround}
use Rattle.mt_query_laws.proofs.PartLaws.{seen, test_part, seen_test, test_step_seen, whole_seen, part_of, filters_part_of, operand_of, conds_of, token_same, begin_same, whole_same, string_same, end_same, repeated_same, then_same, or_same, plain_same, with_filters_same, filter_same, more_same, cond_same, asks_same, asks_filtered_same}

-- where the parser stands, by what it keeps
abbrev pub PartState : Type 0
PartState = State (λ of. TestParts) Parts FilterParts CondsPart

module _ (registry : Registry) (default : ℕ) where
  abbrev pub seen_group : TreeGroup → Group Parts
  seen_group g = record { sequence = seen (part_of registry default) g.sequence; branches = seen (part_of registry default) g.branches }

  abbrev pub seen_groups : List TreeGroup → List (Group Parts)
  seen_groups [] = []
  seen_groups (g ∷ gs) = seen_group g ∷ seen_groups gs

  abbrev pub seen_head : TreeHead → Head Parts FilterParts
  seen_head h = record { choice = part_of registry default h.choice; filters = seen (filters_part_of registry default) h.filters; op = h.op }

  abbrev pub seen_heads : List TreeHead → List (Head Parts FilterParts)
  seen_heads [] = []
  seen_heads (h ∷ hs) = seen_head h ∷ seen_heads hs

  abbrev pub seen_around : TreeAround → Around Parts FilterParts
  seen_around a = record { groups = seen_groups a.groups; heads = seen_heads a.heads }

  abbrev pub seen_place : TreePlace → Place Parts FilterParts
  seen_place p = record { before = seen_group p.before; around = seen_around p.around }

  abbrev pub seen_asked : TreeAsked → Asked Parts FilterParts
  seen_asked a = record { choice = part_of registry default a.choice; filters = seen (filters_part_of registry default) a.filters }

  abbrev pub seen_state : TreeState → PartState
  seen_state (Wanted place) = Wanted (seen_place place)
  seen_state (LabelRead at number place) = LabelRead at number (seen_place place)
  seen_state (LabelDone at number place) = LabelDone at number (seen_place place)
  seen_state (TokenOpened label place) = TokenOpened label (seen_place place)
  seen_state (InToken label test place) = InToken label (seen_test (attr_names registry.attrs) default test) (seen_place place)
  seen_state (TagOpened place) = TagOpened (seen_place place)
  seen_state (TagNamed at name place) = TagNamed at name (seen_place place)
  seen_state (InTag at name test place) = InTag at name (seen_test (attrs_of_kind registry name) default test) (seen_place place)
  seen_state (ClosingOpened place) = ClosingOpened (seen_place place)
  seen_state (ClosingNamed at name place) = ClosingNamed at name (seen_place place)
  seen_state (AtomRead atom place) = AtomRead (part_of registry default atom) (seen_place place)
  seen_state (InRepeat atom at counting place) = InRepeat (part_of registry default atom) at counting (seen_place place)
  seen_state (ItemRead sequence branches around) = ItemRead (part_of registry default sequence) (seen (part_of registry default) branches) (seen_around around)
  seen_state (FiltersRead choice filters heads) = FiltersRead (part_of registry default choice) (filters_part_of registry default filters) (seen_heads heads)
  seen_state (BangRead asked heads) = BangRead (seen_asked asked) (seen_heads heads)
  seen_state (InCond asked conds cond) = InCond (seen_asked asked) (conds_of registry asked.choice conds) cond
  seen_state (CondRead asked conds) = CondRead (seen_asked asked) (conds_of registry asked.choice conds)

  abbrev Alike : Option PartState → Option TreeState → Type 0
  Alike parts trees = parts ≡ seen seen_state trees

  sequence_seen : (left : Option (ExprTree Sequence)) (item : ExprTree Item)
      → sequence_of (part_ways registry default) (seen (part_of registry default) left) (part_of registry default item) ≡ part_of registry default (sequence_of tree_ways left item)
  sequence_seen None item = refl
  sequence_seen (Some left) item = then_same registry default left item

  choice_seen : (left : Option (ExprTree Choice)) (sequence : ExprTree Sequence)
      → choice_of (part_ways registry default) (seen (part_of registry default) left) (part_of registry default sequence) ≡ part_of registry default (choice_of tree_ways left sequence)
  choice_seen None sequence = refl
  choice_seen (Some left) sequence = or_same registry default left sequence

  filters_seen : (left : Option (FilterTree Filters)) (op : Op) (operand : FilterTree Operand)
      → filters_of (part_ways registry default) (seen (filters_part_of registry default) left) op (operand_of registry default operand) ≡ filters_part_of registry default (filters_of tree_ways left op operand)
  filters_seen None op operand = filter_same registry default op operand
  filters_seen (Some left) op operand = more_same registry default left op operand

  item_seen : (item : ExprTree Item) (place : TreePlace)
      → item_read (part_ways registry default) (part_of registry default item) (seen_place place) ≡ seen_state (item_read tree_ways item place)
  item_seen item place = ap (λ s. ItemRead s (seen (part_of registry default) place.before.branches) (seen_around place.around)) (sequence_seen place.before.sequence item)

  begin_seen : (place : TreePlace) (token : Token) → Alike (begin_step (part_ways registry default) (seen_place place) token) (begin_step tree_ways place token)
  unfolding begin_step
  begin_seen place (Number at number) = refl
  begin_seen place (Quoted content) = ap (λ a. Some (AtomRead a (seen_place place))) (string_same registry default NoLabel content)
  begin_seen place (Mark t.OpenSquare) = refl
  begin_seen place (Mark t.TagBegin) = refl
  begin_seen place (Mark t.ClosingTag) = refl
  begin_seen place (Mark t.OpenRound) = refl
  begin_seen place _ = refl

  labelled_seen : (at number : ℕ) (place : TreePlace) (token : Token) → Alike (labelled_step (part_ways registry default) at number (seen_place place) token) (labelled_step tree_ways at number place token)
  unfolding labelled_step
  labelled_seen at number place (Quoted content) = ap (λ a. Some (AtomRead a (seen_place place))) (string_same registry default (Labelled at number) content)
  labelled_seen at number place (Mark t.OpenSquare) = refl
  labelled_seen at number place _ = refl

  label_seen : (at number : ℕ) (place : TreePlace) (token : Token) → Alike (label_step (part_ways registry default) at number (seen_place place) token) (label_step tree_ways at number place token)
  unfolding label_step
  label_seen at number place (Mark t.Colon) = refl
  label_seen at number place _ = refl

  in_token_seen : (label : Label) (place : TreePlace) (found : Option (TestState (TestTree OfToken)))
      → Alike (in_token (part_ways registry default) label (seen_place place) (seen (seen_test (attr_names registry.attrs) default) found)) (in_token tree_ways label place found)
  unfolding in_token
  in_token_seen label place None = refl
  in_token_seen label place (Some test) = refl

  token_read_seen : (label : Label) (place : TreePlace) (found : Option (TestTree OfToken Whole))
      → Alike (token_read (part_ways registry default) label (seen_place place) (seen (test_part (attr_names registry.attrs) default) found)) (token_read tree_ways label place found)
  unfolding token_read
  token_read_seen label place None = refl
  token_read_seen label place (Some test) = ap (λ a. Some (AtomRead a (seen_place place))) (token_same registry default label (Some test))

  in_token_step_seen : (label : Label) (test : TestState (TestTree OfToken)) (place : TreePlace) (token : Token)
      → Alike (in_token (part_ways registry default) label (seen_place place) (test_step (part_ways registry default).token_tests (seen_test (attr_names registry.attrs) default test) token))
      (in_token tree_ways label place (test_step tree_ways.token_tests test token))
  in_token_step_seen label test place token =
      ap (λ x. in_token (part_ways registry default) label (seen_place place) x) (test_step_seen (attr_names registry.attrs) default {of = OfToken} test token)
      ∙ in_token_seen label place (test_step tree_ways.token_tests test token)

  token_seen : (label : Label) (test : TestState (TestTree OfToken)) (place : TreePlace) (token : Token)
      → Alike (token_step (part_ways registry default) label (seen_test (attr_names registry.attrs) default test) (seen_place place) token) (token_step tree_ways label test place token)
  unfolding token_step
  token_seen label test place (Mark t.CloseSquare) =
      ap (λ x. token_read (part_ways registry default) label (seen_place place) x) (whole_seen (attr_names registry.attrs) default {of = OfToken} test)
      ∙ token_read_seen label place (whole_test tree_ways.token_tests test)
  token_seen label test place token = in_token_step_seen label test place token

  opened_seen : (label : Label) (place : TreePlace) (token : Token) → Alike (opened_step (part_ways registry default) label (seen_place place) token) (opened_step tree_ways label place token)
  unfolding opened_step
  opened_seen label place (Mark t.CloseSquare) = ap (λ a. Some (AtomRead a (seen_place place))) (token_same registry default label None)
  opened_seen label place token = in_token_step_seen label test_start place token

  in_tag_seen : (at : ℕ) (name : List ℕ) (place : TreePlace) (found : Option (TestState (TestTree OfTag)))
      → Alike (in_tag (part_ways registry default) at name (seen_place place) (seen (seen_test (attrs_of_kind registry name) default) found)) (in_tag tree_ways at name place found)
  unfolding in_tag
  in_tag_seen at name place None = refl
  in_tag_seen at name place (Some test) = refl

  begin_read_seen : (at : ℕ) (name : List ℕ) (place : TreePlace) (found : Option (TestTree OfTag Whole))
      → Alike (begin_read (part_ways registry default) at name (seen_place place) (seen (test_part (attrs_of_kind registry name) default) found)) (begin_read tree_ways at name place found)
  unfolding begin_read
  begin_read_seen at name place None = refl
  begin_read_seen at name place (Some test) = ap (λ a. Some (AtomRead a (seen_place place))) (begin_same registry default at name (Some test))

  whole_read_seen : (at : ℕ) (name : List ℕ) (place : TreePlace) (found : Option (TestTree OfTag Whole))
      → Alike (whole_read (part_ways registry default) at name (seen_place place) (seen (test_part (attrs_of_kind registry name) default) found)) (whole_read tree_ways at name place found)
  unfolding whole_read
  whole_read_seen at name place None = refl
  whole_read_seen at name place (Some test) = ap (λ a. Some (AtomRead a (seen_place place))) (whole_same registry default at name (Some test))

  in_tag_step_seen : (at : ℕ) (name : List ℕ) (test : TestState (TestTree OfTag)) (place : TreePlace) (token : Token)
      → Alike (in_tag (part_ways registry default) at name (seen_place place) (test_step ((part_ways registry default).tag_tests name) (seen_test (attrs_of_kind registry name) default test) token))
      (in_tag tree_ways at name place (test_step (tree_ways.tag_tests name) test token))
  in_tag_step_seen at name test place token =
      ap (λ x. in_tag (part_ways registry default) at name (seen_place place) x) (test_step_seen (attrs_of_kind registry name) default {of = OfTag} test token)
      ∙ in_tag_seen at name place (test_step (tree_ways.tag_tests name) test token)

  tag_seen : (at : ℕ) (name : List ℕ) (test : TestState (TestTree OfTag)) (place : TreePlace) (token : Token)
      → Alike (tag_step (part_ways registry default) at name (seen_test (attrs_of_kind registry name) default test) (seen_place place) token) (tag_step tree_ways at name test place token)
  unfolding tag_step
  tag_seen at name test place (Mark t.TagEnd) =
      ap (λ x. begin_read (part_ways registry default) at name (seen_place place) x) (whole_seen (attrs_of_kind registry name) default {of = OfTag} test)
      ∙ begin_read_seen at name place (whole_test (tree_ways.tag_tests name) test)
  tag_seen at name test place (Mark t.WholeEnd) =
      ap (λ x. whole_read (part_ways registry default) at name (seen_place place) x) (whole_seen (attrs_of_kind registry name) default {of = OfTag} test)
      ∙ whole_read_seen at name place (whole_test (tree_ways.tag_tests name) test)
  tag_seen at name test place token = in_tag_step_seen at name test place token

  named_seen : (at : ℕ) (name : List ℕ) (place : TreePlace) (token : Token) → Alike (named_step (part_ways registry default) at name (seen_place place) token) (named_step tree_ways at name place token)
  unfolding named_step
  named_seen at name place (Mark t.TagEnd) = ap (λ a. Some (AtomRead a (seen_place place))) (begin_same registry default at name None)
  named_seen at name place (Mark t.WholeEnd) = ap (λ a. Some (AtomRead a (seen_place place))) (whole_same registry default at name None)
  named_seen at name place token = in_tag_step_seen at name test_start place token

  tag_opened_seen : (place : TreePlace) (token : Token) → Alike (tag_opened_step (part_ways registry default) (seen_place place) token) (tag_opened_step tree_ways place token)
  unfolding tag_opened_step
  tag_opened_seen place (Word at name) = refl
  tag_opened_seen place _ = refl

  closing_opened_seen : (place : TreePlace) (token : Token) → Alike (closing_opened_step (part_ways registry default) (seen_place place) token) (closing_opened_step tree_ways place token)
  unfolding closing_opened_step
  closing_opened_seen place (Word at name) = refl
  closing_opened_seen place _ = refl

  closing_named_seen : (at : ℕ) (name : List ℕ) (place : TreePlace) (token : Token)
      → Alike (closing_named_step (part_ways registry default) at name (seen_place place) token) (closing_named_step tree_ways at name place token)
  unfolding closing_named_step
  closing_named_seen at name place (Mark t.TagEnd) = ap (λ a. Some (AtomRead a (seen_place place))) (end_same registry default at name)
  closing_named_seen at name place _ = refl

  repeated_seen : (atom : ExprTree Atom) (repetition : Repetition) (place : TreePlace)
      → Alike (Some (item_read (part_ways registry default) ((part_ways registry default).repeated (part_of registry default atom) repetition) (seen_place place)))
      (Some (item_read tree_ways (tree.Repeated atom repetition) place))
  repeated_seen atom repetition place =
      ap (λ i. Some (item_read (part_ways registry default) i (seen_place place))) (repeated_same registry default atom repetition)
      ∙ ap Some (item_seen (tree.Repeated atom repetition) place)

  repeat_seen : (atom : ExprTree Atom) (at : ℕ) (counting : Counting) (place : TreePlace) (token : Token)
      → Alike (repeat_step (part_ways registry default) (part_of registry default atom) at counting (seen_place place) token) (repeat_step tree_ways atom at counting place token)
  unfolding repeat_step
  repeat_seen atom at Opened place (Number n_at n) = refl
  repeat_seen atom at (Least n_at n) place (Mark t.CloseCurly) = repeated_seen atom (tree.Exactly at n_at n) place
  repeat_seen atom at (Least n_at n) place (Mark t.Comma) = refl
  repeat_seen atom at (LeastComma n_at n) place (Mark t.CloseCurly) = repeated_seen atom (tree.From at n_at n) place
  repeat_seen atom at (LeastComma n_at n) place (Number m_at m) = refl
  repeat_seen atom at (Most n_at n m_at m) place (Mark t.CloseCurly) = repeated_seen atom (tree.Between at n_at n m_at m) place
  repeat_seen atom at counting place _ = refl

  operand_seen : (head : TreeHead) (choice : ExprTree Choice)
      → with_operand (part_ways registry default) (seen_head head) (part_of registry default choice) ≡ filters_part_of registry default (with_operand tree_ways head choice)
  operand_seen head choice =
      ap (λ o. filters_of (part_ways registry default) (seen (filters_part_of registry default) head.filters) head.op o) (plain_same registry default choice)
      ∙ filters_seen head.filters head.op (tree.Plain choice)

  close_filters_seen : (choice : ExprTree Choice) (filters : FilterTree Filters) (heads : List TreeHead)
      → Alike (close_filters (part_ways registry default) (part_of registry default choice) (filters_part_of registry default filters) (seen_heads heads)) (close_filters tree_ways choice filters heads)
  unfolding close_filters
  close_filters_seen choice filters [] = refl
  close_filters_seen choice filters (head ∷ heads) =
      ap (λ f. Some (FiltersRead (part_of registry default head.choice) f (seen_heads heads)))
      (ap (λ o. filters_of (part_ways registry default) (seen (filters_part_of registry default) head.filters) head.op o) (with_filters_same registry default choice filters)
      ∙ filters_seen head.filters head.op (tree.WithFilters choice filters))

  close_seen : (choice : ExprTree Choice) (groups : List TreeGroup) (heads : List TreeHead)
      → Alike (close_choice (part_ways registry default) (part_of registry default choice) (seen_groups groups) (seen_heads heads)) (close_choice tree_ways choice groups heads)
  unfolding close_choice
  close_seen choice (group ∷ groups) heads = refl
  close_seen choice [] [] = refl
  close_seen choice [] (head ∷ heads) =
      ap (λ f. close_filters (part_ways registry default) (part_of registry default head.choice) f (seen_heads heads)) (operand_seen head choice)
      ∙ close_filters_seen head.choice (with_operand tree_ways head choice) heads

  abbrev seen_before : TreeAsked × List TreeHead → Asked Parts FilterParts × List (Head Parts FilterParts)
  seen_before before = (seen_asked before.0, seen_heads before.1)

  opened_operand_seen : (choice : ExprTree Choice) (sequence : Option (ExprTree Sequence)) (branches : Option (ExprTree Choice)) (heads : List TreeHead)
      → opened_operand {X = Parts} {F = FilterParts} (part_of registry default choice) (seen (part_of registry default) sequence) (seen (part_of registry default) branches) (seen_heads heads)
      ≡ seen seen_before (opened_operand choice sequence branches heads)
  unfolding opened_operand
  opened_operand_seen choice None None heads = refl
  opened_operand_seen choice None (Some b) heads = refl
  opened_operand_seen choice (Some s) b heads = refl

  before_seen : (choice : ExprTree Choice) (groups : List TreeGroup) (heads : List TreeHead)
      → before_op (part_ways registry default) (part_of registry default choice) (seen_groups groups) (seen_heads heads) ≡ seen seen_before (before_op tree_ways choice groups heads)
  unfolding before_op
  before_seen choice [] [] = refl
  before_seen choice [] (head ∷ heads) = ap (λ f. Some (record { choice = part_of registry default head.choice; filters = Some f }, seen_heads heads)) (operand_seen head choice)
  before_seen choice (group ∷ []) (head ∷ heads) = opened_operand_seen choice group.sequence group.branches (head ∷ heads)
  before_seen choice (group ∷ []) [] = refl
  before_seen choice (group ∷ other ∷ groups) heads = refl

  asked_seen : (choice : ExprTree Choice) (groups : List TreeGroup) (heads : List TreeHead)
      → asked_of (part_ways registry default) (part_of registry default choice) (seen_groups groups) (seen_heads heads) ≡ seen seen_asked (asked_of tree_ways choice groups heads)
  unfolding asked_of
  asked_seen choice [] [] = refl
  asked_seen choice [] (head ∷ []) = ap (λ f. Some (record { choice = part_of registry default head.choice; filters = Some f })) (operand_seen head choice)
  asked_seen choice [] (head ∷ other ∷ heads) = refl
  asked_seen choice (group ∷ groups) heads = refl

  asked_filters_seen : (choice : ExprTree Choice) (filters : FilterTree Filters) (heads : List TreeHead)
      → asked_filters (part_ways registry default) (part_of registry default choice) (filters_part_of registry default filters) (seen_heads heads) ≡ seen seen_asked (asked_filters tree_ways choice filters heads)
  unfolding asked_filters
  asked_filters_seen choice filters [] = refl
  asked_filters_seen choice filters (head ∷ heads) = refl

  bang_seen : (found : Option (TreeAsked × List TreeHead)) → Alike (bang (part_ways registry default) (seen seen_before found)) (bang tree_ways found)
  unfolding bang
  bang_seen None = refl
  bang_seen (Some (asked, heads)) = refl

  filtered_seen : (op : Option Op) (found : Option (TreeAsked × List TreeHead)) → Alike (filtered (part_ways registry default) op (seen seen_before found)) (filtered tree_ways op found)
  unfolding filtered
  filtered_seen (Some op) (Some (asked, heads)) = refl
  filtered_seen (Some op) None = refl
  filtered_seen None found = refl

  cond_begins_seen : (found : Option TreeAsked) → Alike (cond_begins (part_ways registry default) (seen seen_asked found) (part_ways registry default).no_conds) (cond_begins tree_ways found [])
  unfolding cond_begins
  cond_begins_seen None = refl
  cond_begins_seen (Some asked) = refl

  read_seen : (sequence : ExprTree Sequence) (branches : Option (ExprTree Choice)) (around : TreeAround) (token : Token)
      → Alike (read_step (part_ways registry default) (part_of registry default sequence) (seen (part_of registry default) branches) (seen_around around) token) (read_step tree_ways sequence branches around token)
  unfolding read_step
  read_seen sequence branches around (Mark t.Bar) =
      ap (λ c. Some (Wanted (record { before = record { sequence = None; branches = Some c }; around = seen_around around }))) (choice_seen branches sequence)
  read_seen sequence branches around (Mark t.CloseRound) =
      ap (λ c. close_choice (part_ways registry default) c (seen_groups around.groups) (seen_heads around.heads)) (choice_seen branches sequence)
      ∙ close_seen (choice_of tree_ways branches sequence) around.groups around.heads
  read_seen sequence branches around (Mark t.Bang) =
      ap (bang (part_ways registry default)) (ap (λ c. before_op (part_ways registry default) c (seen_groups around.groups) (seen_heads around.heads)) (choice_seen branches sequence)
      ∙ before_seen (choice_of tree_ways branches sequence) around.groups around.heads)
      ∙ bang_seen (before_op tree_ways (choice_of tree_ways branches sequence) around.groups around.heads)
  read_seen sequence branches around (Mark t.And) =
      ap (λ x. cond_begins (part_ways registry default) x (part_ways registry default).no_conds)
      (ap (λ c. asked_of (part_ways registry default) c (seen_groups around.groups) (seen_heads around.heads)) (choice_seen branches sequence)
      ∙ asked_seen (choice_of tree_ways branches sequence) around.groups around.heads)
      ∙ cond_begins_seen (asked_of tree_ways (choice_of tree_ways branches sequence) around.groups around.heads)
  read_seen sequence branches around (Word at name) =
      ap (filtered (part_ways registry default) (op_of at name)) (ap (λ c. before_op (part_ways registry default) c (seen_groups around.groups) (seen_heads around.heads)) (choice_seen branches sequence)
      ∙ before_seen (choice_of tree_ways branches sequence) around.groups around.heads)
      ∙ filtered_seen (op_of at name) (before_op tree_ways (choice_of tree_ways branches sequence) around.groups around.heads)
  read_seen sequence branches around token = begin_seen (record { before = record { sequence = Some sequence; branches = branches }; around = around }) token

  atom_seen : (atom : ExprTree Atom) (place : TreePlace) (token : Token)
      → Alike (atom_step (part_ways registry default) (part_of registry default atom) (seen_place place) token) (atom_step tree_ways atom place token)
  unfolding atom_step
  atom_seen atom place (Mark t.Star) = repeated_seen atom tree.Star place
  atom_seen atom place (Mark t.Plus) = repeated_seen atom tree.Plus place
  atom_seen atom place (Mark t.Question) = repeated_seen atom tree.Question place
  atom_seen atom place (OpenCurly at) = refl
  atom_seen atom place token =
      ap (λ s. read_step (part_ways registry default) s (seen (part_of registry default) place.before.branches) (seen_around place.around) token) (sequence_seen place.before.sequence (tree.Once atom))
      ∙ read_seen (sequence_of tree_ways place.before.sequence (tree.Once atom)) place.before.branches place.around token

  filters_step_seen : (choice : ExprTree Choice) (filters : FilterTree Filters) (heads : List TreeHead) (token : Token)
      → Alike (filters_step (part_ways registry default) (part_of registry default choice) (filters_part_of registry default filters) (seen_heads heads) token) (filters_step tree_ways choice filters heads token)
  unfolding filters_step
  filters_step_seen choice filters heads (Mark t.CloseRound) = close_filters_seen choice filters heads
  filters_step_seen choice filters heads (Mark t.Bang) = refl
  filters_step_seen choice filters heads (Mark t.And) =
      ap (λ x. cond_begins (part_ways registry default) x (part_ways registry default).no_conds) (asked_filters_seen choice filters heads)
      ∙ cond_begins_seen (asked_filters tree_ways choice filters heads)
  filters_step_seen choice filters heads (Word at name) = filtered_seen (op_of at name) (Some (record { choice = choice; filters = Some filters }, heads))
  filters_step_seen choice filters heads _ = refl

  bang_step_seen : (asked : TreeAsked) (heads : List TreeHead) (token : Token)
      → Alike (bang_step (part_ways registry default) (seen_asked asked) (seen_heads heads) token) (bang_step tree_ways asked heads token)
  unfolding bang_step
  bang_step_seen asked heads (Word at name) = filtered_seen (not_op_of at name) (Some (asked, heads))
  bang_step_seen asked heads _ = refl

  in_cond_seen : (asked : TreeAsked) (conds : List CondTree) (cond : Option Condition)
      → Alike (in_cond (part_ways registry default) (seen_asked asked) (conds_of registry asked.choice conds) cond) (in_cond tree_ways asked conds cond)
  unfolding in_cond
  in_cond_seen asked conds None = refl
  in_cond_seen asked conds (Some cond) = refl

  cond_seen : (asked : TreeAsked) (conds : List CondTree) (cond : Condition) (token : Token)
      → Alike (cond_step (part_ways registry default) (seen_asked asked) (conds_of registry asked.choice conds) cond token) (cond_step tree_ways asked conds cond token)
  unfolding cond_step
  cond_seen asked conds (Left side) token = in_cond_seen asked conds (left_step side token)
  cond_seen asked conds (LeftRead left) token = in_cond_seen asked conds (sign_step left token)
  cond_seen asked conds (Right left equal (Dotted at number)) (Word name_at name) =
      ap (λ c. Some (CondRead (seen_asked asked) c)) (cond_same registry default asked.choice conds (cond_tree left equal (record { at = at; number = number; name_at = name_at; name = name })))
  cond_seen asked conds (Right left equal right) token = in_cond_seen asked conds (right_step left equal right token)

  conds_seen : (asked : TreeAsked) (conds : List CondTree) (token : Token)
      → Alike (conds_step (part_ways registry default) (seen_asked asked) (conds_of registry asked.choice conds) token) (conds_step tree_ways asked conds token)
  unfolding conds_step
  conds_seen asked conds (Mark t.And) = refl
  conds_seen asked conds _ = refl

  pub step_seen : (state : TreeState) (token : Token) → Alike (step (part_ways registry default) (seen_state state) token) (step tree_ways state token)
  unfolding step
  step_seen (Wanted place) token = begin_seen place token
  step_seen (LabelRead at number place) token = label_seen at number place token
  step_seen (LabelDone at number place) token = labelled_seen at number place token
  step_seen (TokenOpened label place) token = opened_seen label place token
  step_seen (InToken label test place) token = token_seen label test place token
  step_seen (TagOpened place) token = tag_opened_seen place token
  step_seen (TagNamed at name place) token = named_seen at name place token
  step_seen (InTag at name test place) token = tag_seen at name test place token
  step_seen (ClosingOpened place) token = closing_opened_seen place token
  step_seen (ClosingNamed at name place) token = closing_named_seen at name place token
  step_seen (AtomRead atom place) token = atom_seen atom place token
  step_seen (InRepeat atom at counting place) token = repeat_seen atom at counting place token
  step_seen (ItemRead sequence branches around) token = read_seen sequence branches around token
  step_seen (FiltersRead choice filters heads) token = filters_step_seen choice filters heads token
  step_seen (BangRead asked heads) token = bang_step_seen asked heads token
  step_seen (InCond asked conds cond) token = cond_seen asked conds cond token
  step_seen (CondRead asked conds) token = conds_seen asked conds token

  pub run_seen : (state : TreeState) (tokens : List Token) → Alike (run (part_ways registry default) (seen_state state) tokens) (run tree_ways state tokens)
  unfolding run
  run_seen state [] = refl
  run_seen state (token ∷ tokens) =
      ap (λ x. and_then x (λ next. run (part_ways registry default) next tokens)) (step_seen state token) ∙ go (λ next. run_seen next tokens) (step tree_ways state token)
    where
      go : ((next : TreeState) → Alike (run (part_ways registry default) (seen_state next) tokens) (run tree_ways next tokens)) → (found : Option TreeState)
          → and_then (seen seen_state found) (λ next. run (part_ways registry default) next tokens) ≡ seen seen_state (and_then found (λ next. run tree_ways next tokens))
      go again None = refl
      go again (Some next) = again next

  query_seen : (asked : TreeAsked) (conds : List CondTree)
      → query_of (part_ways registry default) (seen_asked asked) (conds_of registry asked.choice conds) ≡ verdict registry default (query_of tree_ways asked conds)
  query_seen asked conds = go asked.filters
    where
      go : (filters : Option (FilterTree Filters))
          → query_of (part_ways registry default) (seen_asked (record { choice = asked.choice; filters = filters })) (conds_of registry asked.choice conds)
          ≡ verdict registry default (query_of tree_ways (record { choice = asked.choice; filters = filters }) conds)
      go None = asks_same registry default asked.choice conds
      go (Some f) = asks_filtered_same registry default asked.choice f conds

  ends_seen : (found : Option TreeAsked)
      → ends (part_ways registry default) (seen seen_asked found) (part_ways registry default).no_conds ≡ seen (verdict registry default) (ends tree_ways found [])
  unfolding ends
  ends_seen None = refl
  ends_seen (Some asked) = ap Some (query_seen asked [])

  choice_ends_seen : (sequence : ExprTree Sequence) (branches : Option (ExprTree Choice)) (around : TreeAround)
      → ends (part_ways registry default) (asked_of (part_ways registry default)
      (choice_of (part_ways registry default) (seen (part_of registry default) branches) (part_of registry default sequence)) (seen_groups around.groups) (seen_heads around.heads)) (part_ways registry default).no_conds
      ≡ seen (verdict registry default) (ends tree_ways (asked_of tree_ways (choice_of tree_ways branches sequence) around.groups around.heads) [])
  choice_ends_seen sequence branches around =
      ap (λ x. ends (part_ways registry default) x (part_ways registry default).no_conds)
      (ap (λ c. asked_of (part_ways registry default) c (seen_groups around.groups) (seen_heads around.heads)) (choice_seen branches sequence)
      ∙ asked_seen (choice_of tree_ways branches sequence) around.groups around.heads)
      ∙ ends_seen (asked_of tree_ways (choice_of tree_ways branches sequence) around.groups around.heads)

  pub finish_seen : (state : TreeState) → finish (part_ways registry default) (seen_state state) ≡ seen (verdict registry default) (finish tree_ways state)
  unfolding finish
  finish_seen (AtomRead atom place) =
      ap (λ s. ends (part_ways registry default) (asked_of (part_ways registry default)
      (choice_of (part_ways registry default) (seen (part_of registry default) place.before.branches) s) (seen_groups place.around.groups) (seen_heads place.around.heads)) (part_ways registry default).no_conds)
      (sequence_seen place.before.sequence (tree.Once atom))
      ∙ choice_ends_seen (sequence_of tree_ways place.before.sequence (tree.Once atom)) place.before.branches place.around
  finish_seen (ItemRead sequence branches around) = choice_ends_seen sequence branches around
  finish_seen (FiltersRead choice filters heads) =
      ap (λ x. ends (part_ways registry default) x (part_ways registry default).no_conds) (asked_filters_seen choice filters heads) ∙ ends_seen (asked_filters tree_ways choice filters heads)
  finish_seen (CondRead asked conds) = ap Some (query_seen asked conds)
  finish_seen _ = refl
