-- A printed query is read as itself.
use Rattle.std.proofs.Common.{ℕ, zero, suc, ◌+◌, ◌≡◌, ◌<◌, ◌≤◌, Bool, true, false, List, [], ◌∷◌, ◌++◌, None, Option, Ok, refl, sym, ◌∙◌, ap, arith, length, get_or, map, subst, append_assoc, append-nil, nat_eq, nat_lt, ◌⊎◌, inl, inr}
use Rattle.std.specs.Prelude.{codes, decimal, cond, ◌||◌, ◌&&◌, is_some}
use Rattle.std.proofs.lemmas.Bool.Decides.{nat_tests}
use Rattle.std.proofs.lemmas.List.{length-map}
use Rattle.mt_text_spec.specs.Registries.{Registry, Attr, ValidRegistry, attr_names}
use Rattle.mt_text_spec.specs.Words.{is_identifier_byte}
use Rattle.mt_text_spec.specs.Queries as q
use Rattle.mt_query_spec.specs.Tokens.{Token, Number, Word, Mark, lexeme, tokens_of, deepest}
use Rattle.mt_query_spec.specs.Tokens as t
use Rattle.mt_query_spec.specs.Trees.{Rank, Choice, ExprTree, expr_tokens, Op, op_tokens, Operand, Filters, FilterTree, filter_tokens, CondTree, equality_sign, cond_tokens, conds_tokens, QueryTree, query_tokens}
use Rattle.mt_query_spec.specs.Trees as tree
use Rattle.mt_query_spec.specs.Meaning.{number_of, or_first, undeclared, first_of, least_of, least, labels, label_place, label_places, kept_label, kind_of, FilterOf, chained, filters_of, filters_unknown, filters_range_fault, filters_label_fault, cond_of, cond_unknown, missing_label, cond_label_fault, conds_label_fault, conds_unknown, query_of, query_unknown, query_range_fault, query_label_fault}
use Rattle.mt_query_spec.specs.Meaning as meaning
use Rattle.mt_query_spec.specs.Printed.{name_at, bracketed, printed_expr, printed_kind, has_filters, printed_filters, printed_side, printed_cond, printed_conds, printed}
use Rattle.mt_query_spec.specs.Valid.{ValidExpr, HasNoLabel, has_label, ValidFilters, ValidConds, ValidQuery, IsReadAs}
use Rattle.mt_query_spec.specs.Verdicts.{Means, written, is_too_long}
use Rattle.mt_query_laws.proofs.Lexing.{past, lexed, Spells, then, word, number}
use Rattle.mt_query_laws.proofs.PrintedTests.{name_fits, name_found, open_round, close_round, and_sign}
use Rattle.mt_query_laws.proofs.PrintedExprs.{attrs_fit, respell, least_none, WrittenExpr, expr_reads}

-- ## Filters

record WrittenOp (kind : q.FilterKind) (at : ℕ) (rest : List ℕ) : Type 0 where
  op : Op
  spelled : Spells at (printed_kind kind) rest (op_tokens op)
  means : kind_of op ≡ kind

op_reads : (kind : q.FilterKind) (at : ℕ) (rest : List ℕ) → WrittenOp kind at rest
unfolding t.tokens_from lexeme
op_reads q.Within at rest = record { op = tree.Within (suc at); spelled = record { is = refl }; means = refl }
op_reads q.NotWithin at rest = record { op = tree.NotWithin (suc (suc at)); spelled = record { is = refl }; means = refl }
op_reads q.Containing at rest = record { op = tree.Containing (suc at); spelled = record { is = refl }; means = refl }
op_reads q.NotContaining at rest = record { op = tree.NotContaining (suc (suc at)); spelled = record { is = refl }; means = refl }

-- the filters one after another
abbrev listed : q.Filters → List FilterOf
listed q.NoMore = []
listed (q.More kind head filters others) = record { kind = kind; head = head; filters = filters } ∷ listed others

chained_listed : (filters : q.Filters) → chained (listed filters) ≡ filters
chained_listed q.NoMore = refl
chained_listed (q.More kind head filters others) = ap (q.More kind head filters) (chained_listed others)

module _ (registry : Registry) (valid : ValidRegistry registry) where
  record WrittenOperand (bytes : List ℕ) (head : q.Expr) (filters : q.Filters) (at : ℕ) (rest : List ℕ) : Type 0 where
    tree : FilterTree Operand
    spelled : Spells at bytes rest (filter_tokens tree)
    means : (default : ℕ) → filters_of registry default tree ≡ (head, filters)
    known : filters_unknown registry tree ≡ None
    ranged : filters_range_fault tree ≡ None
    labelled : filters_label_fault tree ≡ None

  -- some filters
  record WrittenFirst (bytes : List ℕ) (filters : q.Filters) (at : ℕ) (rest : List ℕ) : Type 0 where
    tree : FilterTree Filters
    spelled : Spells at bytes rest (filter_tokens tree)
    means : (default : ℕ) → filters_of registry default tree ≡ listed filters
    known : filters_unknown registry tree ≡ None
    ranged : filters_range_fault tree ≡ None
    labelled : filters_label_fault tree ≡ None

  -- filters behind others
  record WrittenMore (others : FilterTree Filters) (bytes : List ℕ) (filters : q.Filters) (at : ℕ) (rest : List ℕ) : Type 0 where
    tree : FilterTree Filters
    tokens : List Token
    split : filter_tokens tree ≡ filter_tokens others ++ tokens
    spelled : Spells at bytes rest tokens
    means : (default : ℕ) → filters_of registry default tree ≡ filters_of registry default others ++ listed filters
    known : filters_unknown registry others ≡ None → filters_unknown registry tree ≡ None
    ranged : filters_range_fault others ≡ None → filters_range_fault tree ≡ None
    labelled : filters_label_fault others ≡ None → filters_label_fault tree ≡ None

  -- filters are read as those of an operand, and behind others
  record Forms (filters : q.Filters) : Type 0 where
    operand : (head : q.Expr) → ValidExpr registry head → HasNoLabel head → (at : ℕ) (rest : List ℕ)
        → WrittenOperand (bracketed (has_filters filters) (printed_expr registry Choice head ++ printed_filters registry filters)) head filters at rest
    behind : (others : FilterTree Filters) (at : ℕ) (rest : List ℕ) → WrittenMore others (printed_filters registry filters) filters at rest

  plain_operand : (head : q.Expr) → ValidExpr registry head → HasNoLabel head → (at : ℕ) (rest : List ℕ)
      → WrittenOperand (printed_expr registry Choice head ++ []) head q.NoMore at rest
  unfolding filter_tokens
  plain_operand head v free at rest =
      let w = expr_reads registry valid Choice head v at rest in
      record {
        tree = tree.Plain w.tree;
        spelled = respell at _ _ rest _ (sym (append-nil (printed_expr registry Choice head))) w.spelled;
        means = λ d. ap (λ (x : q.Expr). (x, q.NoMore)) (w.means d);
        known = w.known;
        ranged = w.ranged;
        labelled = rw w.labelled (least_none (λ n. label_place n w.tree) labels (λ n. w.labels n ∙ free n));
      }

  none_behind : (others : FilterTree Filters) (at : ℕ) (rest : List ℕ) → WrittenMore others [] q.NoMore at rest
  none_behind others at rest = record {
    tree = others;
    tokens = [];
    split = sym (append-nil (filter_tokens others));
    spelled = record { is = refl };
    means = λ d. sym (append-nil (filters_of registry d others));
    known = λ h. h;
    ranged = λ h. h;
    labelled = λ h. h;
  }

  filtered_operand : (head : q.Expr) (bytes : List ℕ) (filters : q.Filters) → ValidExpr registry head → HasNoLabel head
      → ((at : ℕ) (rest : List ℕ) → WrittenFirst bytes filters at rest) → (at : ℕ) (rest : List ℕ)
      → WrittenOperand (bracketed true (printed_expr registry Choice head ++ bytes)) head filters at rest
  unfolding filter_tokens
  filtered_operand head bytes filters v free r at rest =
      let text = printed_expr registry Choice head in
      let w = expr_reads registry valid Choice head v (suc at) ((bytes ++ codes ")") ++ rest) in
      let f = r (past text (suc at)) (41 ∷ rest) in
      record {
        tree = tree.WithFilters w.tree f.tree;
        spelled = respell at _ _ rest _ (ap (λ (x : List ℕ). 40 ∷ x) (sym (append_assoc text bytes (codes ")"))))
            (then {xs = codes "("} {ys = text ++ (bytes ++ codes ")")} {rest = rest} (open_round at _)
            (then {xs = text} {ys = bytes ++ codes ")"} {rest = rest} w.spelled (then {xs = bytes} {ys = codes ")"} {rest = rest} f.spelled (close_round _ rest))));
        means = λ d. rw (w.means d, f.means d, chained_listed filters) refl;
        known = rw (w.known, f.known) refl;
        ranged = rw (w.ranged, f.ranged) refl;
        labelled = rw (w.labelled, least_none (λ n. label_place n w.tree) labels (λ n. w.labels n ∙ free n), f.labelled) refl;
      }

  module _ (kind : q.FilterKind) (head : q.Expr) (filters others : q.Filters) (v : ValidExpr registry head) (free : HasNoLabel head) (inner : Forms filters) (outer : Forms others) where
    abbrev text : List ℕ
    text = bracketed (has_filters filters) (printed_expr registry Choice head ++ printed_filters registry filters)

    abbrev one : FilterOf
    one = record { kind = kind; head = head; filters = filters }

    first_filters : (at : ℕ) (rest : List ℕ) → WrittenFirst (printed_kind kind ++ (text ++ printed_filters registry others)) (q.More kind head filters others) at rest
    unfolding filter_tokens
    first_filters at rest =
        let o = op_reads kind at ((text ++ printed_filters registry others) ++ rest) in
        let w = inner.operand head v free (past (printed_kind kind) at) (printed_filters registry others ++ rest) in
        let m = outer.behind (tree.Filter o.op w.tree) (past text (past (printed_kind kind) at)) rest in
        record {
          tree = m.tree;
          spelled = respelled at _ rest _ _ (m.split ∙ append_assoc (op_tokens o.op) (filter_tokens w.tree) m.tokens)
              (then {xs = printed_kind kind} {ys = text ++ printed_filters registry others} {rest = rest} o.spelled
              (then {xs = text} {ys = printed_filters registry others} {rest = rest} w.spelled m.spelled));
          means = λ d. m.means d ∙ ap (λ x. x ++ listed others) (met d o.op o.means w.tree (w.means d));
          known = m.known w.known;
          ranged = m.ranged w.ranged;
          labelled = m.labelled w.labelled;
        }
      where
        respelled : (at : ℕ) (bytes rest : List ℕ) (all tokens : List Token) → all ≡ tokens → Spells at bytes rest tokens → Spells at bytes rest all
        respelled at bytes rest all tokens e s = subst (λ x. Spells at bytes rest x) (sym e) s

        met : (d : ℕ) (op : Op) → kind_of op ≡ kind → (operand : FilterTree Operand) → filters_of registry d operand ≡ (head, filters)
            → filters_of registry d (tree.Filter op operand) ≡ one ∷ []
        met d op e operand k = rw (e, k) refl

    more_filters : (before : FilterTree Filters) (at : ℕ) (rest : List ℕ)
        → WrittenMore before (printed_kind kind ++ (text ++ printed_filters registry others)) (q.More kind head filters others) at rest
    unfolding filter_tokens
    more_filters before at rest =
        let o = op_reads kind at ((text ++ printed_filters registry others) ++ rest) in
        let w = inner.operand head v free (past (printed_kind kind) at) (printed_filters registry others ++ rest) in
        let m = outer.behind (tree.More before o.op w.tree) (past text (past (printed_kind kind) at)) rest in
        record {
          tree = m.tree;
          tokens = op_tokens o.op ++ (filter_tokens w.tree ++ m.tokens);
          split = m.split ∙ append_assoc (filter_tokens before) (op_tokens o.op ++ filter_tokens w.tree) m.tokens
              ∙ ap (λ x. filter_tokens before ++ x) (append_assoc (op_tokens o.op) (filter_tokens w.tree) m.tokens);
          spelled = then {xs = printed_kind kind} {ys = text ++ printed_filters registry others} {rest = rest} o.spelled
              (then {xs = text} {ys = printed_filters registry others} {rest = rest} w.spelled m.spelled);
          means = λ d. m.means d ∙ ap (λ x. x ++ listed others) (met d o.op o.means w.tree (w.means d)) ∙ append_assoc (filters_of registry d before) (one ∷ []) (listed others);
          known = λ h. m.known (rw (h, w.known) refl);
          ranged = λ h. m.ranged (rw (h, w.ranged) refl);
          labelled = λ h. m.labelled (rw (h, w.labelled) refl);
        }
      where
        met : (d : ℕ) (op : Op) → kind_of op ≡ kind → (operand : FilterTree Operand) → filters_of registry d operand ≡ (head, filters)
            → filters_of registry d (tree.More before op operand) ≡ filters_of registry d before ++ one ∷ []
        met d op e operand k = rw (e, k) refl

  forms : (filters : q.Filters) → ValidFilters registry filters → Forms filters
  forms q.NoMore v = record { operand = plain_operand; behind = none_behind }
  forms (q.More kind head filters others) v =
      let inner = forms filters v.2 in
      let outer = forms others v.3 in
      record {
        operand = λ h w free. filtered_operand h (printed_filters registry (q.More kind head filters others)) (q.More kind head filters others) w free
            (first_filters kind head filters others v.0 v.1 inner outer);
        behind = more_filters kind head filters others v.0 v.1 inner outer;
      }

  -- ## Conditions

  dot_sign : (at : ℕ) (rest : List ℕ) → Spells at (codes ".") rest (Mark t.Dot ∷ [])
  unfolding t.tokens_from lexeme
  dot_sign at rest = record { is = refl }

  equality : (equal : Bool) (at : ℕ) (rest : List ℕ) → Spells at (cond equal (codes " = ") (codes " != ")) rest (Mark (equality_sign equal) ∷ [])
  unfolding t.tokens_from lexeme
  equality true at rest = record { is = refl }
  equality false at rest = record { is = refl }

  abbrev names : List (List ℕ)
  names = attr_names registry.attrs

  attr_there : (attr : ℕ) → attr < length registry.attrs → attr < length names
  attr_there attr h = omega (arith, h, length-map registry.attrs (λ (attr : Attr). attr.name))

  side_spelled : (at label attr : ℕ) (rest : List ℕ) → label < 10 → attr < length registry.attrs → is_identifier_byte (get_or rest 0 0) ≡ false
      → Spells at (printed_side names label attr) rest (Number at label ∷ Mark t.Dot ∷ Word (suc (past (decimal label) at)) (name_at names attr) ∷ [])
  side_spelled at label attr rest h k gap =
      then {xs = decimal label} {ys = codes "." ++ name_at names attr} {rest = rest} (number at label _ (omega arith) refl)
      (then {xs = codes "."} {ys = name_at names attr} {rest = rest} (dot_sign _ _) (word _ (name_at names attr) rest (name_fits names attr (attrs_fit registry valid) (attr_there attr k)) gap))

  equality_gap : (equal : Bool) (xs ys : List ℕ) → is_identifier_byte (get_or ((cond equal (codes " = ") (codes " != ") ++ xs) ++ ys) 0 0) ≡ false
  equality_gap true xs ys = refl
  equality_gap false xs ys = refl

  -- what is known of a condition's label
  record Named (places : List (Option ℕ)) (label : ℕ) : Type 0 where
    small : label < 10
    placed : meaning.has_label 1 places label ≡ true

  record WrittenCond (places : List (Option ℕ)) (bytes : List ℕ) (c : q.Cond) (at : ℕ) (rest : List ℕ) : Type 0 where
    tree : CondTree
    spelled : Spells at bytes rest (cond_tokens tree)
    means : cond_of registry tree ≡ c
    known : cond_unknown registry tree ≡ None
    labelled : cond_label_fault places tree ≡ None

  kept : (label : ℕ) → label < 10 → kept_label label ≡ label
  kept label h = let l : nat_lt label 10 ≡ true = grind (arith, nat_tests) in ap (λ q. cond q label 0) l

  cond_reads : (places : List (Option ℕ)) (c : q.Cond) → Named places c.left → Named places c.right → c.left_attr < length registry.attrs → c.right_attr < length registry.attrs
      → (at : ℕ) (rest : List ℕ) → is_identifier_byte (get_or rest 0 0) ≡ false → WrittenCond places (printed_cond names c) c at rest
  cond_reads places c left right la ra at rest gap =
      let one = printed_side names c.left c.left_attr in
      let two = printed_side names c.right c.right_attr in
      let sign = cond c.equal (codes " = ") (codes " != ") in
      let l = past (codes " & ") at in
      let r = past sign (past one l) in
      let lf = name_found names c.left_attr (attrs_fit registry valid) (attr_there c.left_attr la) in
      let rf = name_found names c.right_attr (attrs_fit registry valid) (attr_there c.right_attr ra) in
      record {
        tree = record {
          left_at = l;
          left = c.left;
          left_name_at = suc (past (decimal c.left) l);
          left_name = name_at names c.left_attr;
          equal = c.equal;
          right_at = r;
          right = c.right;
          right_name_at = suc (past (decimal c.right) r);
          right_name = name_at names c.right_attr;
        };
        spelled = then {xs = codes " & "} {ys = one ++ (sign ++ two)} {rest = rest} (and_sign at _)
            (then {xs = one} {ys = sign ++ two} {rest = rest} (side_spelled l c.left c.left_attr ((sign ++ two) ++ rest) left.small la (equality_gap c.equal two rest))
            (then {xs = sign} {ys = two} {rest = rest} (equality c.equal (past one l) (two ++ rest)) (side_spelled r c.right c.right_attr rest right.small ra gap)));
        means = rw (lf, rf, kept c.left left.small, kept c.right right.small) refl;
        known = rw (lf, rf) refl;
        labelled = rw (left.placed, right.placed) refl;
      }

  record WrittenConds (places : List (Option ℕ)) (bytes : List ℕ) (conds : List q.Cond) (at : ℕ) (rest : List ℕ) : Type 0 where
    trees : List CondTree
    spelled : Spells at bytes rest (conds_tokens trees)
    means : map (cond_of registry) trees ≡ conds
    known : conds_unknown registry trees ≡ None
    labelled : conds_label_fault places trees ≡ None

  conds_gap : (conds : List q.Cond) (rest : List ℕ) → is_identifier_byte (get_or rest 0 0) ≡ false → is_identifier_byte (get_or (printed_conds names conds ++ rest) 0 0) ≡ false
  conds_gap [] rest h = h
  conds_gap (c ∷ conds) rest h = refl

  conds_reads : (places : List (Option ℕ)) (head : q.Expr) → ((n : ℕ) → has_label n head ≡ true → Named places n) → (conds : List q.Cond) → ValidConds registry head conds
      → (at : ℕ) (rest : List ℕ) → is_identifier_byte (get_or rest 0 0) ≡ false → WrittenConds places (printed_conds names conds) conds at rest
  conds_reads places head named [] v at rest gap = record { trees = []; spelled = record { is = refl }; means = refl; known = refl; labelled = refl }
  conds_reads places head named (c ∷ conds) v at rest gap =
      let w = cond_reads places c (named c.left v.0.left) (named c.right v.0.right) v.0.left_attr v.0.right_attr at (printed_conds names conds ++ rest) (conds_gap conds rest gap) in
      let m = conds_reads places head named conds v.1 (past (printed_cond names c) at) rest gap in
      record {
        trees = w.tree ∷ m.trees;
        spelled = then {xs = printed_cond names c} {ys = printed_conds names conds} {rest = rest} w.spelled m.spelled;
        means = rw (w.means, m.means) refl;
        known = rw (w.known, m.known) refl;
        labelled = rw (w.labelled, m.labelled) refl;
      }

-- ## Labels that conditions name

abbrev pub counted : (n k : ℕ) → List ℕ
counted n zero = []
counted n (suc k) = n ∷ counted (suc n) k

pub either_true : (p q : Bool) → (p || q) ≡ true → (p ≡ true) ⊎ (q ≡ true)
either_true true q h = inl refl
either_true false q h = inr h

or_true : (p q : Bool) → q ≡ true → (p || q) ≡ true
or_true true q h = refl
or_true false q h = h

pub both_true : (p q : Bool) → (p && q) ≡ true → (p ≡ true) × (q ≡ true)
both_true true q h = (refl, h)
both_true false q h = cc

-- a label that has a place is set
placed_from : (f : ℕ → Option ℕ) (label n k : ℕ) → is_some (f label) ≡ true → n ≤ label → label < n + k → meaning.has_label n (map f (counted n k)) label ≡ true
placed_from f label n zero h l u = absurd (omega arith)
placed_from f label n (suc k) h l u = go (nat_eq label n) refl (λ r. placed_from f label (suc n) k h r (omega arith))
  where
    go : (q : Bool) → nat_eq label n ≡ q → (suc n ≤ label → meaning.has_label (suc n) (map f (counted (suc n) k)) label ≡ true)
        → ((q && is_some (f n)) || meaning.has_label (suc n) (map f (counted (suc n) k)) label) ≡ true
    go true e again = let s : label ≡ n = grind (arith, nat_tests) in ap (λ q. q || meaning.has_label (suc n) (map f (counted (suc n) k)) label) (ap (λ m. is_some (f m)) (sym s) ∙ h)
    go false e again = again (let r : suc n ≤ label = grind (arith, nat_tests) in r)

placed : (f : ℕ → Option ℕ) (label : ℕ) → is_some (f label) ≡ true → 0 < label → label < 10 → meaning.has_label 1 (map f labels) label ≡ true
placed f label h l u = placed_from f label 1 9 h (omega arith) (omega arith)

-- a label of a valid expression is 1 to 9
pub record IsLabel (n : ℕ) : Type 0 where
  pub some : 0 < n
  pub small : n < 10

pub label_within : (registry : Registry) (expr : q.Expr) → ValidExpr registry expr → (n : ℕ) → has_label n expr ≡ true → IsLabel n
label_within registry (q.TokenTest label test) v n h =
    let s = both_true (nat_lt 0 label) (nat_eq label n) h in
    let a = s.0 in let b = s.1 in let l = v.0 in
    record { some = grind (arith, nat_tests); small = grind (arith, nat_tests) }
label_within registry (q.Begin kind test) v n h = cc
label_within registry (q.End kind) v n h = cc
label_within registry (q.Whole kind test) v n h = cc
label_within registry (q.Seq left right) v n h = elim (either_true (has_label n left) (has_label n right) h) [
  | inl l ↦ label_within registry left v.0 n l
  | inr r ↦ label_within registry right v.1 n r
]
label_within registry (q.Choice left right) v n h = elim (either_true (has_label n left) (has_label n right) h) [
  | inl l ↦ label_within registry left v.0 n l
  | inr r ↦ label_within registry right v.1 n r
]
label_within registry (q.Repeat inner fewest most) v n h = label_within registry inner v.0 n h

-- ## Queries

record WrittenQuery (registry : Registry) (query : q.Query) : Type 0 where
  tree : QueryTree
  spelled : Spells 0 (printed registry query) [] (query_tokens tree)
  means : (default : ℕ) → query_of registry default tree ≡ query
  known : query_unknown registry tree ≡ None
  ranged : query_range_fault tree ≡ None
  labelled : query_label_fault tree ≡ None

module _ (registry : Registry) (valid : ValidRegistry registry) (head : q.Expr) (v : ValidExpr registry head) where
  named : (at : ℕ) (rest : List ℕ) (w : WrittenExpr registry Choice (printed_expr registry Choice head) head at rest) (n : ℕ) → has_label n head ≡ true
      → Named registry valid (label_places w.tree) n
  named at rest w n h =
      let l = label_within registry head v n h in
      record { small = l.small; placed = placed (λ n. label_place n w.tree) n (w.labels n ∙ h) l.some l.small }

  query_reads : (filters : q.Filters) (conds : List q.Cond) → ValidFilters registry filters → ValidConds registry head conds
      → WrittenQuery registry (record { head = head; filters = filters; conds = conds })
  query_reads q.NoMore conds f k =
      let text = printed_expr registry Choice head in
      let w = expr_reads registry valid Choice head v 0 (printed_conds (attr_names registry.attrs) conds ++ []) in
      let c = conds_reads registry valid (label_places w.tree) head (named 0 (printed_conds (attr_names registry.attrs) conds ++ []) w) conds k (past text 0) [] refl in
      record {
        tree = tree.Asks w.tree c.trees;
        spelled = then {xs = text} {ys = printed_conds (attr_names registry.attrs) conds} {rest = []} w.spelled c.spelled;
        means = λ d. rw (w.means d, c.means) refl;
        known = rw (w.known, c.known) refl;
        ranged = w.ranged;
        labelled = rw (w.labelled, c.labelled) refl;
      }
  query_reads (q.More kind operand inner others) conds f k =
      let text = printed_expr registry Choice head in
      let filters = q.More kind operand inner others in
      let behind = printed_conds (attr_names registry.attrs) conds in
      let bytes = printed_filters registry filters in
      let w = expr_reads registry valid Choice head v 0 ((bytes ++ behind) ++ []) in
      let m = first_filters registry valid kind operand inner others f.0 f.1 (forms registry valid inner f.2) (forms registry valid others f.3) (past text 0) (behind ++ []) in
      let c = conds_reads registry valid (label_places w.tree) head (named 0 ((bytes ++ behind) ++ []) w) conds k (past bytes (past text 0)) [] refl in
      record {
        tree = tree.AsksFiltered w.tree m.tree c.trees;
        spelled = then {xs = text} {ys = bytes ++ behind} {rest = []} w.spelled (then {xs = bytes} {ys = behind} {rest = []} m.spelled c.spelled);
        means = λ d. rw (w.means d, m.means d, chained_listed filters, c.means) refl;
        known = rw (w.known, m.known, c.known) refl;
        ranged = rw (w.ranged, m.ranged) refl;
        labelled = rw (w.labelled, m.labelled, c.labelled) refl;
      }

-- a valid query is read from its printed text, under any default attribute
pub printed_read : (registry : Registry) (default : ℕ) (query : q.Query) → ValidRegistry registry → ValidQuery registry query → IsReadAs registry default (printed registry query) query
unfolding t.tokens_from
printed_read registry default query valid v =
    let w = query_reads registry valid query.head v.head query.filters query.conds v.filters v.conds in
    let e : lexed 0 (printed registry query) ≡ (query_tokens w.tree, None) =
    ap (lexed 0) (sym (append-nil (printed registry query))) ∙ w.spelled.is ∙ ap (λ (x : List Token). (x, None)) (append-nil (query_tokens w.tree)) in
    record {
      part = w.tree;
      whole = ap (λ (l : List Token × Option (ℕ × t.Unlexed)). l.1) e;
      tokens = sym (ap (λ (l : List Token × Option (ℕ × t.Unlexed)). l.0) e);
      nests = v.nests;
      obeys = rw (w.ranged, w.labelled, w.known, w.means default, v.small) refl;
    }

short_enough : (registry : Registry) (query : q.Query) → length (printed registry query) ≤ 4096 → deepest (printed registry query) ≤ 32 → is_too_long (printed registry query) ≡ false
short_enough registry query h k = go (length (printed registry query)) (deepest (printed registry query)) h k
  where
    go : (n d : ℕ) → n ≤ 4096 → d ≤ 32 → (nat_lt 4096 n || nat_lt 32 d) ≡ false
    go n d h k = let a : nat_lt 4096 n ≡ false = grind (arith, nat_tests) in let b : nat_lt 32 d ≡ false = grind (arith, nat_tests) in rw (a, b) refl

-- and so it is what its printed text means, where that is not too long
pub printed_means : (registry : Registry) (default : ℕ) (query : q.Query) → ValidRegistry registry → ValidQuery registry query → length (printed registry query) ≤ 4096
    → Means registry default (printed registry query) (Ok query)
printed_means registry default query valid v short =
    let r = printed_read registry default query valid v in
    subst (λ x. Means registry default (printed registry query) x) r.obeys (written (short_enough registry query short v.nests) r.whole r.part r.tokens)
