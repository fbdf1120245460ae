-- A printed expression is read as itself.
use Rattle.std.proofs.Common.{ℕ, suc, ◌≡◌, ◌<◌, ◌≤◌, ◌^◌, Bool, true, false, List, [], ◌∷◌, ◌++◌, None, Some, Option, refl, sym, ◌∙◌, ap, arith, length, get_or, map, append_assoc, nat_eq, nat_lt, subst}
use Rattle.std.specs.Prelude.{codes, decimal, ◌==◌, cond, ◌||◌, ◌&&◌, is_some}
use Rattle.std.proofs.lemmas.Bool.Decides.{nat_tests}
use Rattle.std.proofs.lemmas.List.{get_or-map, length-map}
use Rattle.mt_text_spec.specs.Registries.{Registry, Attr, Kind, ValidRegistry, attr_names, kind_names, kind_attrs}
use Rattle.mt_text_spec.specs.Words.{is_identifier_start, is_identifier_byte, IsIdentifier}
use Rattle.mt_text_spec.specs.Queries as q
use Rattle.mt_query_spec.specs.Tokens.{Token, Word, OpenCurly, Mark, Sign, lexeme}
use Rattle.mt_query_spec.specs.Tokens as t
use Rattle.mt_query_spec.specs.Trees.{OfToken, OfTag, Label, NoLabel, Labelled, Repetition, Between, Rank, Atom, Item, Sequence, Choice, ExprTree, expr_tokens, label_tokens, repetition_tokens, maybe_tokens}
use Rattle.mt_query_spec.specs.Trees as tree
use Rattle.mt_query_spec.specs.Meaning.{number_of, or_first, undeclared, first_of, least, again, at_label, label_place, label_places, labels, label_number, no_label, label_fault, range_fault, expr_of, expr_unknown, maybe_test, maybe_unknown}
use Rattle.mt_query_spec.specs.Printed.{name_at, bracketed, has_test, brackets_repeat, brackets_seq, brackets_choice, printed_test, printed_label, printed_tag, printed_turns, printed_expr}
use Rattle.mt_query_spec.specs.Valid.{ValidMaybe, ValidExpr, HasNoLabel, has_label}
use Rattle.mt_query_laws.proofs.Lexing.{past, Spells, then, word, number, blank, open_square, close_square, closing_tag, lexeme_spells}
use Rattle.mt_query_laws.proofs.PrintedTests.{Fit, name_fits, name_found, ReadsMaybe, maybe_reads, open_round, close_round, bar_sign}

-- ## The names of a registry

pub attrs_fit : (registry : Registry) → ValidRegistry registry → Fit (attr_names registry.attrs)
attrs_fit registry v = record {
  each = λ i d h.
      let a : Attr = record { name = d; base = None; mapper = [] } in
      let l : i < length registry.attrs = omega (arith, h, length-map registry.attrs (λ (attr : Attr). attr.name)) in
      subst IsIdentifier (sym (get_or-map (λ (attr : Attr). attr.name) registry.attrs i a d l)) (v.attrs i a l).named;
  distinct = v.distinct;
}

pub kinds_fit : (registry : Registry) → ValidRegistry registry → Fit (kind_names registry.kinds)
kinds_fit registry v = record {
  each = λ i d h.
      let a : Kind = record { name = d; attrs = [] } in
      let l : i < length registry.kinds = omega (arith, h, length-map registry.kinds (λ (kind : Kind). kind.name)) in
      subst IsIdentifier (sym (get_or-map (λ (kind : Kind). kind.name) registry.kinds i a d l)) (v.kinds i a l).named;
  distinct = v.distinct_kinds;
}

pub kind_attrs_fit : (registry : Registry) (kind : ℕ) → ValidRegistry registry → kind < length registry.kinds → Fit (kind_attrs registry.kinds kind)
kind_attrs_fit registry kind v h = let k = v.kinds kind (record { name = []; attrs = [] }) h in record { each = k.each; distinct = k.distinct }

kind_there : (registry : Registry) (kind : ℕ) → kind < length registry.kinds → kind < length (kind_names registry.kinds)
kind_there registry kind h = omega (arith, length-map registry.kinds (λ (kind : Kind). kind.name))

kind_found : (registry : Registry) (kind : ℕ) → ValidRegistry registry → kind < length registry.kinds
    → number_of (kind_names registry.kinds) (name_at (kind_names registry.kinds) kind) ≡ Some kind
kind_found registry kind v h = name_found (kind_names registry.kinds) kind (kinds_fit registry v) (kind_there registry kind h)

pub kind_named : (registry : Registry) (kind : ℕ) → ValidRegistry registry → kind < length registry.kinds → IsIdentifier (name_at (kind_names registry.kinds) kind)
kind_named registry kind v h = name_fits (kind_names registry.kinds) kind (kinds_fit registry v) (kind_there registry kind h)

-- ## Signs

colon_sign : (at : ℕ) (rest : List ℕ) → Spells at (codes ":") rest (Mark t.Colon ∷ [])
unfolding t.tokens_from lexeme
colon_sign at rest = record { is = refl }

comma_sign : (at : ℕ) (rest : List ℕ) → Spells at (codes ",") rest (Mark t.Comma ∷ [])
unfolding t.tokens_from lexeme
comma_sign at rest = record { is = refl }

open_curly : (at : ℕ) (rest : List ℕ) → Spells at (codes "{") rest (OpenCurly at ∷ [])
unfolding t.tokens_from lexeme
open_curly at rest = record { is = refl }

close_curly : (at : ℕ) (rest : List ℕ) → Spells at (codes "}") rest (Mark t.CloseCurly ∷ [])
unfolding t.tokens_from lexeme
close_curly at rest = record { is = refl }

tag_end : (at : ℕ) (rest : List ℕ) → Spells at (codes ">") rest (Mark t.TagEnd ∷ [])
unfolding t.tokens_from lexeme
tag_end at rest = record { is = refl }

whole_end : (at : ℕ) (rest : List ℕ) → Spells at (codes "/>") rest (Mark t.WholeEnd ∷ [])
unfolding t.tokens_from lexeme
whole_end at rest = record { is = refl }

tag_long : (rest : List ℕ) → (get_or rest 0 0 == 47) ≡ false → t.long_sign 60 rest ≡ None
tag_long rest h = rw (h, t.long_sign) refl

tag_begin : (at : ℕ) (rest : List ℕ) → (get_or rest 0 0 == 47) ≡ false → Spells at (codes "<") rest (Mark t.TagBegin ∷ [])
unfolding lexeme
tag_begin at rest h = lexeme_spells at 60 [] rest (Mark t.TagBegin) refl (rw (tag_long rest h, t.sign_at) refl)

pub respell : (at : ℕ) (xs ys rest : List ℕ) (tokens : List Token) → xs ≡ ys → Spells at xs rest tokens → Spells at ys rest tokens
respell at xs ys rest tokens e s = subst (λ x. Spells at x rest tokens) e s

-- ## Labels

pub is_some_cond : (q : Bool) (at : ℕ) → is_some (cond q (Some at) None) ≡ q
is_some_cond true at = refl
is_some_cond false at = refl

record WrittenLabel (bytes : List ℕ) (label at : ℕ) (rest : List ℕ) : Type 0 where
  tree : Label
  spelled : Spells at bytes rest (label_tokens tree)
  means : label_number tree ≡ label
  fine : no_label tree ≡ None
  labels : (n : ℕ) → is_some (at_label n tree) ≡ (nat_lt 0 label && nat_eq label n)

label_reads : (label : ℕ) → label < 10 → (at : ℕ) (rest : List ℕ) → WrittenLabel (printed_label label) label at rest
label_reads label h at rest = go (nat_lt 0 label) refl
  where
    go : (some : Bool) → nat_lt 0 label ≡ some → WrittenLabel (cond some (decimal label ++ codes ":") []) label at rest
    go false e = record {
      tree = NoLabel;
      spelled = record { is = refl };
      means = let z : 0 ≡ label = grind (arith, nat_tests) in z;
      fine = refl;
      labels = λ n. rw e refl;
    }
    go true e =
        let l : nat_lt label 10 ≡ true = grind (arith, nat_tests) in
        record {
          tree = Labelled at label;
          spelled = then {xs = decimal label} {ys = codes ":"} {rest = rest} (number at label (58 ∷ rest) (omega arith) refl) (colon_sign _ rest);
          means = ap (λ q. cond q label 0) l;
          fine = rw (e, l) refl;
          labels = λ n. is_some_cond (nat_eq label n) at ∙ sym (ap (λ q. q && nat_eq label n) e);
        }

no_place : (o : Option ℕ) → is_some o ≡ false → o ≡ None
no_place None h = refl
no_place (Some at) h = cc

pub least_none : (f : ℕ → Option ℕ) (ns : List ℕ) → ((n : ℕ) → is_some (f n) ≡ false) → least (map f ns) ≡ None
least_none f [] h = refl
least_none f (n ∷ ns) h = rw (no_place (f n) (h n)) (least_none f ns h)

again_none : (f g : ℕ → Option ℕ) (ns : List ℕ) → ((n : ℕ) → (is_some (f n) && is_some (g n)) ≡ false) → least (again (map f ns) (map g ns)) ≡ None
again_none f g [] h = refl
again_none f g (n ∷ ns) h = go (f n) (g n) (h n) (again_none f g ns h)
  where
    go : (a b : Option ℕ) → (is_some a && is_some b) ≡ false → least (again (map f ns) (map g ns)) ≡ None → least (again (a ∷ map f ns) (b ∷ map g ns)) ≡ None
    go None b e k = k
    go (Some at) None e k = k
    go (Some at) (Some other) e k = cc

pub is_some_first : (a b : Option ℕ) → is_some (first_of a b) ≡ (is_some a || is_some b)
is_some_first None b = refl
is_some_first (Some at) b = refl

-- ## What is read

pub record WrittenExpr (registry : Registry) (rank : Rank) (bytes : List ℕ) (expr : q.Expr) (at : ℕ) (rest : List ℕ) : Type 0 where
  pub tree : ExprTree rank
  pub spelled : Spells at bytes rest (expr_tokens tree)
  pub means : (default : ℕ) → expr_of registry default tree ≡ expr
  pub known : expr_unknown registry tree ≡ None
  pub ranged : range_fault tree ≡ None
  pub labelled : label_fault tree ≡ None
  pub labels : (n : ℕ) → is_some (label_place n tree) ≡ has_label n expr

-- these bytes are read as an expression, at each place and before each rest
abbrev pub Reads : Registry → Rank → List ℕ → q.Expr → Type 0
Reads registry rank bytes expr = (at : ℕ) (rest : List ℕ) → WrittenExpr registry rank bytes expr at rest

module _ (registry : Registry) where
  once : (bytes : List ℕ) (expr : q.Expr) → Reads registry Atom bytes expr → Reads registry Item bytes expr
  unfolding expr_tokens
  once bytes expr r at rest =
      let w = r at rest in
      record { tree = tree.Once w.tree; spelled = w.spelled; means = w.means; known = w.known; ranged = w.ranged; labelled = w.labelled; labels = w.labels }

  first : (bytes : List ℕ) (expr : q.Expr) → Reads registry Item bytes expr → Reads registry Sequence bytes expr
  unfolding expr_tokens
  first bytes expr r at rest =
      let w = r at rest in
      record { tree = tree.First w.tree; spelled = w.spelled; means = w.means; known = w.known; ranged = w.ranged; labelled = w.labelled; labels = w.labels }

  branch : (bytes : List ℕ) (expr : q.Expr) → Reads registry Sequence bytes expr → Reads registry Choice bytes expr
  unfolding expr_tokens
  branch bytes expr r at rest =
      let w = r at rest in
      record { tree = tree.Branch w.tree; spelled = w.spelled; means = w.means; known = w.known; ranged = w.ranged; labelled = w.labelled; labels = w.labels }

  group : (bytes : List ℕ) (expr : q.Expr) → Reads registry Choice bytes expr → Reads registry Atom (bracketed true bytes) expr
  unfolding expr_tokens
  group bytes expr r at rest =
      let w = r (suc at) (41 ∷ rest) in
      record {
        tree = tree.Group w.tree;
        spelled = then {xs = codes "("} {ys = bytes ++ codes ")"} {rest = rest} (open_round at _) (then {xs = bytes} {ys = codes ")"} {rest = rest} w.spelled (close_round _ rest));
        means = w.means;
        known = w.known;
        ranged = w.ranged;
        labelled = w.labelled;
        labels = w.labels;
      }

  atom_at : (rank : Rank) (bytes : List ℕ) (expr : q.Expr) → Reads registry Atom bytes expr → Reads registry rank bytes expr
  atom_at Atom bytes expr r = r
  atom_at Item bytes expr r = once bytes expr r
  atom_at Sequence bytes expr r = first bytes expr (once bytes expr r)
  atom_at Choice bytes expr r = branch bytes expr (first bytes expr (once bytes expr r))

  item_at : (rank : Rank) (bytes : List ℕ) (expr : q.Expr) → Reads registry Item bytes expr → Reads registry rank (bracketed (brackets_repeat rank) bytes) expr
  item_at Atom bytes expr r = group bytes expr (branch bytes expr (first bytes expr r))
  item_at Item bytes expr r = r
  item_at Sequence bytes expr r = first bytes expr r
  item_at Choice bytes expr r = branch bytes expr (first bytes expr r)

  sequence_at : (rank : Rank) (bytes : List ℕ) (expr : q.Expr) → Reads registry Sequence bytes expr → Reads registry rank (bracketed (brackets_seq rank) bytes) expr
  sequence_at Atom bytes expr r = group bytes expr (branch bytes expr r)
  sequence_at Item bytes expr r = once (bracketed true bytes) expr (group bytes expr (branch bytes expr r))
  sequence_at Sequence bytes expr r = r
  sequence_at Choice bytes expr r = branch bytes expr r

  choice_at : (rank : Rank) (bytes : List ℕ) (expr : q.Expr) → Reads registry Choice bytes expr → Reads registry rank (bracketed (brackets_choice rank) bytes) expr
  choice_at Atom bytes expr r = group bytes expr r
  choice_at Item bytes expr r = once (bracketed true bytes) expr (group bytes expr r)
  choice_at Sequence bytes expr r = first (bracketed true bytes) expr (once (bracketed true bytes) expr (group bytes expr r))
  choice_at Choice bytes expr r = r

  seq_reads : (xs ys : List ℕ) (left right : q.Expr) → ((n : ℕ) → (has_label n left && has_label n right) ≡ false)
      → Reads registry Sequence xs left → Reads registry Item ys right → Reads registry Sequence (xs ++ (codes " " ++ ys)) (q.Seq left right)
  unfolding expr_tokens
  seq_reads xs ys left right apart l r at rest =
      let a = l at ((codes " " ++ ys) ++ rest) in
      let b = r (past (codes " ") (past xs at)) rest in
      record {
        tree = tree.Then a.tree b.tree;
        spelled = then {xs = xs} {ys = codes " " ++ ys} {rest = rest} a.spelled (then {xs = codes " "} {ys = ys} {rest = rest} (blank (past xs at) (ys ++ rest)) b.spelled);
        means = λ d. rw (a.means d, b.means d) refl;
        known = rw (a.known, b.known) refl;
        ranged = rw (a.ranged, b.ranged) refl;
        labelled = rw (a.labelled, b.labelled) (again_none (λ n. label_place n a.tree) (λ n. label_place n b.tree) labels (λ n. rw (a.labels n, b.labels n) (apart n)));
        labels = λ n. is_some_first (label_place n a.tree) (label_place n b.tree) ∙ rw (a.labels n, b.labels n) refl;
      }

  choice_reads : (xs ys : List ℕ) (left right : q.Expr) → Reads registry Choice xs left → Reads registry Sequence ys right
      → Reads registry Choice (xs ++ (codes " | " ++ ys)) (q.Choice left right)
  unfolding expr_tokens
  choice_reads xs ys left right l r at rest =
      let a = l at ((codes " | " ++ ys) ++ rest) in
      let b = r (past (codes " | ") (past xs at)) rest in
      record {
        tree = tree.Or a.tree b.tree;
        spelled = then {xs = xs} {ys = codes " | " ++ ys} {rest = rest} a.spelled (then {xs = codes " | "} {ys = ys} {rest = rest} (bar_sign (past xs at) (ys ++ rest)) b.spelled);
        means = λ d. rw (a.means d, b.means d) refl;
        known = rw (a.known, b.known) refl;
        ranged = rw (a.ranged, b.ranged) refl;
        labelled = rw (a.labelled, b.labelled) refl;
        labels = λ n. is_some_first (label_place n a.tree) (label_place n b.tree) ∙ rw (a.labels n, b.labels n) refl;
      }

  repeat_reads : (bytes : List ℕ) (inner : q.Expr) (fewest most : ℕ) → fewest ≤ most → most < 10 ^ 9 → (1 < most → HasNoLabel inner)
      → Reads registry Atom bytes inner → Reads registry Item (bytes ++ printed_turns fewest most) (q.Repeat inner fewest most)
  unfolding expr_tokens
  repeat_reads bytes inner fewest most h l free r at rest =
      let w = r at (printed_turns fewest most ++ rest) in
      let p = past bytes at in
      let m = past (codes ",") (past (decimal fewest) (suc p)) in
      let two : List ℕ = decimal most ++ codes "}" in
      record {
        tree = tree.Repeated w.tree (Between p (suc p) fewest m most);
        spelled = then {xs = bytes} {ys = printed_turns fewest most} {rest = rest} w.spelled
            (then {xs = codes "{"} {ys = decimal fewest ++ (codes "," ++ (decimal most ++ codes "}"))} {rest = rest} (open_curly p _)
            (then {xs = decimal fewest} {ys = codes "," ++ (decimal most ++ codes "}")} {rest = rest} (number (suc p) fewest _ (omega arith) refl)
            (then {xs = codes ","} {ys = decimal most ++ codes "}"} {rest = rest} (comma_sign _ _)
            (then {xs = decimal most} {ys = codes "}"} {rest = rest} (number m most _ l refl) (close_curly _ rest)))));
        means = λ d. ap (λ x. q.Repeat x fewest most) (w.means d);
        known = w.known;
        ranged = let e : nat_lt most fewest ≡ false = grind (arith, nat_tests) in rw (w.ranged, e) refl;
        labelled = rw w.labelled (go (nat_lt 1 most) refl w.tree w.labels);
        labels = w.labels;
      }
    where
      go : (many : Bool) → nat_lt 1 most ≡ many → (tree : ExprTree Atom) → ((n : ℕ) → is_some (label_place n tree) ≡ has_label n inner)
          → cond many (least (label_places tree)) None ≡ None
      go true e tree k = least_none (λ n. label_place n tree) labels (λ n. k n ∙ free (let o : 1 < most = grind (arith, nat_tests) in o) n)
      go false e tree k = refl

  token_reads : (bytes : List ℕ) (label : ℕ) (test : q.Test) → label < 10 → ReadsMaybe OfToken (attr_names registry.attrs) bytes test
      → Reads registry Atom (printed_label label ++ (codes "[" ++ (bytes ++ codes "]"))) (q.TokenTest label test)
  unfolding expr_tokens
  token_reads bytes label test h r at rest =
      let w = label_reads label h at ((codes "[" ++ (bytes ++ codes "]")) ++ rest) in
      let m = r (suc (past (printed_label label) at)) (93 ∷ rest) in
      record {
        tree = tree.TokenTest w.tree m.tree;
        spelled = then {xs = printed_label label} {ys = codes "[" ++ (bytes ++ codes "]")} {rest = rest} w.spelled
            (then {xs = codes "["} {ys = bytes ++ codes "]"} {rest = rest} (open_square _ _) (then {xs = bytes} {ys = codes "]"} {rest = rest} m.spelled (close_square _ rest)));
        means = λ d. rw (w.means, m.means d) refl;
        known = m.known;
        ranged = refl;
        labelled = w.fine;
        labels = w.labels;
      }

-- ## Tags

-- a blank and a test, or nothing
abbrev spaced : (names : List (List ℕ)) → q.Test → List ℕ
spaced names test = cond (has_test test) (codes " ") [] ++ printed_test names tree.Whole test

tag_gap : (names : List (List ℕ)) (test : q.Test) (xs ys : List ℕ) → is_identifier_byte (get_or (xs ++ ys) 0 0) ≡ false
    → is_identifier_byte (get_or ((spaced names test ++ xs) ++ ys) 0 0) ≡ false
tag_gap names q.Any xs ys h = h
tag_gap names (q.Pattern attr text negated) xs ys h = refl
tag_gap names (q.Literal attr text negated) xs ys h = refl
tag_gap names (q.Not inner) xs ys h = refl
tag_gap names (q.Both left right) xs ys h = refl
tag_gap names (q.Either left right) xs ys h = refl

behind_blank : (names : List (List ℕ)) (bytes : List ℕ) (test : q.Test) → ReadsMaybe OfTag names bytes test → ReadsMaybe OfTag names (codes " " ++ bytes) test
behind_blank names bytes test r at rest =
    let w = r (suc at) rest in
    record { tree = w.tree; spelled = then {xs = codes " "} {ys = bytes} {rest = rest} (blank at (bytes ++ rest)) w.spelled; means = w.means; known = w.known }

spaced_reads : (names : List (List ℕ)) → Fit names → (test : q.Test) → ValidMaybe names test → ReadsMaybe OfTag names (spaced names test) test
spaced_reads names fit q.Any v = maybe_reads OfTag names fit q.Any v
spaced_reads names fit (q.Pattern attr text negated) v = behind_blank names _ _ (maybe_reads OfTag names fit (q.Pattern attr text negated) v)
spaced_reads names fit (q.Literal attr text negated) v = behind_blank names _ _ (maybe_reads OfTag names fit (q.Literal attr text negated) v)
spaced_reads names fit (q.Not inner) v = behind_blank names _ _ (maybe_reads OfTag names fit (q.Not inner) v)
spaced_reads names fit (q.Both left right) v = behind_blank names _ _ (maybe_reads OfTag names fit (q.Both left right) v)
spaced_reads names fit (q.Either left right) v = behind_blank names _ _ (maybe_reads OfTag names fit (q.Either left right) v)

no_slash : (name xs rest : List ℕ) → IsIdentifier name → (get_or ((name ++ xs) ++ rest) 0 0 == 47) ≡ false
no_slash [] xs rest h = absurd (omega (arith, h.some))
no_slash (b ∷ name) xs rest h = let s : is_identifier_start b ≡ true = h.first in grind (arith, nat_tests)

tag_spelled : (at : ℕ) (name middle close rest : List ℕ) (sign : Sign) (tokens : List Token) → IsIdentifier name
    → is_identifier_byte (get_or ((middle ++ close) ++ rest) 0 0) ≡ false
    → Spells (past name (suc at)) middle (close ++ rest) tokens → ((at : ℕ) → Spells at close rest (Mark sign ∷ []))
    → Spells at ((codes "<" ++ (name ++ middle)) ++ close) rest (Mark t.TagBegin ∷ Word (suc at) name ∷ (tokens ++ Mark sign ∷ []))
tag_spelled at name middle close rest sign tokens fits gap m c =
    respell at _ _ rest _ (ap (λ (x : List ℕ). 60 ∷ x) (sym (append_assoc name middle close)))
    (then {xs = codes "<"} {ys = name ++ (middle ++ close)} {rest = rest} (tag_begin at _ (no_slash name (middle ++ close) rest fits))
    (then {xs = name} {ys = middle ++ close} {rest = rest} (word (suc at) name _ fits gap) (then {xs = middle} {ys = close} {rest = rest} m (c _))))

module _ (registry : Registry) (valid : ValidRegistry registry) where
  begin_reads : (kind : ℕ) (test : q.Test) → kind < length registry.kinds → ValidMaybe (kind_attrs registry.kinds kind) test
      → Reads registry Atom (printed_tag (name_at (kind_names registry.kinds) kind) (kind_attrs registry.kinds kind) test ++ codes ">") (q.Begin kind test)
  unfolding expr_tokens
  begin_reads kind test h v at rest =
      let name = name_at (kind_names registry.kinds) kind in
      let names = kind_attrs registry.kinds kind in
      let m = spaced_reads names (kind_attrs_fit registry kind valid h) test v (past name (suc at)) (62 ∷ rest) in
      record {
        tree = tree.BeginTag (suc at) name m.tree;
        spelled = tag_spelled at name (spaced names test) (codes ">") rest t.TagEnd (maybe_tokens m.tree) (kind_named registry kind valid h) (tag_gap names test (codes ">") rest refl) m.spelled
            (λ a. tag_end a rest);
        means = λ d. ap (λ found. q.Begin (or_first found) (maybe_test (elim found [ Some k ↦ kind_attrs registry.kinds k | None ↦ [] ]) d m.tree)) (kind_found registry kind valid h)
            ∙ ap (q.Begin kind) (m.means d);
        known = ap (λ found. first_of (undeclared (suc at) found) (maybe_unknown (elim found [ Some k ↦ kind_attrs registry.kinds k | None ↦ [] ]) m.tree)) (kind_found registry kind valid h) ∙ m.known;
        ranged = refl;
        labelled = refl;
        labels = λ n. refl;
      }

  whole_reads : (kind : ℕ) (test : q.Test) → kind < length registry.kinds → ValidMaybe (kind_attrs registry.kinds kind) test
      → Reads registry Atom (printed_tag (name_at (kind_names registry.kinds) kind) (kind_attrs registry.kinds kind) test ++ codes "/>") (q.Whole kind test)
  unfolding expr_tokens
  whole_reads kind test h v at rest =
      let name = name_at (kind_names registry.kinds) kind in
      let names = kind_attrs registry.kinds kind in
      let m = spaced_reads names (kind_attrs_fit registry kind valid h) test v (past name (suc at)) (47 ∷ 62 ∷ rest) in
      record {
        tree = tree.WholeTag (suc at) name m.tree;
        spelled = tag_spelled at name (spaced names test) (codes "/>") rest t.WholeEnd (maybe_tokens m.tree) (kind_named registry kind valid h) (tag_gap names test (codes "/>") rest refl) m.spelled
            (λ a. whole_end a rest);
        means = λ d. ap (λ found. q.Whole (or_first found) (maybe_test (elim found [ Some k ↦ kind_attrs registry.kinds k | None ↦ [] ]) d m.tree)) (kind_found registry kind valid h)
            ∙ ap (q.Whole kind) (m.means d);
        known = ap (λ found. first_of (undeclared (suc at) found) (maybe_unknown (elim found [ Some k ↦ kind_attrs registry.kinds k | None ↦ [] ]) m.tree)) (kind_found registry kind valid h) ∙ m.known;
        ranged = refl;
        labelled = refl;
        labels = λ n. refl;
      }

  end_reads : (kind : ℕ) → kind < length registry.kinds → Reads registry Atom (codes "</" ++ (name_at (kind_names registry.kinds) kind ++ codes ">")) (q.End kind)
  unfolding expr_tokens
  end_reads kind h at rest =
      let name = name_at (kind_names registry.kinds) kind in
      record {
        tree = tree.EndTag (suc (suc at)) name;
        spelled = then {xs = codes "</"} {ys = name ++ codes ">"} {rest = rest} (closing_tag at _)
            (then {xs = name} {ys = codes ">"} {rest = rest} (word (suc (suc at)) name (62 ∷ rest) (kind_named registry kind valid h) refl) (tag_end _ rest));
        means = λ d. ap (λ found. q.End (or_first found)) (kind_found registry kind valid h);
        known = ap (undeclared (suc (suc at))) (kind_found registry kind valid h);
        ranged = refl;
        labelled = refl;
        labels = λ n. refl;
      }

  -- a printed expression is read as itself
  pub expr_reads : (rank : Rank) (expr : q.Expr) → ValidExpr registry expr → Reads registry rank (printed_expr registry rank expr) expr
  expr_reads rank (q.TokenTest label test) v =
      atom_at registry rank _ _ (token_reads registry _ label test v.0 (maybe_reads OfToken (attr_names registry.attrs) (attrs_fit registry valid) test v.1))
  expr_reads rank (q.Begin kind test) v = atom_at registry rank _ _ (begin_reads kind test v.0 v.1)
  expr_reads rank (q.End kind) v = atom_at registry rank _ _ (end_reads kind v)
  expr_reads rank (q.Whole kind test) v = atom_at registry rank _ _ (whole_reads kind test v.0 v.1)
  expr_reads rank (q.Seq left right) v =
      sequence_at registry rank _ _ (seq_reads registry _ _ left right v.2 (expr_reads Sequence left v.0) (expr_reads Item right v.1))
  expr_reads rank (q.Choice left right) v = choice_at registry rank _ _ (choice_reads registry _ _ left right (expr_reads Choice left v.0) (expr_reads Sequence right v.1))
  expr_reads rank (q.Repeat inner fewest most) v = item_at registry rank _ _ (repeat_reads registry _ inner fewest most v.1 v.2 v.3 (expr_reads Atom inner v.0))
