-- A printed test is read as itself.
use Rattle.std.proofs.Common.{ℕ, suc, ◌≡◌, ◌<◌, true, false, List, [], ◌∷◌, ◌++◌, None, Some, Option, refl, sym, ap, arith, length, get_or}
use Rattle.std.specs.Prelude.{codes, ◌==◌, ◌||◌}
use Rattle.std.specs.List.{All}
use Rattle.std.proofs.lemmas.Bool.Decides.{nat_tests}
use Rattle.std.proofs.lemmas.Option.{slice_get-get_or}
use Rattle.mt_text_spec.specs.Registries.{AreDistinct}
use Rattle.mt_text_spec.specs.Words.{is_identifier_start, is_identifier_byte, IsIdentifier}
use Rattle.mt_text_spec.specs.Queries as q
use Rattle.mt_query_spec.specs.Tokens.{Token, Mark, string_length, lexeme}
use Rattle.mt_query_spec.specs.Tokens as t
use Rattle.mt_query_spec.specs.Trees.{Tested, OfToken, OfTag, Comparison, Accepts, Refuses, Equals, Differs, comparison_sign, TestRank, Unary, Conjunction, TestTree, test_tokens, maybe_tokens}
use Rattle.mt_query_spec.specs.Trees as tree
use Rattle.mt_query_spec.specs.Meaning.{number_of, undeclared, compared, test_of, test_unknown, maybe_test, maybe_unknown}
use Rattle.mt_query_spec.specs.Printed.{name_at, escaped, bracketed, brackets_both, brackets_either, printed_test}
use Rattle.mt_query_spec.specs.Valid.{ValidTest, ValidMaybe}
use Rattle.mt_query_laws.proofs.Lexing.{past, Spells, then, word, string, lexeme_spells}
use Rattle.mt_query_laws.proofs.Quoting.{pattern_length, pattern_kept, literal_length, literal_kept}
use Rattle.mt_query_laws.proofs.Numbering.{number_found}

-- names that can be told from each other and from all else
pub record Fit (names : List (List ℕ)) : Type 0 where
  pub each : All IsIdentifier names
  pub distinct : AreDistinct names

pub name_fits : (names : List (List ℕ)) (n : ℕ) → Fit names → n < length names → IsIdentifier (name_at names n)
name_fits names n fit h = fit.each n [] h

pub name_found : (names : List (List ℕ)) (n : ℕ) → Fit names → n < length names → number_of names (name_at names n) ≡ Some n
name_found names n fit h = sym (number_found names (name_at names n) n fit.distinct (slice_get-get_or names n [] h))

-- ## Signs

pub open_round : (at : ℕ) (rest : List ℕ) → Spells at (codes "(") rest (Mark t.OpenRound ∷ [])
unfolding t.tokens_from lexeme
open_round at rest = record { is = refl }

pub close_round : (at : ℕ) (rest : List ℕ) → Spells at (codes ")") rest (Mark t.CloseRound ∷ [])
unfolding t.tokens_from lexeme
close_round at rest = record { is = refl }

pub and_sign : (at : ℕ) (rest : List ℕ) → Spells at (codes " & ") rest (Mark t.And ∷ [])
unfolding t.tokens_from lexeme
and_sign at rest = record { is = refl }

pub bar_sign : (at : ℕ) (rest : List ℕ) → Spells at (codes " | ") rest (Mark t.Bar ∷ [])
unfolding t.tokens_from lexeme
bar_sign at rest = record { is = refl }

accepts_sign : (at : ℕ) (rest : List ℕ) → Spells at (codes "=") (34 ∷ rest) (Mark t.Is ∷ [])
unfolding t.tokens_from lexeme
accepts_sign at rest = record { is = refl }

refuses_sign : (at : ℕ) (rest : List ℕ) → Spells at (codes "!=") (34 ∷ rest) (Mark t.IsNot ∷ [])
unfolding t.tokens_from lexeme
refuses_sign at rest = record { is = refl }

equals_sign : (at : ℕ) (rest : List ℕ) → Spells at (codes "==") (34 ∷ rest) (Mark t.Same ∷ [])
unfolding t.tokens_from lexeme
equals_sign at rest = record { is = refl }

differs_sign : (at : ℕ) (rest : List ℕ) → Spells at (codes "!==") (34 ∷ rest) (Mark t.Differs ∷ [])
unfolding t.tokens_from lexeme
differs_sign at rest = record { is = refl }

bang_long : (rest : List ℕ) → (get_or rest 0 0 == 61) ≡ false → t.long_sign 33 rest ≡ None
bang_long rest h = rw (h, t.long_sign) refl

bang_sign : (at : ℕ) (rest : List ℕ) → (get_or rest 0 0 == 61) ≡ false → Spells at (codes "!") rest (Mark t.Bang ∷ [])
unfolding lexeme
bang_sign at rest h = lexeme_spells at 33 [] rest (Mark t.Bang) refl (rw (bang_long rest h, t.sign_at) refl)

-- ## What is read

pub record WrittenTest (of : Tested) (names : List (List ℕ)) (rank : TestRank) (bytes : List ℕ) (test : q.Test) (at : ℕ) (rest : List ℕ) : Type 0 where
  pub tree : TestTree of rank
  pub spelled : Spells at bytes rest (test_tokens tree)
  pub means : (default : ℕ) → test_of names default tree ≡ test
  pub known : test_unknown names tree ≡ None

-- these bytes are read as a test, at each place and before each rest
abbrev pub Reads : Tested → List (List ℕ) → TestRank → List ℕ → q.Test → Type 0
Reads of names rank bytes test = (at : ℕ) (rest : List ℕ) → WrittenTest of names rank bytes test at rest

module _ (of : Tested) (names : List (List ℕ)) where
  as_conjunction : (bytes : List ℕ) (test : q.Test) → Reads of names Unary bytes test → Reads of names Conjunction bytes test
  unfolding test_tokens
  as_conjunction bytes test r at rest = let w = r at rest in record { tree = tree.One w.tree; spelled = w.spelled; means = w.means; known = w.known }

  as_whole : (bytes : List ℕ) (test : q.Test) → Reads of names Conjunction bytes test → Reads of names tree.Whole bytes test
  unfolding test_tokens
  as_whole bytes test r at rest = let w = r at rest in record { tree = tree.Sole w.tree; spelled = w.spelled; means = w.means; known = w.known }

  in_brackets : (bytes : List ℕ) (test : q.Test) → Reads of names tree.Whole bytes test → Reads of names Unary (bracketed true bytes) test
  unfolding test_tokens
  in_brackets bytes test r at rest = let w = r (suc at) (41 ∷ rest) in record {
    tree = tree.Bracketed w.tree;
    spelled = then {xs = codes "("} {ys = bytes ++ codes ")"} {rest = rest} (open_round at _) (then {xs = bytes} {ys = codes ")"} {rest = rest} w.spelled (close_round _ rest));
    means = w.means;
    known = w.known;
  }

  unary_at : (rank : TestRank) (bytes : List ℕ) (test : q.Test) → Reads of names Unary bytes test → Reads of names rank bytes test
  unary_at Unary bytes test r = r
  unary_at Conjunction bytes test r = as_conjunction bytes test r
  unary_at tree.Whole bytes test r = as_whole bytes test (as_conjunction bytes test r)

  conjunction_at : (rank : TestRank) (bytes : List ℕ) (test : q.Test) → Reads of names Conjunction bytes test → Reads of names rank (bracketed (brackets_both rank) bytes) test
  conjunction_at Unary bytes test r = in_brackets bytes test (as_whole bytes test r)
  conjunction_at Conjunction bytes test r = r
  conjunction_at tree.Whole bytes test r = as_whole bytes test r

  whole_at : (rank : TestRank) (bytes : List ℕ) (test : q.Test) → Reads of names tree.Whole bytes test → Reads of names rank (bracketed (brackets_either rank) bytes) test
  whole_at Unary bytes test r = in_brackets bytes test r
  whole_at Conjunction bytes test r = as_conjunction (bracketed true bytes) test (in_brackets bytes test r)
  whole_at tree.Whole bytes test r = r

  both_reads : (xs ys : List ℕ) (left right : q.Test) → Reads of names Conjunction xs left → Reads of names Unary ys right
      → Reads of names Conjunction (xs ++ (codes " & " ++ ys)) (q.Both left right)
  unfolding test_tokens
  both_reads xs ys left right l r at rest =
      let a = l at ((codes " & " ++ ys) ++ rest) in
      let b = r (past (codes " & ") (past xs at)) rest in
      record {
        tree = tree.Both a.tree b.tree;
        spelled = then {xs = xs} {ys = codes " & " ++ ys} {rest = rest} a.spelled (then {xs = codes " & "} {ys = ys} {rest = rest} (and_sign (past xs at) (ys ++ rest)) b.spelled);
        means = λ d. rw (a.means d, b.means d) refl;
        known = rw (a.known, b.known) refl;
      }

  either_reads : (xs ys : List ℕ) (left right : q.Test) → Reads of names tree.Whole xs left → Reads of names Conjunction ys right
      → Reads of names tree.Whole (xs ++ (codes " | " ++ ys)) (q.Either left right)
  unfolding test_tokens
  either_reads xs ys left right l r at rest =
      let a = l at ((codes " | " ++ ys) ++ rest) in
      let b = r (past (codes " | ") (past xs at)) rest in
      record {
        tree = tree.Either a.tree b.tree;
        spelled = then {xs = xs} {ys = codes " | " ++ ys} {rest = rest} a.spelled (then {xs = codes " | "} {ys = ys} {rest = rest} (bar_sign (past xs at) (ys ++ rest)) b.spelled);
        means = λ d. rw (a.means d, b.means d) refl;
        known = rw (a.known, b.known) refl;
      }

  not_reads : (bytes : List ℕ) (test : q.Test) → ((rest : List ℕ) → (get_or (bytes ++ rest) 0 0 == 61) ≡ false) → Reads of names Unary bytes test
      → Reads of names Unary (codes "!" ++ bytes) (q.Not test)
  unfolding test_tokens
  not_reads bytes test begins r at rest = let w = r (suc at) rest in record {
    tree = tree.Not w.tree;
    spelled = then {xs = codes "!"} {ys = bytes} {rest = rest} (bang_sign at (bytes ++ rest) (begins rest)) w.spelled;
    means = λ d. ap q.Not (w.means d);
    known = w.known;
  }

  module _ (fit : Fit names) where
    compared_reads : (attr : ℕ) (comparison : Comparison) (sign content : List ℕ) (test : q.Test) → attr < length names
        → ((xs ys : List ℕ) → is_identifier_byte (get_or ((sign ++ xs) ++ ys) 0 0) ≡ false)
        → ((at : ℕ) (rest : List ℕ) → Spells at sign (34 ∷ rest) (Mark (comparison_sign comparison) ∷ []))
        → ((rest : List ℕ) → string_length false (content ++ 34 ∷ rest) ≡ Some (length content))
        → compared attr comparison content ≡ test
        → Reads of names Unary (name_at names attr ++ (sign ++ (codes "\"" ++ (content ++ codes "\"")))) test
    unfolding test_tokens
    compared_reads attr comparison sign content test h ends signs closes is at rest = record {
      tree = tree.Compared at (name_at names attr) comparison content;
      spelled = then {xs = name_at names attr} {ys = sign ++ (codes "\"" ++ (content ++ codes "\""))} {rest = rest}
          (word at (name_at names attr) ((sign ++ (codes "\"" ++ (content ++ codes "\""))) ++ rest) (name_fits names attr fit h) (ends (codes "\"" ++ (content ++ codes "\"")) rest))
          (then {xs = sign} {ys = codes "\"" ++ (content ++ codes "\"")} {rest = rest} (signs (past (name_at names attr) at) ((content ++ codes "\"") ++ rest)) (string _ content rest (closes rest)));
      means = λ d. rw (name_found names attr fit h) is;
      known = ap (undeclared at) (name_found names attr fit h);
    }

    word_begins : (name xs rest : List ℕ) → IsIdentifier name → (get_or ((name ++ xs) ++ rest) 0 0 == 61) ≡ false
    word_begins [] xs rest h = absurd (omega (arith, h.some))
    word_begins (b ∷ name) xs rest h = let s : is_identifier_start b ≡ true = h.first in grind (arith, nat_tests)

    -- a test alone does not begin with `=`
    begins : (test : q.Test) → ValidTest names test → (rest : List ℕ) → (get_or (printed_test names Unary test ++ rest) 0 0 == 61) ≡ false
    begins q.Any v rest = absurd v
    begins (q.Pattern attr text negated) v rest = word_begins (name_at names attr) _ rest (name_fits names attr fit v.0)
    begins (q.Literal attr text negated) v rest = word_begins (name_at names attr) _ rest (name_fits names attr fit v)
    begins (q.Not inner) v rest = refl
    begins (q.Both left right) v rest = refl
    begins (q.Either left right) v rest = refl

    -- a printed test is read as itself
    pub test_reads : (rank : TestRank) (test : q.Test) → ValidTest names test → Reads of names rank (printed_test names rank test) test
    test_reads rank q.Any v = absurd v
    test_reads rank (q.Pattern attr text false) v = unary_at rank _ _
        (compared_reads attr Accepts (codes "=") (escaped (λ b. b == 34) text) _ v.0 (λ xs ys. refl) accepts_sign (λ rest. pattern_length false text rest v.1)
        (ap (λ x. q.Pattern attr x false) (pattern_kept text false v.1)))
    test_reads rank (q.Pattern attr text true) v = unary_at rank _ _
        (compared_reads attr Refuses (codes "!=") (escaped (λ b. b == 34) text) _ v.0 (λ xs ys. refl) refuses_sign (λ rest. pattern_length false text rest v.1)
        (ap (λ x. q.Pattern attr x true) (pattern_kept text false v.1)))
    test_reads rank (q.Literal attr text false) v = unary_at rank _ _
        (compared_reads attr Equals (codes "==") (escaped (λ b. b == 34 || b == 92) text) _ v (λ xs ys. refl) equals_sign (λ rest. literal_length text rest)
        (ap (λ x. q.Literal attr x false) (literal_kept text)))
    test_reads rank (q.Literal attr text true) v = unary_at rank _ _
        (compared_reads attr Differs (codes "!==") (escaped (λ b. b == 34 || b == 92) text) _ v (λ xs ys. refl) differs_sign (λ rest. literal_length text rest)
        (ap (λ x. q.Literal attr x true) (literal_kept text)))
    test_reads rank (q.Not inner) v = unary_at rank _ _ (not_reads _ inner (begins inner v) (test_reads Unary inner v))
    test_reads rank (q.Both left right) v = conjunction_at rank _ _ (both_reads _ _ left right (test_reads Conjunction left v.0) (test_reads Unary right v.1))
    test_reads rank (q.Either left right) v = whole_at rank _ _ (either_reads _ _ left right (test_reads tree.Whole left v.0) (test_reads Conjunction right v.1))

-- ## A test or none

pub record WrittenMaybe (of : Tested) (names : List (List ℕ)) (bytes : List ℕ) (test : q.Test) (at : ℕ) (rest : List ℕ) : Type 0 where
  pub tree : Option (TestTree of tree.Whole)
  pub spelled : Spells at bytes rest (maybe_tokens tree)
  pub means : (default : ℕ) → maybe_test names default tree ≡ test
  pub known : maybe_unknown names tree ≡ None

abbrev pub ReadsMaybe : Tested → List (List ℕ) → List ℕ → q.Test → Type 0
ReadsMaybe of names bytes test = (at : ℕ) (rest : List ℕ) → WrittenMaybe of names bytes test at rest

some_test : (of : Tested) (names : List (List ℕ)) (bytes : List ℕ) (test : q.Test) → Reads of names tree.Whole bytes test → ReadsMaybe of names bytes test
some_test of names bytes test r at rest = let w = r at rest in record { tree = Some w.tree; spelled = w.spelled; means = w.means; known = w.known }

pub maybe_reads : (of : Tested) (names : List (List ℕ)) → Fit names → (test : q.Test) → ValidMaybe names test → ReadsMaybe of names (printed_test names tree.Whole test) test
maybe_reads of names fit q.Any v = λ at rest. record { tree = None; spelled = record { is = refl }; means = λ d. refl; known = refl }
maybe_reads of names fit (q.Pattern attr text negated) v = some_test of names _ _ (test_reads of names fit tree.Whole (q.Pattern attr text negated) v)
maybe_reads of names fit (q.Literal attr text negated) v = some_test of names _ _ (test_reads of names fit tree.Whole (q.Literal attr text negated) v)
maybe_reads of names fit (q.Not inner) v = some_test of names _ _ (test_reads of names fit tree.Whole (q.Not inner) v)
maybe_reads of names fit (q.Both left right) v = some_test of names _ _ (test_reads of names fit tree.Whole (q.Both left right) v)
maybe_reads of names fit (q.Either left right) v = some_test of names _ _ (test_reads of names fit tree.Whole (q.Either left right) v)
