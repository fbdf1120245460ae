-- An expression that is read from a text is valid.
use Rattle.std.proofs.Common.{ℕ, zero, suc, ◌+◌, ◌≡◌, ◌<◌, ◌≤◌, ◌^◌, Bool, true, false, List, [], ◌∷◌, None, Some, Option, refl, sym, ◌∙◌, ap, arith, length, map, nat_eq, nat_lt, subst}
use Rattle.std.specs.Prelude.{cond, ◌&&◌, is_some}
use Rattle.std.proofs.lemmas.Bool.Decides.{nat_tests}
use Rattle.std.proofs.lemmas.List.{length-map}
use Rattle.mt_text_spec.specs.Registries.{Registry, Kind, attr_names, kind_names, kind_attrs}
use Rattle.mt_query_spec.specs.Tokens.{Token, Quoted, Number, Word, OpenCurly, Mark}
use Rattle.mt_query_spec.specs.Tokens as t
use Rattle.mt_query_spec.specs.Trees.{OfToken, OfTag, TestTree, Label, NoLabel, Labelled, Repetition, Star, Plus, Question, Exactly, From, Between, Rank, Atom, ExprTree, expr_tokens, label_tokens, repetition_tokens, maybe_tokens}
use Rattle.mt_query_spec.specs.Trees as tree
use Rattle.mt_query_spec.specs.Meaning.{number_of, or_first, undeclared, attrs_of_kind, first_of, least_of, least, again, at_label, label_place, label_places, label_number, no_label, label_fault, range_fault, turned_round, least_turns, most_turns, expr_of, expr_unknown, maybe_test, maybe_unknown}
use Rattle.mt_query_spec.specs.Valid.{ValidMaybe, ValidExpr, HasNoLabel, has_label}
use Rattle.mt_query_laws.proofs.SoundTokens.{AllSound, sound_front, sound_back}
use Rattle.mt_query_laws.proofs.ValidTests.{HasDefault, declared, first_none, test_valid, maybe_valid, text_valid}
use Rattle.mt_query_laws.proofs.PrintedQueries.{counted, label_within}
use Rattle.mt_query_laws.proofs.PrintedExprs.{is_some_first, is_some_cond}

pub least_of_none : (a b : Option ℕ) → least_of a b ≡ None → (a ≡ None) × (b ≡ None)
least_of_none None b h = (refl, h)
least_of_none (Some at) None h = cc
least_of_none (Some at) (Some other) h = cc

-- ## Tests

module _ (names : List (List ℕ)) (default : ℕ) where
  some_valid : {of : tree.Tested} (test : Option (TestTree of tree.Whole)) → HasDefault of names default → AllSound (maybe_tokens test) → maybe_unknown names test ≡ None
      → ValidMaybe names (maybe_test names default test)
  some_valid None d s u = tt
  some_valid (Some test) d s u = maybe_valid names (maybe_test names default (Some test)) (test_valid names default test d s u)

-- ## Labels

-- what is known of a label that is not at fault
record GoodLabel (label : Label) : Type 0 where
  small : label_number label < 10
  labels : (n : ℕ) → is_some (at_label n label) ≡ (nat_lt 0 (label_number label) && nat_eq (label_number label) n)

label_good : (label : Label) → no_label label ≡ None → GoodLabel label
label_good NoLabel h = record { small = omega arith; labels = λ n. refl }
label_good (Labelled at number) h = go (nat_lt 0 number) refl (nat_lt number 10) refl h
  where
    go : (some : Bool) → nat_lt 0 number ≡ some → (small : Bool) → nat_lt number 10 ≡ small → cond (some && small) None (Some at) ≡ None → GoodLabel (Labelled at number)
    go true e true f h = record {
      small = rw f (let l : number < 10 = grind (arith, nat_tests) in l);
      labels = λ n. is_some_cond (nat_eq number n) at ∙ rw (f, e) refl;
    }
    go true e false f h = cc
    go false e true f h = cc
    go false e false f h = cc

none_is : (o : Option ℕ) → o ≡ None → is_some o ≡ false
none_is None h = refl
none_is (Some at) h = cc

-- a label that has no place
unplaced : (f : ℕ → Option ℕ) (label n k : ℕ) → least (map f (counted n k)) ≡ None → n ≤ label → label < n + k → f label ≡ None
unplaced f label n zero h l u = absurd (omega arith)
unplaced f label n (suc k) h l u =
    let s = least_of_none (f n) (least (map f (counted (suc n) k))) h in go (nat_eq label n) refl s.0 (λ r. unplaced f label (suc n) k s.1 r (omega arith))
  where
    go : (q : Bool) → nat_eq label n ≡ q → f n ≡ None → (suc n ≤ label → f label ≡ None) → f label ≡ None
    go true e none later = ap f (let m : label ≡ n = grind (arith, nat_tests) in m) ∙ none
    go false e none later = later (let r : suc n ≤ label = grind (arith, nat_tests) in r)

-- a label that has no place in one of two parts
apart : (f g : ℕ → Option ℕ) (label n k : ℕ) → least (again (map f (counted n k)) (map g (counted n k))) ≡ None → n ≤ label → label < n + k → (is_some (f label) && is_some (g label)) ≡ false
apart f g label n zero h l u = absurd (omega arith)
apart f g label n (suc k) h l u = go (nat_eq label n) refl (f n) refl (g n) refl h (λ m r. apart f g label (suc n) k m r (omega arith))
  where
    go : (q : Bool) → nat_eq label n ≡ q → (a : Option ℕ) → f n ≡ a → (b : Option ℕ) → g n ≡ b → least (again (a ∷ map f (counted (suc n) k)) (b ∷ map g (counted (suc n) k))) ≡ None
        → (least (again (map f (counted (suc n) k)) (map g (counted (suc n) k))) ≡ None → suc n ≤ label → (is_some (f label) && is_some (g label)) ≡ false)
        → (is_some (f label) && is_some (g label)) ≡ false
    go true e None a b c h later = let m : label ≡ n = grind (arith, nat_tests) in ap (λ x. is_some (f x) && is_some (g x)) m ∙ ap (λ x. is_some x && is_some (g n)) a
    go true e (Some at) a None c h later =
        let m : label ≡ n = grind (arith, nat_tests) in ap (λ x. is_some (f x) && is_some (g x)) m ∙ ap (λ x. is_some (f n) && is_some x) c ∙ ap (λ x. is_some x && false) a
    go true e (Some at) a (Some other) c h later =
        let p = least_of_none (Some other) (least (again (map f (counted (suc n) k)) (map g (counted (suc n) k)))) h in let z : ◌≡◌ {A = Option ℕ} (Some other) None = p.0 in cc
    go false e None a b c h later = later h (let r : suc n ≤ label = grind (arith, nat_tests) in r)
    go false e (Some at) a b c h later =
        later (least_of_none b (least (again (map f (counted (suc n) k)) (map g (counted (suc n) k)))) h).1 (let r : suc n ≤ label = grind (arith, nat_tests) in r)

-- ## Expressions

pub record GoodExpr (registry : Registry) (default : ℕ) {rank : Rank} (part : ExprTree rank) : Type 0 where
  pub valid : ValidExpr registry (expr_of registry default part)
  pub labels : (n : ℕ) → is_some (label_place n part) ≡ has_label n (expr_of registry default part)

-- a test of a tag, and the tag's kind
record GoodTag (registry : Registry) (default : ℕ) (name : List ℕ) (test : Option (TestTree OfTag tree.Whole)) : Type 0 where
  kind : or_first (number_of (kind_names registry.kinds) name) < length registry.kinds
  tested : ValidMaybe (kind_attrs registry.kinds (or_first (number_of (kind_names registry.kinds) name))) (maybe_test (attrs_of_kind registry name) default test)

kind_good : (registry : Registry) (at : ℕ) (name : List ℕ) → undeclared at (number_of (kind_names registry.kinds) name) ≡ None
    → or_first (number_of (kind_names registry.kinds) name) < length registry.kinds
kind_good registry at name u =
    let n = declared (kind_names registry.kinds) at name u in
    let l = length-map registry.kinds (λ (kind : Kind). kind.name) in
    subst (λ found. or_first found < length registry.kinds) (sym n.is) (let w = n.within in omega arith)

tag_good : (registry : Registry) (default at : ℕ) (name : List ℕ) (test : Option (TestTree OfTag tree.Whole))
    → first_of (undeclared at (number_of (kind_names registry.kinds) name)) (maybe_unknown (attrs_of_kind registry name) test) ≡ None → AllSound (maybe_tokens test)
    → GoodTag registry default name test
tag_good registry default at name test u s =
    let p = first_none (undeclared at (number_of (kind_names registry.kinds) name)) (maybe_unknown (attrs_of_kind registry name) test) u in
    let n = declared (kind_names registry.kinds) at name p.0 in
    let e : attrs_of_kind registry name ≡ kind_attrs registry.kinds (or_first (number_of (kind_names registry.kinds) name)) =
    ap (λ found. elim found [ Some k ↦ kind_attrs registry.kinds k | None ↦ [] ]) n.is ∙ ap (λ found. kind_attrs registry.kinds (or_first found)) (sym n.is) in
    record {
      kind = kind_good registry at name p.0;
      tested = subst (λ names. ValidMaybe names (maybe_test (attrs_of_kind registry name) default test)) e (some_valid (attrs_of_kind registry name) default test tt s p.1);
    }

-- what is known of the bounds of a repetition
record GoodTurns (r : Repetition) : Type 0 where
  ordered : least_turns r ≤ most_turns r
  small : most_turns r < 10 ^ 9

turns_good : (r : Repetition) → turned_round r ≡ None → AllSound (repetition_tokens r) → GoodTurns r
turns_good Star h s = record { ordered = omega arith; small = omega arith }
turns_good Plus h s = record { ordered = omega arith; small = omega arith }
turns_good Question h s = record { ordered = omega arith; small = omega arith }
turns_good (Exactly at n_at n) h s = record { ordered = omega arith; small = s.1.0 }
turns_good (From at n_at n) h s = let l : n < 10 ^ 9 = s.1.0 in record { ordered = omega arith; small = omega arith }
turns_good (Between at n_at n m_at m) h s = record { ordered = go (nat_lt m n) refl h; small = s.1.1.1.0 }
  where
    go : (q : Bool) → nat_lt m n ≡ q → cond q (Some at) None ≡ None → n ≤ m
    go true e h = cc
    go false e h = grind (arith, nat_tests)

not_both : (p q : Bool) → ((p ≡ true) → (q ≡ true) → ⊥) → (p && q) ≡ false
not_both true true h = absurd (h refl refl)
not_both true false h = refl
not_both false q h = refl

not_true : (p : Bool) → (p ≡ true → ⊥) → p ≡ false
not_true true h = absurd (h refl)
not_true false h = refl

module _ (registry : Registry) (default : ℕ) where
  -- no label of a part has a place
  pub no_labels : {rank : Rank} (part : ExprTree rank) → GoodExpr registry default part → least (label_places part) ≡ None → HasNoLabel (expr_of registry default part)
  no_labels part g h n = not_true (has_label n (expr_of registry default part)) (λ e.
      let l = label_within registry (expr_of registry default part) g.valid n e in
      let a : n < 1 + 9 = omega (arith, l.small) in
      let b : 1 ≤ n = omega (arith, l.some) in
      let k = none_is (label_place n part) (unplaced (λ m. label_place m part) n 1 9 h b a) in
      let m = g.labels n in cc)

  apart_parts : {rank other : Rank} (left : ExprTree rank) (right : ExprTree other) → GoodExpr registry default left → GoodExpr registry default right
      → least (again (label_places left) (label_places right)) ≡ None → (n : ℕ) → (has_label n (expr_of registry default left) && has_label n (expr_of registry default right)) ≡ false
  apart_parts left right g h k n = not_both (has_label n (expr_of registry default left)) (has_label n (expr_of registry default right)) (λ e f.
      let l = label_within registry (expr_of registry default left) g.valid n e in
      let a : n < 1 + 9 = omega (arith, l.small) in
      let b : 1 ≤ n = omega (arith, l.some) in
      let p = apart (λ m. label_place m left) (λ m. label_place m right) n 1 9 k b a in
      let q : (is_some (label_place n left) && is_some (label_place n right)) ≡ true = rw (g.labels n, h.labels n, e, f) refl in
      cc)

  pub expr_good : {rank : Rank} (part : ExprTree rank) → default < length (attr_names registry.attrs) → AllSound (expr_tokens part) → expr_unknown registry part ≡ None → range_fault part ≡ None
      → label_fault part ≡ None → GoodExpr registry default part
  unfolding expr_tokens
  expr_good (tree.TokenTest label test) d s u r l =
      let g = label_good label l in
      record {
        valid = (g.small, some_valid (attr_names registry.attrs) default test d (sound_front (maybe_tokens test) (Mark t.CloseSquare ∷ []) (sound_back (label_tokens label) _ s).1) u);
        labels = g.labels;
      }
  expr_good (tree.String label content) d s u r l =
      let g = label_good label l in
      record { valid = (g.small, (d, text_valid false content (sound_back (label_tokens label) (Quoted content ∷ []) s).0)); labels = g.labels }
  expr_good (tree.BeginTag at name test) d s u r l =
      let g = tag_good registry default at name test u (sound_front (maybe_tokens test) (Mark t.TagEnd ∷ []) s.1.1) in
      record { valid = (g.kind, g.tested); labels = λ n. refl }
  expr_good (tree.WholeTag at name test) d s u r l =
      let g = tag_good registry default at name test u (sound_front (maybe_tokens test) (Mark t.WholeEnd ∷ []) s.1.1) in
      record { valid = (g.kind, g.tested); labels = λ n. refl }
  expr_good (tree.EndTag at name) d s u r l = record { valid = kind_good registry at name u; labels = λ n. refl }
  expr_good (tree.Group inner) d s u r l =
      let g = expr_good inner d (sound_front (expr_tokens inner) (Mark t.CloseRound ∷ []) s.1) u r l in record { valid = g.valid; labels = g.labels }
  expr_good (tree.Once inner) d s u r l = let g = expr_good inner d s u r l in record { valid = g.valid; labels = g.labels }
  expr_good (tree.Repeated inner repetition) d s u r l =
      let a = least_of_none (range_fault inner) (turned_round repetition) r in
      let b = least_of_none (label_fault inner) (cond (nat_lt 1 (most_turns repetition)) (least (label_places inner)) None) l in
      let g = expr_good inner d (sound_front (expr_tokens inner) (repetition_tokens repetition) s) u a.0 b.0 in
      let k = turns_good repetition a.1 (sound_back (expr_tokens inner) (repetition_tokens repetition) s) in
      record { valid = (g.valid, k.ordered, k.small, λ many. no_labels inner g (many_none (most_turns repetition) (least (label_places inner)) many b.1)); labels = g.labels }
    where
      many_none : (most : ℕ) (o : Option ℕ) → 1 < most → cond (nat_lt 1 most) o None ≡ None → o ≡ None
      many_none most o h e = let k : nat_lt 1 most ≡ true = grind (arith, nat_tests) in sym (ap (λ q. cond q o None) k) ∙ e
  expr_good (tree.First item) d s u r l = let g = expr_good item d s u r l in record { valid = g.valid; labels = g.labels }
  expr_good (tree.Then left right) d s u r l =
      let x = first_none (expr_unknown registry left) (expr_unknown registry right) u in
      let y = least_of_none (range_fault left) (range_fault right) r in
      let z = least_of_none (label_fault left) (least_of (label_fault right) (least (again (label_places left) (label_places right)))) l in
      let w = least_of_none (label_fault right) (least (again (label_places left) (label_places right))) z.1 in
      let g = expr_good left d (sound_front (expr_tokens left) (expr_tokens right) s) x.0 y.0 z.0 in
      let h = expr_good right d (sound_back (expr_tokens left) (expr_tokens right) s) x.1 y.1 w.0 in
      record {
        valid = (g.valid, h.valid, apart_parts left right g h w.1);
        labels = λ n. is_some_first (label_place n left) (label_place n right) ∙ rw (g.labels n, h.labels n) refl;
      }
  expr_good (tree.Branch sequence) d s u r l = let g = expr_good sequence d s u r l in record { valid = g.valid; labels = g.labels }
  expr_good (tree.Or left right) d s u r l =
      let x = first_none (expr_unknown registry left) (expr_unknown registry right) u in
      let y = least_of_none (range_fault left) (range_fault right) r in
      let z = least_of_none (label_fault left) (label_fault right) l in
      let g = expr_good left d (sound_front (expr_tokens left) (Mark t.Bar ∷ expr_tokens right) s) x.0 y.0 z.0 in
      let h = expr_good right d (sound_back (expr_tokens left) (Mark t.Bar ∷ expr_tokens right) s).1 x.1 y.1 z.1 in
      record { valid = (g.valid, h.valid); labels = λ n. is_some_first (label_place n left) (label_place n right) ∙ rw (g.labels n, h.labels n) refl }
