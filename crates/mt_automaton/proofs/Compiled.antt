-- Parts of expressions compiled, one after another.
use Rattle.std.proofs.Common.{◌≡◌, ℕ, zero, suc, ◌+◌, ◌<◌, ◌≤◌, ◌++◌, ◌&&◌, ◌||◌, [], ◌∷◌, length, get_or, refl, sym, ◌∙◌, ap, subst, arith, Bool, true, false, nat_eq, nat_lt, length-append, eq-eqb, lt-ltb, Result, Ok, Err, IfOk}
use Rattle.std.proofs.lemmas.List.{get_or_append_left, get_or-append-add}
use Rattle.mt_text_spec.specs.Registries.{Registry}
use Rattle.mt_text_spec.specs.Queries as q
use Rattle.mt_query_spec.specs.Valid.{has_label, HasNoLabel, ValidExpr}
use Rattle.mt_query_spec.specs.Contents.{token_tests, tags, IsInOrder}
use Rattle.mt_query_spec.specs.Contents as contents
use Rattle.mt_automaton.specs.declared.part.Part.{Part}
use Rattle.mt_automaton.specs.declared.part.Part.TheVariants as part
use Rattle.mt_automaton.specs.declared.labelled.Labelled.{Labelled}
use Rattle.mt_automaton.specs.declared.labelled.Labelled.TheVariants.{Plain, Token, Seq', Choice'}
use Rattle.mt_automaton.specs.Parts.{Seen, Tag, meant}
use Rattle.mt_automaton.specs.LabelledParts.{labelled_meant}
use Rattle.mt_automaton.specs.Compiled.{Numbers, instances, no_tag, LabelsStand, WritesOut, by_numbers, MatchSame}
use Rattle.mt_automaton.proofs.WrittenOut.{match_same}
use Rattle.mt_automaton.specs.Compiled as w
use Rattle.mt_automaton.specs.Compiling.{IsPlain, Compiles, Counts}

-- ## What a part stands for, by numbers alone

meant_by_numbers : (v : Seen) (p : Part) → meant (by_numbers v.test v.tag) p ≡ meant v p
meant_by_numbers v (part.Token test) = refl
meant_by_numbers v (part.Begin tag) = refl
meant_by_numbers v (part.End tag) = refl
meant_by_numbers v (part.Whole tag) = refl
meant_by_numbers v (part.Seq' p left r right) = ap (λ x. q.Seq x (meant (by_numbers v.test v.tag) right)) (meant_by_numbers v left) ∙ ap (q.Seq (meant v left)) (meant_by_numbers v right)
meant_by_numbers v (part.Choice' p left r right) = ap (λ x. q.Choice x (meant (by_numbers v.test v.tag) right)) (meant_by_numbers v left) ∙ ap (q.Choice (meant v left)) (meant_by_numbers v right)
meant_by_numbers v (part.Repeat' p inner least most) = ap (λ x. q.Repeat x least most) (meant_by_numbers v inner)
meant_by_numbers v (part.Gap least most) = refl

pub labelled_by_numbers : (v : Seen) (p : Labelled) → labelled_meant (by_numbers v.test v.tag) p ≡ labelled_meant v p
labelled_by_numbers v (Plain part) = meant_by_numbers v part
labelled_by_numbers v (Token label test) = refl
labelled_by_numbers v (Seq' p left r right) = ap (λ x. q.Seq x (labelled_meant (by_numbers v.test v.tag) right)) (labelled_by_numbers v left) ∙ ap (q.Seq (labelled_meant v left)) (labelled_by_numbers v right)
labelled_by_numbers v (Choice' p left r right) = ap (λ x. q.Choice x (labelled_meant (by_numbers v.test v.tag) right)) (labelled_by_numbers v left) ∙ ap (q.Choice (labelled_meant v left)) (labelled_by_numbers v right)

-- ## The numbers of two parts

-- an expression with the tests and the tags of two, one after the other
pub record IsOfBoth (left right expr : q.Expr) : Type 0 where
  pub tests : token_tests expr ≡ token_tests left ++ token_tests right
  pub all_tags : tags expr ≡ tags left ++ tags right

left_numbers : (left right expr : q.Expr) (test : ℕ → q.Test) (tag : ℕ → Tag) → IsOfBoth left right expr → Numbers expr test tag → Numbers left test tag
left_numbers left right expr test tag both n = record {
  tests_are = λ i h.
      let long : length (token_tests expr) ≡ length (token_tests left) + length (token_tests right) = ap length both.tests ∙ length-append (token_tests left) (token_tests right) in
      n.tests_are i (omega (arith, h, long)) ∙ ap (λ x. get_or x i q.Any) both.tests ∙ get_or_append_left (token_tests left) (token_tests right) q.Any i h;
  tags_are = λ i h.
      let long : length (tags expr) ≡ length (tags left) + length (tags right) = ap length both.all_tags ∙ length-append (tags left) (tags right) in
      n.tags_are i (omega (arith, h, long)) ∙ ap (λ x. instances (get_or x i no_tag)) both.all_tags ∙ ap instances (get_or_append_left (tags left) (tags right) no_tag i h);
}

right_numbers : (left right expr : q.Expr) (test : ℕ → q.Test) (tag : ℕ → Tag) → IsOfBoth left right expr → Numbers expr test tag
    → Numbers right (λ i. test (length (token_tests left) + i)) (λ i. tag (length (tags left) + i))
right_numbers left right expr test tag both n = record {
  tests_are = λ i h.
      let long : length (token_tests expr) ≡ length (token_tests left) + length (token_tests right) = ap length both.tests ∙ length-append (token_tests left) (token_tests right) in
      n.tests_are (length (token_tests left) + i) (omega (arith, h, long)) ∙ ap (λ x. get_or x (length (token_tests left) + i) q.Any) both.tests ∙ get_or-append-add (token_tests left) (token_tests right) i q.Any;
  tags_are = λ i h.
      let long : length (tags expr) ≡ length (tags left) + length (tags right) = ap length both.all_tags ∙ length-append (tags left) (tags right) in
      n.tags_are (length (tags left) + i) (omega (arith, h, long)) ∙ ap (λ x. instances (get_or x (length (tags left) + i) no_tag)) both.all_tags
      ∙ ap instances (get_or-append-add (tags left) (tags right) i no_tag);
}

-- the numbers of an expression, told by other functions
numbers_again : (expr : q.Expr) (test other : ℕ → q.Test) (tag other_tag : ℕ → Tag) → ((i : ℕ) → other i ≡ test i) → ((i : ℕ) → other_tag i ≡ tag i) → Numbers expr test tag → Numbers expr other other_tag
numbers_again expr test other tag other_tag e d n = record {
  tests_are = λ i h. e i ∙ n.tests_are i h;
  tags_are = λ i h. d i ∙ n.tags_are i h;
}

shifted : (X : Type 0) (f : ℕ → X) (first more second i : ℕ) → second ≡ first + more → f (second + i) ≡ f (first + (more + i))
shifted X f first more second i e = ap f (omega (arith, e))

-- the second part's numbers follow those of the first
next_numbers : (left right expr : q.Expr) (first first_tag second second_tag : ℕ) (test : ℕ → q.Test) (tag : ℕ → Tag) → IsOfBoth left right expr → Counts left first first_tag second second_tag
    → Numbers expr (λ i. test (first + i)) (λ i. tag (first_tag + i)) → Numbers right (λ i. test (second + i)) (λ i. tag (second_tag + i))
next_numbers left right expr first first_tag second second_tag test tag both c n =
    numbers_again right (λ i. test (first + (length (token_tests left) + i))) (λ i. test (second + i)) (λ i. tag (first_tag + (length (tags left) + i))) (λ i. tag (second_tag + i))
    (λ i. shifted q.Test test first (length (token_tests left)) second i c.tests_are) (λ i. shifted Tag tag first_tag (length (tags left)) second_tag i c.tags_are)
    (right_numbers left right expr (λ i. test (first + i)) (λ i. tag (first_tag + i)) both n)

pub counts_both : (left right expr : q.Expr) (a b c d e f : ℕ) → IsOfBoth left right expr → Counts left a b c d → Counts right c d e f → Counts expr a b e f
counts_both left right expr a b c d e f both x y =
    let long : length (token_tests expr) ≡ length (token_tests left) + length (token_tests right) = ap length both.tests ∙ length-append (token_tests left) (token_tests right) in
    let long_tags : length (tags expr) ≡ length (tags left) + length (tags right) = ap length both.all_tags ∙ length-append (tags left) (tags right) in
    record { tests_are = omega (arith, x.tests_are, y.tests_are, long); tags_are = omega (arith, x.tags_are, y.tags_are, long_tags) }

-- ## Parts together

no_left : (a b : Bool) → (a || b) ≡ false → a ≡ false
no_left false b e = refl
no_left true b e = e

no_right : (a b : Bool) → (a || b) ≡ false → b ≡ false
no_right false b e = e
no_right true b e = absurd cc

-- both parts are compiled, so they write out the parts of the expression
record Both (left right : q.Expr) (a b : q.Expr) : Type 0 where
  pub first : WritesOut a left
  pub second : WritesOut b right

both_written : (left right expr : q.Expr) (first first_tag second second_tag : ℕ) (a b : Labelled) → IsOfBoth left right expr → Counts left first first_tag second second_tag
    → Compiles first first_tag left a → Compiles second second_tag right b → (test : ℕ → q.Test) (tag : ℕ → Tag) → Numbers expr (λ i. test (first + i)) (λ i. tag (first_tag + i))
    → Both left right (labelled_meant (by_numbers test tag) a) (labelled_meant (by_numbers test tag) b)
both_written left right expr first first_tag second second_tag a b both c x y test tag n = record {
  first = x.writes_out test tag (left_numbers left right expr (λ i. test (first + i)) (λ i. tag (first_tag + i)) both n);
  second = y.writes_out test tag (next_numbers left right expr first first_tag second second_tag test tag both c n);
}

pub seq_compiles : (left right : q.Expr) (first first_tag second second_tag : ℕ) (a b both : Labelled) → Counts left first first_tag second second_tag
    → Compiles first first_tag left a → Compiles second second_tag right b
    → ((test : ℕ → q.Test) (tag : ℕ → Tag) → labelled_meant (by_numbers test tag) both ≡ q.Seq (labelled_meant (by_numbers test tag) a) (labelled_meant (by_numbers test tag) b))
    → (IsPlain a → IsPlain b → IsPlain both) → Compiles first first_tag (q.Seq left right) both
seq_compiles left right first first_tag second second_tag a b both c x y is plain = record {
  writes_out = λ test tag n.
      let h = both_written left right (q.Seq left right) first first_tag second second_tag a b (record { tests = refl; all_tags = refl }) c x y test tag n in
      subst (λ e. WritesOut e (q.Seq left right)) (sym (is test tag)) (w.seq (labelled_meant (by_numbers test tag) a) (labelled_meant (by_numbers test tag) b) left right h.first h.second);
  plain = λ none. plain (x.plain (λ n. no_left (has_label n left) (has_label n right) (none n))) (y.plain (λ n. no_right (has_label n left) (has_label n right) (none n)));
}

pub choice_compiles : (left right : q.Expr) (first first_tag second second_tag : ℕ) (a b both : Labelled) → Counts left first first_tag second second_tag
    → Compiles first first_tag left a → Compiles second second_tag right b
    → ((test : ℕ → q.Test) (tag : ℕ → Tag) → labelled_meant (by_numbers test tag) both ≡ q.Choice (labelled_meant (by_numbers test tag) a) (labelled_meant (by_numbers test tag) b))
    → (IsPlain a → IsPlain b → IsPlain both) → Compiles first first_tag (q.Choice left right) both
choice_compiles left right first first_tag second second_tag a b both c x y is plain = record {
  writes_out = λ test tag n.
      let h = both_written left right (q.Choice left right) first first_tag second second_tag a b (record { tests = refl; all_tags = refl }) c x y test tag n in
      subst (λ e. WritesOut e (q.Choice left right)) (sym (is test tag)) (w.choice (labelled_meant (by_numbers test tag) a) (labelled_meant (by_numbers test tag) b) left right h.first h.second);
  plain = λ none. plain (x.plain (λ n. no_left (has_label n left) (has_label n right) (none n))) (y.plain (λ n. no_right (has_label n left) (has_label n right) (none n)));
}

pub repeat_compiles : (inner : q.Expr) (least most first first_tag : ℕ) (a part : Labelled) → Compiles first first_tag inner a
    → ((test : ℕ → q.Test) (tag : ℕ → Tag) (expr : q.Expr) → WritesOut (labelled_meant (by_numbers test tag) a) expr → WritesOut (labelled_meant (by_numbers test tag) part) (q.Repeat expr least most))
    → (IsPlain a → IsPlain part) → Compiles first first_tag (q.Repeat inner least most) part
repeat_compiles inner least most first first_tag a part x is plain = record {
  writes_out = λ test tag n. is test tag inner (x.writes_out test tag (record { tests_are = n.tests_are; tags_are = n.tags_are }));
  plain = λ none. plain (x.plain none);
}

-- ## One token, and one tag

both_hold : (a b : Bool) → a ≡ true → b ≡ true → (a && b) ≡ false → ⊥
both_hold true true x y e = cc
both_hold false b x y e = cc
both_hold true false x y e = cc

no_number : (n : ℕ) → (nat_lt 0 n && nat_eq n n) ≡ false → n ≡ 0
no_number zero e = refl
no_number (suc n) e = absurd (both_hold (nat_lt 0 (suc n)) (nat_eq (suc n) (suc n)) (lt-ltb 0 (suc n) (omega arith)) (eq-eqb (suc n) (suc n) refl) e)

pub no_label : (label : ℕ) (test : q.Test) → HasNoLabel (q.TokenTest label test) → label ≡ 0
no_label label test none = no_number label (none label)

-- a tag has the number that comes first
first_tag_is : (expr : q.Expr) (t : contents.Tag) (first_tag : ℕ) (test : ℕ → q.Test) (tag : ℕ → Tag) → tags expr ≡ t ∷ [] → Numbers expr test (λ i. tag (first_tag + i)) → tag first_tag ≡ instances t
first_tag_is expr t first_tag test tag e n =
    let one : length (tags expr) ≡ 1 = ap length e in
    ap tag (omega arith) ∙ n.tags_are 0 (omega (arith, one)) ∙ ap (λ x. instances (get_or x 0 no_tag)) e

pub token_compiles : (label : ℕ) (test : q.Test) (first first_tag : ℕ) (part : Labelled) → ((tests : ℕ → q.Test) (tags : ℕ → Tag) → labelled_meant (by_numbers tests tags) part ≡ q.TokenTest label (tests first))
    → (label ≡ 0 → IsPlain part) → Compiles first first_tag (q.TokenTest label test) part
token_compiles label test first first_tag part is plain = record {
  writes_out = λ tests tags n.
      let here : tests first ≡ test = ap tests (omega arith) ∙ n.tests_are 0 (omega arith) in
      subst (λ e. WritesOut e (q.TokenTest label test)) (sym (is tests tags ∙ ap (q.TokenTest label) here)) (w.same (q.TokenTest label test));
  plain = λ none. plain (no_label label test none);
}

pub begin_compiles : (kind : ℕ) (test : q.Test) (first first_tag : ℕ) → Compiles first first_tag (q.Begin kind test) (Plain (part.Begin first_tag))
begin_compiles kind test first first_tag = record {
  writes_out = λ tests tags n.
      let here = first_tag_is (q.Begin kind test) (record { place = contents.OfBegin; kind = kind; test = test }) first_tag (λ i. tests (first + i)) tags refl n in
      subst (λ e. WritesOut e (q.Begin kind test)) (sym (ap (λ (t : Tag). q.Begin t.kind t.test) here)) (w.same (q.Begin kind test));
  plain = λ none. tt;
}

pub end_compiles : (kind : ℕ) (first first_tag : ℕ) → Compiles first first_tag (q.End kind) (Plain (part.End first_tag))
end_compiles kind first first_tag = record {
  writes_out = λ tests tags n.
      let here = first_tag_is (q.End kind) (record { place = contents.OfEnd; kind = kind; test = q.Any }) first_tag (λ i. tests (first + i)) tags refl n in
      subst (λ e. WritesOut e (q.End kind)) (sym (ap (λ (t : Tag). q.End t.kind) here)) (w.same (q.End kind));
  plain = λ none. tt;
}

pub whole_compiles : (kind : ℕ) (test : q.Test) (first first_tag : ℕ) → Compiles first first_tag (q.Whole kind test) (Plain (part.Whole first_tag))
whole_compiles kind test first first_tag = record {
  writes_out = λ tests tags n.
      let here = first_tag_is (q.Whole kind test) (record { place = contents.OfWhole; kind = kind; test = test }) first_tag (λ i. tests (first + i)) tags refl n in
      subst (λ e. WritesOut e (q.Whole kind test)) (sym (ap (λ (t : Tag). q.Whole t.kind t.test) here)) (w.same (q.Whole kind test));
  plain = λ none. tt;
}

-- ## The whole

pub part_matches : (v : Seen) (part : Labelled) (expr : q.Expr) → WritesOut (labelled_meant (by_numbers v.test v.tag) part) expr → MatchSame v.text (labelled_meant v part) expr
part_matches v part expr x = match_same v.text (subst (λ e. WritesOut e expr) (labelled_by_numbers v part) x)

-- ## Labels

pub order_stands : (expr : q.Expr) → IsInOrder expr → LabelsStand expr
order_stands (q.TokenTest label test) h = tt
order_stands (q.Begin kind test) h = tt
order_stands (q.End kind) h = tt
order_stands (q.Whole kind test) h = tt
order_stands (q.Seq left right) h = (order_stands left h.0, order_stands right h.1)
order_stands (q.Choice left right) h = (order_stands left h.0, order_stands right h.1)
order_stands (q.Repeat inner least most) h = (order_stands inner h.0, h.3)

pub valid_stands : (registry : Registry) (expr : q.Expr) → ValidExpr registry expr → LabelsStand expr
valid_stands registry (q.TokenTest label test) h = tt
valid_stands registry (q.Begin kind test) h = tt
valid_stands registry (q.End kind) h = tt
valid_stands registry (q.Whole kind test) h = tt
valid_stands registry (q.Seq left right) h = (valid_stands registry left h.0, valid_stands registry right h.1)
valid_stands registry (q.Choice left right) h = (valid_stands registry left h.0, valid_stands registry right h.1)
valid_stands registry (q.Repeat inner least most) h = (valid_stands registry inner h.0, h.3)

-- ## Repetitions of one turn at most

pub written_once : (a expr : q.Expr) (least most : ℕ) → least ≡ 1 → most ≡ 1 → WritesOut a expr → WritesOut a (q.Repeat expr least most)
written_once a expr least most e d x = subst (λ k. WritesOut a (q.Repeat expr k most)) (sym e) (subst (λ k. WritesOut a (q.Repeat expr 1 k)) (sym d) (w.once a expr x))

pub written_at_most_once : (any none a b expr : q.Expr) (least most : ℕ) → least ≡ 0 → most ≡ 1 → none ≡ q.Repeat any least 0 → b ≡ a → WritesOut a expr → WritesOut (q.Choice none b) (q.Repeat expr least most)
written_at_most_once any none a b expr least most e d n same x =
    subst (λ k. WritesOut (q.Choice none b) (q.Repeat expr k most)) (sym e)
    (subst (λ k. WritesOut (q.Choice none b) (q.Repeat expr 0 k)) (sym d)
    (subst (λ y. WritesOut (q.Choice y b) (q.Repeat expr 0 1)) (ap (λ k. q.Repeat any k 0) (sym e) ∙ sym n)
    (w.at_most_once any b expr (subst (λ y. WritesOut y expr) (sym same) x))))

written_none : (any expr : q.Expr) (least : ℕ) → WritesOut (q.Repeat any least 0) (q.Repeat expr least 0)
written_none any expr zero = w.no_turn any expr
written_none any expr (suc n) = w.never any expr (suc n) 0 (suc n) 0 (omega arith) (omega arith)

pub written_no_turn : (any expr : q.Expr) (least most : ℕ) → most ≡ 0 → WritesOut (q.Repeat any least 0) (q.Repeat expr least most)
written_no_turn any expr least most e = subst (λ k. WritesOut (q.Repeat any least 0) (q.Repeat expr least k)) (sym e) (written_none any expr least)

pub written_never : (any expr : q.Expr) (least most : ℕ) → 1 < least → most ≤ 1 → WritesOut (q.Repeat any least 0) (q.Repeat expr least most)
written_never any expr least most h l = w.never any expr least 0 least most (omega (arith, h)) (omega (arith, h, l))

pub written_repeat : (a b expr : q.Expr) (least most : ℕ) → a ≡ b → WritesOut a expr → WritesOut (q.Repeat b least most) (q.Repeat expr least most)
written_repeat a b expr least most e x = w.repeat b expr least most (subst (λ y. WritesOut y expr) e x)

-- what follows from two facts of a value, where there is one
pub ok_from_both : {X E : Type 0} (r : Result X E) (P Q S : X → Type 0) → ((x : X) → P x → Q x → S x) → IfOk r P → IfOk r Q → IfOk r S
ok_from_both (Ok x) P Q S f p q = f x p q
ok_from_both (Err e) P Q S f p q = p
