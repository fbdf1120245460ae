-- Labels of parts together.
use Rattle.std.proofs.Common.{◌≡◌, ◌≢◌, ℕ, zero, suc, ◌+◌, ◌-◌, ◌<◌, List, [], ◌∷◌, length, set, replicate, get_or, refl, sym, ◌∙◌, ap, inl, inr, arith, Bool, true, false, eqb-true, eq-eqb, length-set}
use Rattle.std.specs.Prelude.{◌==◌, if◌then◌else◌}
use Rattle.std.proofs.lemmas.Bool.{cases_eq}
use Rattle.std.proofs.lemmas.List.{get_or_past}
use Rattle.mt_text_spec.specs.Texts.{unset}
use Rattle.mt_text_spec.specs.Queries as q
use Rattle.mt_query_spec.specs.Contents.{token_tests}
use Rattle.mt_match_spec.specs.Labels.{no_labels, labelled, united, place_of_either}
use Rattle.mt_eval.specs.Sequences.{labels_from}

is_unset : (p o : ℕ) → p ≡ unset → place_of_either p o ≡ o
is_unset p o e = ap (λ (c : Bool). if c then o else p) (eq-eqb p unset e)

is_set : (p o : ℕ) → p ≢ unset → place_of_either p o ≡ p
is_set p o n = go (p == unset) refl where
  go : (c : Bool) → (p == unset) ≡ c → place_of_either p o ≡ p
  go true e = absurd (n (eqb-true p unset e))
  go false e = ap (λ (c : Bool). if c then o else p) e

either_assoc : (p o q : ℕ) → place_of_either (place_of_either p o) q ≡ place_of_either p (place_of_either o q)
either_assoc p o q = elim (cases_eq p unset) [
  | inl is ↦ ap (λ x. place_of_either x q) (is_unset p o is) ∙ sym (is_unset p (place_of_either o q) is)
  | inr other ↦ ap (λ x. place_of_either x q) (is_set p o other) ∙ is_set p q other ∙ sym (is_set p (place_of_either o q) other)
]

two : (p o : ℕ) (ps os : List ℕ) → p ≡ o → ps ≡ os → p ∷ ps ≡ o ∷ os
two p o ps os e d = ap (λ x. x ∷ ps) e ∙ ap (λ xs. o ∷ xs) d

pub united_assoc : (a b c : List ℕ) → length a ≡ length b → united (united a b) c ≡ united a (united b c)
united_assoc [] b c e = refl
united_assoc (x ∷ a) [] c e = absurd (omega (arith, e))
united_assoc (x ∷ a) (y ∷ b) [] e = refl
united_assoc (x ∷ a) (y ∷ b) (z ∷ c) e =
    two (place_of_either (place_of_either x y) z) (place_of_either x (place_of_either y z)) (united (united a b) c) (united a (united b c)) (either_assoc x y z) (united_assoc a b c (omega (arith, e)))

pub united_length : (a b : List ℕ) → length (united a b) ≡ length a
united_length [] b = refl
united_length (x ∷ a) [] = refl
united_length (x ∷ a) (y ∷ b) = ap suc (united_length a b)

either_unset : (p : ℕ) → place_of_either p unset ≡ p
either_unset p = elim (cases_eq p unset) [ inl is ↦ is_unset p unset is ∙ sym is | inr other ↦ is_set p unset other ]

united_none : (a : List ℕ) → united a (replicate (length a) unset) ≡ a
united_none [] = refl
united_none (x ∷ a) = two (place_of_either x unset) x (united a (replicate (length a) unset)) a (either_unset x) (united_none a)

united_one : (a : List ℕ) (n place : ℕ) → get_or a n 0 ≡ unset → united a (set (replicate (length a) unset) n place) ≡ set a n place
united_one [] n place e = refl
united_one (x ∷ a) zero place e = two (place_of_either x place) place (united a (replicate (length a) unset)) a (is_unset x place e) (united_none a)
united_one (x ∷ a) (suc n) place e = two (place_of_either x unset) x (united a (set (replicate (length a) unset) n place)) (set a n place) (either_unset x) (united_one a n place e)

united_kept : (a : List ℕ) (n place : ℕ) → get_or a n 0 ≢ unset → united a (set (replicate (length a) unset) n place) ≡ a
united_kept [] n place e = refl
united_kept (x ∷ a) zero place e = two (place_of_either x place) x (united a (replicate (length a) unset)) a (is_set x place e) (united_none a)
united_kept (x ∷ a) (suc n) place e = two (place_of_either x unset) x (united a (set (replicate (length a) unset) n place)) a (either_unset x) (united_kept a n place e)

-- ## All nine

pub nine_none : (a : List ℕ) → length a ≡ 9 → united a no_labels ≡ a
nine_none a e = ap (λ n. united a (replicate n unset)) (sym e) ∙ united_none a

pub nine_one : (a : List ℕ) (n place : ℕ) → length a ≡ 9 → get_or a n 0 ≡ unset → united a (labelled (suc n) place) ≡ set a n place
nine_one a n place e u = ap (λ k. united a (set (replicate k unset) n place)) (sym e) ∙ united_one a n place u

pub nine_kept : (a : List ℕ) (n place : ℕ) → length a ≡ 9 → get_or a n 0 ≢ unset → united a (labelled (suc n) place) ≡ a
nine_kept a n place e u = ap (λ k. united a (set (replicate k unset) n place)) (sym e) ∙ united_kept a n place u

pub labelled_length : (label place : ℕ) → length (labelled label place) ≡ 9
labelled_length zero place = refl
labelled_length (suc n) place = length-set no_labels n place

-- ## One label

pub label_set : (a : List ℕ) (label place : ℕ) → length a ≡ 9 → 0 < label → get_or a (label - 1) 0 ≡ unset → set a (label - 1) place ≡ united a (labelled label place)
label_set a zero place nine some u = absurd (omega (arith, some))
label_set a (suc n) place nine some u =
    let e : suc n - 1 ≡ n = omega arith in
    ap (λ k. set a k place) e ∙ sym (nine_one a n place nine (ap (λ k. get_or a k 0) (sym e) ∙ u))

pub label_kept : (a : List ℕ) (label place : ℕ) → length a ≡ 9 → (0 < label → get_or a (label - 1) 0 ≢ unset) → a ≡ united a (labelled label place)
label_kept a zero place nine u = sym (nine_none a nine)
label_kept a (suc n) place nine u =
    let e : suc n - 1 ≡ n = omega arith in
    sym (nine_kept a n place nine (λ is. u (omega arith) (ap (λ k. get_or a k 0) e ∙ is)))

pub past_nine : (a : List ℕ) (label : ℕ) → length a ≡ 9 → 9 < label → get_or a (label - 1) 0 ≢ unset
past_nine a label nine past is = let z : get_or a (label - 1) 0 ≡ 0 = get_or_past a (label - 1) 0 (omega (arith, nine, past)) in let u : 0 ≡ 4294967295 = sym z ∙ is in absurd (omega (arith, u))

-- ## No label before them

none_before : (l : List ℕ) → united (replicate (length l) unset) l ≡ l
none_before [] = refl
none_before (x ∷ l) = two (place_of_either unset x) x (united (replicate (length l) unset) l) l (is_unset unset x refl) (none_before l)

pub only_these : (l : List ℕ) → length l ≡ 9 → united no_labels l ≡ l
only_these l e = ap (λ n. united (replicate n unset) l) (sym e) ∙ none_before l

-- ## Those of a sequence

pub nine_labels : (expr : q.Expr) (begin : ℕ) → length (labels_from expr begin) ≡ 9
nine_labels (q.TokenTest label test) begin = labelled_length label begin
nine_labels (q.Begin kind test) begin = refl
nine_labels (q.End kind) begin = refl
nine_labels (q.Whole kind test) begin = refl
nine_labels (q.Seq left right) begin = united_length (labels_from left begin) (labels_from right (begin + length (token_tests left))) ∙ nine_labels left begin
nine_labels (q.Choice left right) begin = refl
nine_labels (q.Repeat inner least most) begin = refl

-- the labels of one part, and then of another
pub both_labels : (left right : q.Expr) (begin cut : ℕ) (old middle new : List ℕ) → length old ≡ 9 → cut ≡ begin + length (token_tests left) → middle ≡ united old (labels_from left begin) →
    new ≡ united middle (labels_from right cut) → new ≡ united old (labels_from (q.Seq left right) begin)
both_labels left right begin cut old middle new nine at first second =
    second ∙ ap (λ l. united l (labels_from right cut)) first
    ∙ united_assoc old (labels_from left begin) (labels_from right cut) (nine ∙ sym (nine_labels left begin))
    ∙ ap (λ c. united old (united (labels_from left begin) (labels_from right c))) at
