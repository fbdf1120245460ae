-- The labels of a match stand at tokens of the text.
use Rattle.std.proofs.Common.{◌≡◌, ◌≢◌, ℕ, zero, suc, ◌<◌, ◌==◌, inl, inr, Bool, true, false, if◌then◌else◌, List, [], ◌∷◌, replicate, slice_set, slice_get, Some, refl, sym, ◌∙◌, ap, subst}
use Rattle.mt_text_spec.specs.Texts.{unset}
use Rattle.mt_text_spec.specs.Queries.{Expr, TokenTest, Begin, End, Whole, Seq, Choice, Repeat}
use Rattle.mt_match_spec.specs.Labels.{no_labels, labelled, place_of_either, united, IsSetTo}
use Rattle.mt_match_spec.specs.Matches.{Sight, Relation, Matches, Turns}

-- each label that is set stands below n
abbrev Inside : ℕ → List ℕ → Type 0
Inside n [] = Unit {0}
Inside n (place ∷ places) = (place ≢ unset → place < n) × Inside n places

none_inside : (n k : ℕ) → Inside n (replicate k unset)
none_inside n zero = tt
none_inside n (suc k) = (λ set. absurd (set refl), none_inside n k)

one_inside : (n at place : ℕ) (labels : List ℕ) → place < n → Inside n labels → Inside n (slice_set labels at place)
one_inside n at place [] l h = tt
one_inside n zero place (p ∷ ps) l h = (λ set. l, h.1)
one_inside n (suc at) place (p ∷ ps) l h = (h.0, one_inside n at place ps l h.1)

either_inside : (n place other : ℕ) → (place ≢ unset → place < n) → (other ≢ unset → other < n) → place_of_either place other ≢ unset → place_of_either place other < n
either_inside n place other h k = by (place == unset) refl
  where
    by : (b : Bool) → (place == unset) ≡ b → (if place == unset then other else place) ≢ unset → (if place == unset then other else place) < n
    by true e set = subst (λ c. (if c then other else place) < n) (sym e) (k (λ is. set (ap (λ c. if c then other else place) e ∙ is)))
    by false e set = subst (λ c. (if c then other else place) < n) (sym e) (h (λ is. set (ap (λ c. if c then other else place) e ∙ is)))

both_inside : (n : ℕ) (labels others : List ℕ) → Inside n labels → Inside n others → Inside n (united labels others)
both_inside n [] others h k = tt
both_inside n (p ∷ ps) [] h k = h
both_inside n (p ∷ ps) (o ∷ os) h k = (either_inside n p o h.0 k.0, both_inside n ps os h.1 k.1)

turns_inside : (n : ℕ) (R : Relation) → ((b f : ℕ) (labels : List ℕ) → R b f labels → Inside n labels) → (count b f : ℕ) (labels : List ℕ) → Turns R count b f labels → Inside n labels
turns_inside n R each zero b f labels h = subst (Inside n) (sym h.1) (none_inside n 9)
turns_inside n R each (suc count) b f labels h =
    subst (Inside n) (sym h.unite) (both_inside n h.first_labels h.second_labels (each b h.cut h.first_labels h.first) (turns_inside n R each count h.cut f h.second_labels h.second))

token_inside : (n label place : ℕ) → place < n → Inside n (labelled label place)
token_inside n zero place l = none_inside n 9
token_inside n (suc before) place l = one_inside n before place no_labels l (none_inside n 9)

inside : (s : Sight) (expr : Expr) (b f : ℕ) (labels : List ℕ) → Matches s expr b f labels → Inside s.tokens labels
inside s (TokenTest label test) b f labels m = subst (Inside s.tokens) (sym m.labels_are) (token_inside s.tokens label b m.inside)
inside s (Begin kind test) b f labels m = subst (Inside s.tokens) (sym m.labels_are) (none_inside s.tokens 9)
inside s (End kind) b f labels m = subst (Inside s.tokens) (sym m.labels_are) (none_inside s.tokens 9)
inside s (Whole kind test) b f labels m = subst (Inside s.tokens) (sym m.labels_are) (none_inside s.tokens 9)
inside s (Seq left right) b f labels m =
    subst (Inside s.tokens) (sym m.unite) (both_inside s.tokens m.first_labels m.second_labels (inside s left b m.cut m.first_labels m.first) (inside s right m.cut f m.second_labels m.second))
inside s (Choice left right) b f labels m = elim m [ inl x ↦ inside s left b f labels x | inr y ↦ inside s right b f labels y ]
inside s (Repeat inner least most) b f labels m = turns_inside s.tokens (Matches s inner) (λ c d ls h. inside s inner c d ls h) m.count b f labels m.turns

at_label : (n k place : ℕ) (labels : List ℕ) → Inside n labels → slice_get labels k ≡ Some place → place ≢ unset → place < n
at_label n k place [] h e set = cc
at_label n zero place (p ∷ ps) h e set = let same : p ≡ place = cc in subst (λ q. q < n) same (h.0 (λ is. set (sym same ∙ is)))
at_label n (suc k) place (p ∷ ps) h e set = at_label n k place ps h.1 e set

pub set_inside : (s : Sight) (expr : Expr) (b f : ℕ) (labels : List ℕ) (label place : ℕ) → Matches s expr b f labels → IsSetTo labels label place → place < s.tokens
set_inside s expr b f labels zero place m set = absurd set
set_inside s expr b f labels (suc before) place m set = at_label s.tokens before place labels (inside s expr b f labels m) set.0 set.1
