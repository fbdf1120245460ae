-- The parts of lists, and the texts of a corpus that has one more.
use Rattle.std.proofs.Common.{◌≡◌, zero, suc, ◌+◌, List, [], ◌∷◌, ◌++◌, length, length-append, sym, subst, refl, arith}
use Rattle.std.specs.List.{All, Contains}
use Rattle.std.proofs.lemmas.Grind.{flat_map-append}
use Rattle.std.proofs.lemmas.List.{get_or_append_left, get_or-append-add}
use Rattle.mt_text_spec.specs.Texts.{Text}
use Rattle.mt_corpus_spec.specs.Groups.{Group, alone, corpus_of, live_texts}

module _ {X : Type 0} where
  pub left_part : (P : X → Type 0) (xs ys : List X) → All P (xs ++ ys) → All P xs
  left_part P xs ys h = λ k d l. subst P (get_or_append_left xs ys d k l) (h k d (omega (arith, l, length-append xs ys)))

  pub right_part : (P : X → Type 0) (xs ys : List X) → All P (xs ++ ys) → All P ys
  right_part P xs ys h = λ k d l. subst P (get_or-append-add xs ys k d) (h (length xs + k) d (omega (arith, l, length-append xs ys)))

  pub only_one : (x y : X) → Contains (x ∷ []) y → y ≡ x
  only_one x y (zero, l, e) = sym e
  only_one x y (suc k, l, e) = absurd (omega (arith, l))

  pub contains_one : (x : X) → Contains (x ∷ []) x
  contains_one x = (0, omega arith, refl)

pub corpus_more : (groups : List Group) (text : Text) → corpus_of (groups ++ alone text ∷ []) ≡ corpus_of groups ++ text ∷ []
corpus_more groups text = flat_map-append live_texts groups (alone text ∷ [])
