-- Lists whose items change one after another.
use Rattle.std.proofs.Common.{◌≡◌, ℕ, ◌+◌, ◌<◌, ◌≤◌, List, [], ◌∷◌, ◌++◌, length, take, get_or, set, sym, subst, ◌∙◌, arith}
use Rattle.std.specs.List.{AllZip}
use Rattle.std.proofs.lemmas.List.{take_more, take_more_set, length-set, get_or-set_other}
use Rattle.std.proofs.lemmas.List.Elements.{AllZip-push}

-- the items of a list change, one after another
pub record AreTurning {X : Type 0} (R : X → X → Type 0) (old now : List X) (k : ℕ) : Type 0 where
  pub count : length now ≡ length old
  pub done : AllZip R (take k old) (take k now)
  pub rest : (j : ℕ) (d : X) → k ≤ j → get_or now j d ≡ get_or old j d

pub zip_weaker : {A B : Type 0} (R S : A → B → Type 0) (xs : List A) (ys : List B) → ((x : A) (y : B) → R x y → S x y) → AllZip R xs ys → AllZip S xs ys
zip_weaker R S [] [] weaker h = tt
zip_weaker R S [] (y ∷ ys) weaker h = absurd h
zip_weaker R S (x ∷ xs) [] weaker h = absurd h
zip_weaker R S (x ∷ xs) (y ∷ ys) weaker h = (weaker x y h.0, zip_weaker R S xs ys weaker h.1)

pub turning_more : {X : Type 0} (R S : X → X → Type 0) (old now : List X) (k : ℕ) (d y : X) → k < length now → ((x y : X) → R x y → S x y) → AreTurning R old now k → S (get_or now k d) y → AreTurning S old (set now k y) (k + 1)
turning_more {X} R S old now k d y l weaker h is = record {
  count = length-set now k y ∙ h.count;
  done = subst (λ (ys : List X). AllZip S (take (k + 1) old) ys) (sym (take_more_set now k y l))
      (subst (λ (xs : List X). AllZip S xs (take k now ++ y ∷ [])) (sym (take_more old k d (omega (arith, l, h.count))))
      (AllZip-push S (take k old) (take k now) (get_or old k d) y (zip_weaker R S (take k old) (take k now) weaker h.done) (subst (λ (x : X). S x y) (h.rest k d (omega arith)) is)));
  rest = λ j e m. get_or-set_other now k j y e (λ same. absurd (omega (arith, same, m))) ∙ h.rest j e (omega (arith, m));
}
