-- One mark more.
use Rattle.std.proofs.Common.{◌≡◌, ℕ, ◌+◌, Bool, List, [], ◌∷◌, ◌++◌, length, take, slice_get, Some, Decides, suc, refl, sym, ◌∙◌, ap, subst}
use Rattle.std.specs.List.{AllZip}
use Rattle.std.proofs.lemmas.List.{take_more}
use Rattle.std.proofs.lemmas.Option.{get_or_from_slice_get, slice_get_within}
use Rattle.mt_rows.specs.Marks.{Tell}

behind : {X Y : Type 0} (R : X → Y → Type 0) (xs : List X) (ys : List Y) (x : X) (y : Y) → AllZip R xs ys → R x y → AllZip R (xs ++ x ∷ []) (ys ++ y ∷ [])
behind R [] [] x y all one = (one, tt)
behind R [] (b ∷ ys) x y all one = absurd all
behind R (a ∷ xs) [] x y all one = absurd all
behind R (a ∷ xs) (b ∷ ys) x y all one = (all.0, behind R xs ys x y all.1 one)

pub one_more : {X : Type 0} (Q : X → Type 0) (items : List X) (old new : List Bool) (i : ℕ) (item : X) (mark : Bool) → slice_get items i ≡ Some item → new ≡ old ++ mark ∷ [] → Decides mark (Q item) → Tell Q (take i items) old → Tell Q (take (i + 1) items) new
one_more {X} Q items old new i item mark at pushed d tell =
    let longer : take (i + 1) items ≡ take i items ++ item ∷ [] = take_more items i item (slice_get_within items i item at) ∙ ap (λ (x : X). take i items ++ x ∷ []) (get_or_from_slice_get items i item item at) in
    subst (λ (marks : List Bool). Tell Q (take (i + 1) items) marks) (sym pushed)
    (subst (λ (xs : List X). Tell Q xs (old ++ mark ∷ [])) (sym longer) (behind (λ x b. Decides b (Q x)) (take i items) old item mark tell d))

pub same_length : {X Y : Type 0} (R : X → Y → Type 0) (xs : List X) (ys : List Y) → AllZip R xs ys → length ys ≡ length xs
same_length R [] [] all = refl
same_length R [] (b ∷ ys) all = absurd all
same_length R (a ∷ xs) [] all = absurd all
same_length R (a ∷ xs) (b ∷ ys) all = ap suc (same_length R xs ys all.1)
