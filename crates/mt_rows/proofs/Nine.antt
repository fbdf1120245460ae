-- The labels of rows, of which the first two and the other seven are kept apart: how many there are, which stand at a place, and what a push, a cut or marks leave.
use Rattle.std.proofs.Common.{◌≡◌, ℕ, zero, suc, ◌+◌, ◌-◌, ◌≤◌, Bool, true, false, List, [], ◌∷◌, ◌++◌, length, take, drop, replicate, slice_get, Some, None, refl, ap, ap₂, sym, ◌∙◌, arith}
use Rattle.std.proofs.lemmas.List.{take-append-drop}
use Rattle.mt_match_spec.specs.Labels.{no_labels}
use Rattle.mt_text_spec.specs.Texts.{unset}
use Rattle.mt_rows.specs.LabelSets.{no_others, all_nine}
use Rattle.mt_rows.specs.Marks.{kept}
use Rattle.mt_rows.proofs.Keeping.{kept_none}
use Rattle.mt_rows.proofs.Joined.{take_none}

-- none of the labels 1 and 2 is set
abbrev no_pair : List ℕ
no_pair = replicate 2 unset

pub nine_length : (pairs others : List (List ℕ)) → length (all_nine pairs others) ≡ length pairs
nine_length [] others = refl
nine_length (p ∷ pairs) [] = ap suc (nine_length pairs [])
nine_length (p ∷ pairs) (o ∷ others) = ap suc (nine_length pairs others)

-- ---- the labels at a place

pub none_at : (pairs others : List (List ℕ)) (i : ℕ) → slice_get pairs i ≡ None → slice_get (all_nine pairs others) i ≡ None
none_at [] others i e = refl
none_at (p ∷ pairs) [] zero e = cc
none_at (p ∷ pairs) (o ∷ others) zero e = cc
none_at (p ∷ pairs) [] (suc i) e = none_at pairs [] i e
none_at (p ∷ pairs) (o ∷ others) (suc i) e = none_at pairs others i e

pub two_at : (pairs others : List (List ℕ)) (i : ℕ) (pair : List ℕ) → slice_get pairs i ≡ Some pair → slice_get others i ≡ None → slice_get (all_nine pairs others) i ≡ Some (pair ++ no_others)
two_at [] others i pair e f = cc
two_at (p ∷ pairs) [] zero pair e f = let same : p ≡ pair = cc in ap (λ (q : List ℕ). Some (q ++ no_others)) same
two_at (p ∷ pairs) [] (suc i) pair e f = two_at pairs [] i pair e f
two_at (p ∷ pairs) (o ∷ others) zero pair e f = cc
two_at (p ∷ pairs) (o ∷ others) (suc i) pair e f = two_at pairs others i pair e f

pub nine_at : (pairs others : List (List ℕ)) (i : ℕ) (pair seven : List ℕ) → slice_get pairs i ≡ Some pair → slice_get others i ≡ Some seven → slice_get (all_nine pairs others) i ≡ Some (pair ++ seven)
nine_at [] others i pair seven e f = cc
nine_at (p ∷ pairs) [] i pair seven e f = cc
nine_at (p ∷ pairs) (o ∷ others) zero pair seven e f = let same : p ≡ pair = cc in let alike : o ≡ seven = cc in ap₂ (λ (q s : List ℕ). Some (q ++ s)) same alike
nine_at (p ∷ pairs) (o ∷ others) (suc i) pair seven e f = nine_at pairs others i pair seven e f

-- ---- a cut, and what marks keep

pub nine_take : (n : ℕ) (pairs others : List (List ℕ)) → all_nine (take n pairs) (take n others) ≡ take n (all_nine pairs others)
nine_take zero pairs others = refl
nine_take (suc n) [] others = refl
nine_take (suc n) (p ∷ pairs) [] = ap (λ sets. (p ++ no_others) ∷ sets) (ap (all_nine (take n pairs)) (sym (take_none n)) ∙ nine_take n pairs [])
nine_take (suc n) (p ∷ pairs) (o ∷ others) = ap (λ sets. (p ++ o) ∷ sets) (nine_take n pairs others)

pub nine_kept : (marks : List Bool) (pairs others : List (List ℕ)) → all_nine (kept marks pairs) (kept marks others) ≡ kept marks (all_nine pairs others)
nine_kept [] pairs others = refl
nine_kept (mark ∷ marks) [] others = refl
nine_kept (true ∷ marks) (p ∷ pairs) [] = ap (λ sets. (p ++ no_others) ∷ sets) (ap (all_nine (kept marks pairs)) (sym (kept_none marks)) ∙ nine_kept marks pairs [])
nine_kept (false ∷ marks) (p ∷ pairs) [] = ap (all_nine (kept marks pairs)) (sym (kept_none marks)) ∙ nine_kept marks pairs []
nine_kept (true ∷ marks) (p ∷ pairs) (o ∷ others) = ap (λ sets. (p ++ o) ∷ sets) (nine_kept marks pairs others)
nine_kept (false ∷ marks) (p ∷ pairs) (o ∷ others) = nine_kept marks pairs others

-- ---- a push: so many places without labels stand before the new ones

pub put_two : (pairs others : List (List ℕ)) (count : ℕ) (pair : List ℕ) → length others ≤ length pairs →
    all_nine ((pairs ++ replicate count no_pair) ++ pair ∷ []) others ≡ (all_nine pairs others ++ replicate count no_labels) ++ (pair ++ no_others) ∷ []
put_two [] [] zero pair l = refl
put_two [] [] (suc count) pair l = ap (λ sets. no_labels ∷ sets) (put_two [] [] count pair (omega arith))
put_two [] (o ∷ others) count pair l = absurd (omega (arith, l))
put_two (p ∷ pairs) [] count pair l = ap (λ sets. (p ++ no_others) ∷ sets) (put_two pairs [] count pair (omega arith))
put_two (p ∷ pairs) (o ∷ others) count pair l = ap (λ sets. (p ++ o) ∷ sets) (put_two pairs others count pair (omega (arith, l)))

pub put_nine : (pairs others : List (List ℕ)) (count gap : ℕ) (pair seven : List ℕ) → length others ≤ length pairs → length others + gap ≡ length pairs + count →
    all_nine ((pairs ++ replicate count no_pair) ++ pair ∷ []) ((others ++ replicate gap no_others) ++ seven ∷ []) ≡ (all_nine pairs others ++ replicate count no_labels) ++ (pair ++ seven) ∷ []
put_nine [] [] zero zero pair seven l e = refl
put_nine [] [] zero (suc gap) pair seven l e = absurd (omega (arith, e))
put_nine [] [] (suc count) zero pair seven l e = absurd (omega (arith, e))
put_nine [] [] (suc count) (suc gap) pair seven l e = ap (λ sets. no_labels ∷ sets) (put_nine [] [] count gap pair seven (omega arith) (omega (arith, e)))
put_nine [] (o ∷ others) count gap pair seven l e = absurd (omega (arith, l))
put_nine (p ∷ pairs) [] count zero pair seven l e = absurd (omega (arith, e))
put_nine (p ∷ pairs) [] count (suc gap) pair seven l e = ap (λ sets. (p ++ no_others) ∷ sets) (put_nine pairs [] count gap pair seven (omega arith) (omega (arith, e)))
put_nine (p ∷ pairs) (o ∷ others) count gap pair seven l e = ap (λ sets. (p ++ o) ∷ sets) (put_nine pairs others count gap pair seven (omega (arith, l)) (omega (arith, e)))

both_parts : (set pair seven : List ℕ) → pair ≡ take 2 set → seven ≡ drop 2 set → pair ++ seven ≡ set
both_parts set pair seven p s = ap₂ (λ (a b : List ℕ). a ++ b) p s ∙ take-append-drop 2 set

pub puts_two : (pairs others : List (List ℕ)) (at : ℕ) (pair seven set : List ℕ) → length others ≤ length pairs → pair ≡ take 2 set → seven ≡ drop 2 set → seven ≡ no_others →
    all_nine ((pairs ++ replicate (at - length pairs) no_pair) ++ pair ∷ []) others ≡ (all_nine pairs others ++ replicate (at - length (all_nine pairs others)) no_labels) ++ set ∷ []
puts_two pairs others at pair seven set l p s none =
    put_two pairs others (at - length pairs) pair l
    ∙ ap₂ (λ (n : ℕ) (x : List ℕ). (all_nine pairs others ++ replicate (at - n) no_labels) ++ x ∷ []) (sym (nine_length pairs others)) (ap (λ (b : List ℕ). pair ++ b) (sym none) ∙ both_parts set pair seven p s)

pub puts_nine : (pairs others : List (List ℕ)) (at : ℕ) (pair seven set : List ℕ) → length others ≤ length pairs → length pairs ≤ at → pair ≡ take 2 set → seven ≡ drop 2 set →
    all_nine ((pairs ++ replicate (at - length pairs) no_pair) ++ pair ∷ []) ((others ++ replicate (at - length others) no_others) ++ seven ∷ []) ≡ (all_nine pairs others ++ replicate (at - length (all_nine pairs others)) no_labels) ++ set ∷ []
puts_nine pairs others at pair seven set l room p s =
    put_nine pairs others (at - length pairs) (at - length others) pair seven l (omega (arith, l, room))
    ∙ ap₂ (λ (n : ℕ) (x : List ℕ). (all_nine pairs others ++ replicate (at - n) no_labels) ++ x ∷ []) (sym (nine_length pairs others)) (both_parts set pair seven p s)
