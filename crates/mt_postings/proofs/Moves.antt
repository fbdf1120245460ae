-- Positions of a range, moved.
use Rattle.std.proofs.Common.{ℕ, ◌≡◌, ◌+◌, ◌-◌, ◌<◌, ◌≤◌, List, [], ◌∷◌, ◌++◌, length, get_or, Option, Some, None, refl, sym, ap, ◌∙◌, subst, inl, inr, arith, append_assoc}
use Rattle.std.specs.List.{All}
use Rattle.std.specs.Option.{MatchOption, IfNone, option_to_list}
use Rattle.std.proofs.lemmas.Bool.{cases_lt}
use Rattle.std.proofs.lemmas.Bool.Decides.{nat_tests}
use Rattle.std.proofs.lemmas.List.{length-append, get_or_at, get_or-append-add, append-nil}
use Rattle.mt_store_spec.specs.Positions.{ArePositions, from_least, moved}
use Rattle.mt_postings.proofs.Ascending.{From, from_start, from_weaker}

-- what a cursor gave, and what is left after it
pub given_left : (r : Option ℕ) (new all : List ℕ) → MatchOption r ((all ≡ []) × (new ≡ [])) (λ p. all ≡ p ∷ new) → all ≡ option_to_list r ++ new
given_left (Some p) new all h = h
given_left None new all h = h.0 ∙ sym h.1

-- once it gives nothing, nothing is left
pub given_ended : (r : Option ℕ) (new all : List ℕ) → MatchOption r ((all ≡ []) × (new ≡ [])) (λ p. all ≡ p ∷ new) → IfNone r (new ≡ [])
given_ended (Some p) new all h = tt
given_ended None new all h = h.1

pub moved_before : (from to place p : ℕ) (ps : List ℕ) → p < from → moved from to place (p ∷ ps) ≡ moved from to place ps
moved_before from to place p ps h = grind (arith, nat_tests)

pub moved_within : (from to place p : ℕ) (ps : List ℕ) → from ≤ p → p < to → moved from to place (p ∷ ps) ≡ (p - from + place) ∷ moved from to place ps
moved_within from to place p ps l h = grind (arith, nat_tests)

pub moved_past : (from to place p : ℕ) (ps : List ℕ) → from ≤ p → to ≤ p → moved from to place (p ∷ ps) ≡ moved from to place ps
moved_past from to place p ps l h = grind (arith, nat_tests)

from_least_below : (least p : ℕ) (ps : List ℕ) → p < least → from_least least (p ∷ ps) ≡ from_least least ps
from_least_below least p ps h = grind (arith, nat_tests)

from_least_here : (least p : ℕ) (ps : List ℕ) → least ≤ p → from_least least (p ∷ ps) ≡ p ∷ ps
from_least_here least p ps h = grind (arith, nat_tests)

-- nothing before `from` is moved
pub moved_from_least : (from to place : ℕ) (ps : List ℕ) → moved from to place (from_least from ps) ≡ moved from to place ps
moved_from_least from to place [] = refl
moved_from_least from to place (p ∷ ps) =
    elim (cases_lt p from) [
      | inl l ↦ ap (moved from to place) (from_least_below from p ps l) ∙ moved_from_least from to place ps ∙ sym (moved_before from to place p ps l)
      | inr g ↦ ap (moved from to place) (from_least_here from p ps g)
    ]

pub from_from_least : (from least : ℕ) (ps : List ℕ) → from ≤ 4294967295 → From least ps → From from (from_least from ps)
from_from_least from least [] r f = r
from_from_least from least (p ∷ ps) r f =
    elim (cases_lt p from) [
      | inl l ↦ subst (From from) (sym (from_least_below from p ps l)) (from_from_least from (p + 1) ps r f.2)
      | inr g ↦ subst (From from) (sym (from_least_here from p ps g)) (g, f.1, f.2)
    ]

-- nor from `to` on
pub moved_none : (from to place least : ℕ) (ps : List ℕ) → from ≤ least → to ≤ least → From least ps → moved from to place ps ≡ []
moved_none from to place least [] l m f = refl
moved_none from to place least (p ∷ ps) l m f =
    let h = f.0 in
    moved_past from to place p ps (omega arith) (omega arith) ∙ moved_none from to place (p + 1) ps (omega arith) (omega arith) f.2

-- What is moved so far, with what is left, is the whole.
pub record MovesTo (from to place : ℕ) (whole all left : List ℕ) : Type 0 where
  pub valid : From from left
  pub same : all ++ moved from to place left ≡ moved from to place whole

pub moves_none : (from to place : ℕ) (whole left : List ℕ) → from ≤ 4294967295 → ArePositions whole → from_least from whole ≡ left → MovesTo from to place whole [] left
moves_none from to place whole left r a e =
    record {
      valid = subst (From from) e (from_from_least from 0 whole r (from_start whole a));
      same = ap (moved from to place) (sym e) ∙ moved_from_least from to place whole;
    }

pub moves_fits : (from to place : ℕ) (whole all : List ℕ) (p : ℕ) (rest : List ℕ) → All (λ x. x < 4294967295) (moved from to place whole) → MovesTo from to place whole all (p ∷ rest) → p < to → (from ≤ p) × (p - from + place < 4294967295)
moves_fits from to place whole all p rest a m l =
    let v = m.valid in
    let f : from ≤ p = v.0 in
    let w : all ++ ((p - from + place) ∷ moved from to place rest) ≡ moved from to place whole = ap (λ x. all ++ x) (sym (moved_within from to place p rest f l)) ∙ m.same in
    let n : length (moved from to place whole) ≡ length all + (length (moved from to place rest) + 1) = ap length (sym w) ∙ length-append all ((p - from + place) ∷ moved from to place rest) ∙ omega arith in
    let here : get_or (moved from to place whole) (length all) 0 ≡ p - from + place = ap (λ x. get_or x (length all) 0) (sym w) ∙ get_or_at all (p - from + place) (moved from to place rest) 0 (length all) refl in
    let h = a (length all) 0 (omega arith) in
    (f, omega arith)

pub moves_more : (from to place : ℕ) (whole all now : List ℕ) (p : ℕ) (rest : List ℕ) → MovesTo from to place whole all (p ∷ rest) → p < to → now ≡ all ++ (p - from + place) ∷ [] → MovesTo from to place whole now rest
moves_more from to place whole all now p rest m l e =
    let v = m.valid in
    let f : from ≤ p = v.0 in
    record {
      valid = from_weaker from (p + 1) rest (omega arith) v.2;
      same = ap (λ x. x ++ moved from to place rest) e ∙ append_assoc all ((p - from + place) ∷ []) (moved from to place rest) ∙ ap (λ x. all ++ x) (sym (moved_within from to place p rest f l)) ∙ m.same;
    }

pub moves_past : (from to place : ℕ) (whole all : List ℕ) (p : ℕ) (rest : List ℕ) → MovesTo from to place whole all (p ∷ rest) → to ≤ p → all ≡ moved from to place whole
moves_past from to place whole all p rest m l =
    let v = m.valid in
    let f : from ≤ p = v.0 in
    let n : moved from to place (p ∷ rest) ≡ [] = moved_none from to place p (p ∷ rest) f l (omega arith, v.1, v.2) in
    sym (append-nil all) ∙ ap (λ x. all ++ x) (sym n) ∙ m.same

pub moves_end : (from to place : ℕ) (whole all left : List ℕ) → left ≡ [] → MovesTo from to place whole all left → all ≡ moved from to place whole
moves_end from to place whole all left e m = sym (append-nil all) ∙ ap (λ x. all ++ moved from to place x) (sym e) ∙ m.same

-- what follows positions in a list is in range
pub part_in_range : (held more : List ℕ) → ArePositions (held ++ more) → All (λ p. p < 4294967295) more
part_in_range held more a = λ k d l.
    let n = length-append held more in
    let e : get_or (held ++ more) (length held + k) d ≡ get_or more k d = get_or-append-add held more k d in
    subst (λ x. x < 4294967295) e (a.in_range (length held + k) d (omega arith))

pub moves_stop : (from to place : ℕ) (whole all left : List ℕ) (next : Option ℕ) (p : ℕ) → next ≡ Some p → to ≤ p → MovesTo from to place whole all (option_to_list next ++ left) → all ≡ moved from to place whole
moves_stop from to place whole all left next p e l m = moves_past from to place whole all p left (subst (λ x. MovesTo from to place whole all (option_to_list x ++ left)) e m) l

pub moves_last : (from to place : ℕ) (whole all left : List ℕ) (next : Option ℕ) → next ≡ None → IfNone next (left ≡ []) → MovesTo from to place whole all (option_to_list next ++ left) → all ≡ moved from to place whole
moves_last from to place whole all left next e n m =
    let none : left ≡ [] = subst (λ x. IfNone x (left ≡ [])) e n in
    moves_end from to place whole all left none (subst (λ x. MovesTo from to place whole all (option_to_list x ++ left)) e m)
