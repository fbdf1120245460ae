-- Items that are changed one after the other, and renumberings that go on to another list.
use Rattle.std.proofs.Common.{◌≡◌, ℕ, ◌+◌, ◌<◌, List, [], ◌∷◌, ◌++◌, length, map, take, drop, get_or, set, slice_get, sym, ◌∙◌, ap, ap₂, arith}
use Rattle.std.specs.List.{All}
use Rattle.std.proofs.lemmas.List.{length-set, get_or-set_same, take_more_set, drop_more, drop-set, map_more, get_or-map, length-map}
use Rattle.std.proofs.lemmas.List.Elements.{All-from_get_or}
use Rattle.std.proofs.lemmas.Option.{slice_get-get_or, slice_get_within}
use Rattle.mt_store_spec.specs.Lexicons.{Renumbers}
use Rattle.mt_lexicon.specs.Joins.{renumbered}

-- ---- a loop that changes each item

-- the items before a place are changed, and those from it on are as they were
pub record ChangesUpTo {X : Type 0} (f : X → X) (items initial : List X) (i : ℕ) : Type 0 where
  pub count : length items ≡ length initial
  pub done : take i items ≡ map f (take i initial)
  pub left : drop i items ≡ drop i initial

module _ {X : Type 0} where
  pub here : (items initial : List X) (i : ℕ) (d : X) → length items ≡ length initial → drop i items ≡ drop i initial → i < length items → get_or items i d ≡ get_or initial i d
  here items initial i d count left l =
      let e : get_or items i d ∷ drop (i + 1) items ≡ get_or initial i d ∷ drop (i + 1) initial = sym (drop_more items i d l) ∙ left ∙ drop_more initial i d (omega arith) in
      cc

  rest_of : (items : List X) (i : ℕ) (y d : X) → i < length items → y ∷ drop (i + 1) items ≡ y ∷ drop (i + 1) (set items i y)
  rest_of items i y d l =
      sym (drop-set items i y l) ∙ drop_more (set items i y) i d (omega (arith, length-set items i y)) ∙ ap (λ (n : X). n ∷ drop (i + 1) (set items i y)) (get_or-set_same items i y d l)

  pub one_changed_more : (f : X → X) (items initial : List X) (i : ℕ) (y d : X) → ChangesUpTo f items initial i → i < length items → y ≡ f (get_or items i d) →
      ChangesUpTo f (set items i y) initial (i + 1)
  one_changed_more f items initial i y d h l e =
      let at : get_or items i d ≡ get_or initial i d = here items initial i d h.count h.left l in
      let more : i < length initial = omega (arith, h.count) in
      let both : get_or items i d ∷ drop (i + 1) items ≡ get_or initial i d ∷ drop (i + 1) initial = sym (drop_more items i d l) ∙ h.left ∙ drop_more initial i d more in
      let same : y ≡ f (get_or initial i d) = e ∙ ap f at in
      let rest : y ∷ drop (i + 1) items ≡ y ∷ drop (i + 1) (set items i y) = rest_of items i y d l in
      record {
        count = length-set items i y ∙ h.count;
        done = take_more_set items i y l ∙ ap₂ (λ (a : List X) (b : X). a ++ b ∷ []) h.done same ∙ sym (map_more f initial i d more);
        left = cc;
      }

-- ---- renumberings

-- each number is one of the new list
pub numbers_within : (numbers : List ℕ) (old new : List (List ℕ)) → Renumbers numbers old new → All (λ n. n < length new) numbers
numbers_within numbers old new h = All-from_get_or (λ n. n < length new) numbers 0 (λ k l.
    let m : k < length old = omega (arith, h.count) in
    slice_get_within new (get_or numbers k 0) (get_or old k []) (h.same k m ∙ slice_get-get_or old k [] m))

-- one renumbering after another
pub renumbers_then : (numbers next : List ℕ) (old middle new : List (List ℕ)) → Renumbers numbers old middle → Renumbers next middle new → Renumbers (renumbered next numbers) old new
renumbers_then numbers next old middle new h g = record {
  count = length-map numbers (λ n. get_or next n 0) ∙ h.count;
  same = λ k l.
      let within : k < length numbers = omega (arith, h.count) in
      let low : get_or numbers k 0 < length middle = numbers_within numbers old middle h k 0 within in
      ap (slice_get new) (get_or-map (λ (n : ℕ). get_or next n 0) numbers k 0 0 within) ∙ g.same (get_or numbers k 0) low ∙ h.same k l;
}
