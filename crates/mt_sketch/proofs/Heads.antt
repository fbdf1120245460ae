-- The names under which a lemma stands are its relations.
use Rattle.std.proofs.Common.{◌≡◌, ◌≢◌, ℕ, ◌<◌, false, List, map, refl, sym, ◌∙◌, ap, subst}
use Rattle.std.specs.List.{Contains}
use Rattle.std.specs.List.Sorted.{IsPermutation, IsSorted}
use Rattle.std.specs.declared.cmp.Ordering.{Ordering}
use Rattle.std.specs.declared.cmp.Ordering.TheVariants.{Less, Equal, Greater}
use Rattle.std.specs.Ordering.{is_eq}
use Rattle.std.specs.Cmp.{IsTotalOrder, on_total}
use Rattle.std.proofs.lemmas.List.Sorted.{Contains-permutation, IsPermutation-sym}
use Rattle.std.proofs.lemmas.Map.Keys.{IsDistinct-IsPermutation}
use Rattle.mt_match_laws.proofs.Members.{to_member, from_member}
use Rattle.mt_counts.specs.Tallies.{ListsOnce}
use Rattle.mt_counts.specs.Counted.{Counted}
use Rattle.mt_counts.specs.Listed.{IsHead}
use Rattle.mt_counts.specs.declared.listing.Head.{Head}
use Rattle.mt_word_sketch_spec.specs.Sketches.{heading_cmp, heading_count, IsHeading}
use Rattle.mt_word_sketch_laws.proofs.Lists.{in_map, from_map, ascends_mapped}
use Rattle.mt_word_sketch_laws.proofs.Orders.{heading_total, same_heading}
use Rattle.mt_sketch.specs.Told.{frequencies_of, heading_of, IsHeadOf, AreHeadings}
use Rattle.mt_sketch.proofs.Distinct.{distinct_from, strictly, turned}

-- heads by their relations
abbrev pub head_cmp : Head → Head → Ordering
head_cmp one other = heading_cmp (heading_of one) (heading_of other)

pub head_total : IsTotalOrder head_cmp
head_total = on_total heading_of heading_total

module _ (counted : Counted) (lemma : List ℕ) where
  head_on : (head : Head) → IsHead counted lemma head → IsHeadOf (frequencies_of counted) lemma head
  head_on head h = record { some = h.some; is = h.is }

  -- how often a lemma stands under a name is one number
  same_head : (a b : Head) → IsHeadOf (frequencies_of counted) lemma a → IsHeadOf (frequencies_of counted) lemma b → heading_of a ≡ heading_of b → a ≡ b
  same_head a b h k e =
      let count : a.count ≡ b.count = h.is ∙ ap (heading_count (frequencies_of counted) lemma) e ∙ sym k.is in
      λ i. record { name = (e i).name; unary = (e i).unary; count = count i }

  apart : (a b : Head) → IsHeadOf (frequencies_of counted) lemma a → IsHeadOf (frequencies_of counted) lemma b → a ≢ b → is_eq (head_cmp a b) ≡ false
  apart a b h k differ = by (head_cmp a b) refl
    where
      by : (o : Ordering) → head_cmp a b ≡ o → is_eq o ≡ false
      by Less e = refl
      by Equal e = absurd (differ (same_head a b h k (same_heading (heading_of a) (heading_of b) e)))
      by Greater e = refl

  pub headings_told : (old new : List Head) → ListsOnce (IsHead counted lemma) old → IsPermutation old new → IsSorted head_cmp new → AreHeadings (frequencies_of counted) lemma new
  headings_told old new all moved sorted =
      let each_is : (head : Head) → Contains new head → IsHeadOf (frequencies_of counted) lemma head = λ head h. head_on head (all.only head (Contains-permutation new old head (IsPermutation-sym old new moved) h)) in
      let distinct = distinct_from (λ a b. is_eq (head_cmp a b)) (IsHeadOf (frequencies_of counted) lemma) apart old (λ head m. head_on head (all.only head (from_member old head m))) all.once in
      let ascending = strictly head_total new sorted (IsDistinct-IsPermutation (λ a b. is_eq (head_cmp a b)) (turned head_total) old new moved distinct) in
      record {
        counted = each_is;
        are = record {
          ascending = ascends_mapped heading_of heading_cmp new ascending;
          only = λ heading h.
              let from = from_map heading_of new heading (to_member (map heading_of new) heading h) in
              let head = each_is from.from (from_member new from.from from.member) in
              let some : 0 < heading_count (frequencies_of counted) lemma (heading_of from.from) = subst (λ (n : ℕ). 0 < n) head.is head.some in
              subst (IsHeading (frequencies_of counted) lemma) (sym from.is) some;
          each = λ heading some.
              let head : Head = record { name = heading.name; unary = heading.unary; count = heading_count (frequencies_of counted) lemma heading } in
              let there : Contains new head = Contains-permutation old new head moved (all.each head (record { some = some; is = refl })) in
              from_member (map heading_of new) heading (in_map heading_of new head (to_member new head there));
        };
      }
