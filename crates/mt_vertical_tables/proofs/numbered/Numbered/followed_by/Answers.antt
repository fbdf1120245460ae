use Rattle.std.proofs.Common.{◌≡◌, ◌∙◌, ◌++◌, ℕ, List, length, slice_index, ap, ap₂, arith}
use Rattle.std.proofs.lemmas.List.{with_items_is, length-map}
use Rattle.mt_segment.specs.Numbered.{stands_for}
use Rattle.mt_lexicon.specs.Joins.{renumbered}
use Rattle.mt_store_spec.specs.Lexicons.{Renumbers}
use Rattle.mt_vertical_tables.proofs.BothNumbered.{at_first, at_second, both_low, both_stand, both_told, length_stands, no_longer}
use Rattle.mt_vertical_tables.proofs.numbered.Numbered.followed_by.Goals as goal

pub merged-requires : goal.merged-requires
merged-requires c =
    let one = no_longer c.is_shortest.ensures _ _ c.self.invariant.0 in
    let two = no_longer c.is_shortest.ensures _ _ c.others.invariant.0 in
    omega (arith, one, two, length_stands c.self.inside.lexicon c.self.inside.numbers.items, length_stands c.others.inside.lexicon c.others.inside.numbers.items, c.len.ensures, c.len-2.ensures, c.if-len-gt-TEXT_TOKENS_LIMIT.false)

pub invariant_of-result : goal.invariant_of-result
invariant_of-result c =
    let first = c.self.inside.lexicon in
    let second = c.others.inside.lexicon in
    let lexicon = c.in_ok-lexicon.lexicon in
    let own = c.self.inside.numbers.items in
    let more = c.others.inside.numbers.items in
    let next = c.get.result.now in
    let others = c.get-2.result.now in
    let goes = at_first (λ (part : List (List ℕ)) (numbers : List ℕ). Renumbers numbers part lexicon) first second c.in_ok-lexicon.next next c.in_ok-lexicon.ensures.numbers c.get.ensures in
    let go = at_second (λ (part : List (List ℕ)) (numbers : List ℕ). Renumbers numbers part lexicon) first second c.in_ok-lexicon.next others c.in_ok-lexicon.ensures.numbers c.get-2.ensures in
    let first_ones : c.renumber.new.numbers ≡ renumbered next own = c.renumber.ensures ∙ ap (renumbered next) c.as_mut_slice.ensures.value in
    let count = ap length c.renumber.ensures ∙ length-map c.as_mut_slice.result.now (λ n. slice_index next n) ∙ c.as_mut_slice.ensures.len in
    let is : c.push_renumbered.new.numbers.items ≡ renumbered next own ++ renumbered others more =
    c.in_ok-push_renumbered.ensures ∙ ap₂ (λ (ns ms : List ℕ). ns ++ renumbered others ms) (with_items_is c.self.inside.numbers c.renumber.new.numbers count ∙ first_ones) c.as_slice.ensures.value in
    let told = both_told first second lexicon own more next others c.self.invariant.0 c.others.invariant.0 c.self.invariant.1 c.others.invariant.1 c.in_ok-lexicon.ensures.lexicon goes go in
    let low = both_low first second lexicon own more next others c.self.invariant.0 c.others.invariant.0 c.self.invariant.1 c.others.invariant.1 c.in_ok-lexicon.ensures.lexicon goes go in
    rw is (told, low)

pub returns-clause-both : goal.returns-clause-both
returns-clause-both c =
    let first = c.self.inside.lexicon in
    let second = c.others.inside.lexicon in
    let lexicon = c.in_ok-lexicon.lexicon in
    let own = c.self.inside.numbers.items in
    let more = c.others.inside.numbers.items in
    let next = c.get.result.now in
    let others = c.get-2.result.now in
    let goes = at_first (λ (part : List (List ℕ)) (numbers : List ℕ). Renumbers numbers part lexicon) first second c.in_ok-lexicon.next next c.in_ok-lexicon.ensures.numbers c.get.ensures in
    let go = at_second (λ (part : List (List ℕ)) (numbers : List ℕ). Renumbers numbers part lexicon) first second c.in_ok-lexicon.next others c.in_ok-lexicon.ensures.numbers c.get-2.ensures in
    let first_ones : c.renumber.new.numbers ≡ renumbered next own = c.renumber.ensures ∙ ap (renumbered next) c.as_mut_slice.ensures.value in
    let count = ap length c.renumber.ensures ∙ length-map c.as_mut_slice.result.now (λ n. slice_index next n) ∙ c.as_mut_slice.ensures.len in
    let is : c.push_renumbered.new.numbers.items ≡ renumbered next own ++ renumbered others more =
    c.in_ok-push_renumbered.ensures ∙ ap₂ (λ (ns ms : List ℕ). ns ++ renumbered others ms) (with_items_is c.self.inside.numbers c.renumber.new.numbers count ∙ first_ones) c.as_slice.ensures.value in
    let both = both_stand first second lexicon own more next others c.self.invariant.0 c.others.invariant.0 c.self.invariant.1 c.others.invariant.1 c.in_ok-lexicon.ensures.lexicon goes go in
    ap (stands_for lexicon) is ∙ both ∙ ap₂ (λ (vs ws : List (List ℕ)). vs ++ ws) c.self.view_is c.others.view_is
