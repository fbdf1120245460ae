use Rattle.std.proofs.Common.{◌≡◌, ◌∙◌, ◌-◌, ◌<◌, ℕ, Some, List, [], length, get_or, ap, arith, refl, subst}
use Rattle.std.specs.List.{slice_get}
use Rattle.std.proofs.lemmas.List.{get_or_default, length-map}
use Rattle.mt_counts.specs.Tallies.{HasPlaced}
use Rattle.mt_counts.proofs.Walks.{walked_first, walked_past, placed_here, not_placed}
use Rattle.mt_counts.proofs.tally.Tally.has.Goals as goal

pub loop-below-init : goal.loop-below-init
loop-below-init c = walked_first c.self.inside.counts.entries c.self.inside.belows.items c.self.inside.ends.items c.args.group c.end_at-below.result [] c.self.invariant.0 (c.end_at-below.ensures ∙ ap (λ (ends : List ℕ). get_or ends c.args.group 0) c.as_slice.ensures.value) refl

pub returns-then-get-gt0-clause-some : goal.returns-then-get-gt0-clause-some
returns-then-get-gt0-clause-some c = λ _.
    let entries = c.self.inside.counts.entries in
    let below = c.loop-below.below in
    let there : slice_get entries (below - 1) ≡ Some c.get.result = rw c.self.view_is c.get.ensures in
    let here = placed_here entries c.args.group below [] c.get.result c.loop-below.invariant (omega arith) there c.if-get-gt0.true in
    let placed : HasPlaced entries c.args.group = record { place = below - 1; is = here } in
    subst (λ (es : _). HasPlaced es c.args.group) c.self.view_is placed

pub loop-below-preserved : goal.loop-below-preserved
loop-below-preserved c =
    let entries = c.self.inside.counts.entries in
    let below = c.loop-below.below in
    let walked = c.loop-below.invariant in
    let belows = c.self.inside.belows.items in
    let some : 0 < below = omega arith in
    let within : below - 1 < length belows = omega (arith, walked.bound, c.self.invariant.0.each, length-map entries (λ (e : (ℕ × ℕ) × ℕ). e.0.0)) in
    let next = c.index-below.ensures ∙ get_or_default belows (below - 1) c.index-below.result.now 0 within in
    let there : slice_get entries (below - 1) ≡ Some c.get.result = rw c.self.view_is c.get.ensures in
    let none = not_placed entries c.args.group (below - 1) c.get.result there (omega (arith, c.if-get-gt0.false)) in
    walked_past entries belows c.self.inside.ends.items c.args.group below c.index-below.result.now [] c.self.invariant.0 some walked next none
