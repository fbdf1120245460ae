use Rattle.std.proofs.Common.{ap, List, get_or, length, ◌≡◌, ℕ, ◌-◌, ◌<◌, Some, ◌∙◌, arith}
use Rattle.std.specs.List.{slice_get}
use Rattle.std.proofs.lemmas.List.{get_or_default, length-map}
use Rattle.mt_counts.proofs.Walks.{walked_first, walked_more, walked_past, placed_here, not_placed}
use Rattle.mt_counts.proofs.tally.Tally.places.Goals as goal
use Rattle.mt_counts.proofs.tally.Tally.places.Goals.{then-get-gt0+in_ok-push, else-get-gt0}

pub loop-below-init : goal.loop-below-init
loop-below-init c = walked_first c.self.inside.counts.entries c.self.inside.belows.items c.self.inside.ends.items c.args.group c.end_at-below.result c.new-places.result.items c.self.invariant.0 (c.end_at-below.ensures ∙ ap (λ (ends : List ℕ). get_or ends c.args.group 0) c.as_slice.ensures.value) c.new-places.ensures.items

pub loop-below-preserved : goal.loop-below-preserved
loop-below-preserved c =
    let entries = c.self.inside.counts.entries in
    let below = c.loop-below.below in
    let walked = c.loop-below.invariant in
    let belows = c.self.inside.belows.items in
    let some : 0 < below = omega arith in
    let within : below - 1 < length belows = omega (arith, walked.bound, c.self.invariant.0.each, length-map entries (λ (e : (ℕ × ℕ) × ℕ). e.0.0)) in
    let next = c.index-below.ensures ∙ get_or_default belows (below - 1) c.index-below.result.now 0 within in
    let step = walked_more entries belows c.self.inside.ends.items c.args.group below c.index-below.result.now c.loop-below.places.items c.self.invariant.0 some walked next in
    let there : slice_get entries (below - 1) ≡ Some c.get.result = rw c.self.view_is c.get.ensures in
    elim c.if-get-gt0.branch [
      | then-get-gt0+in_ok-push w ↦
          let here = placed_here entries c.args.group below c.loop-below.places.items c.get.result walked some there w.if-get-gt0.true in
          rw (w.places-is, w.in_ok-push.ensures.items) (step here)
      | else-get-gt0 w ↦
          let none = not_placed entries c.args.group (below - 1) c.get.result there (omega (arith, w.if-get-gt0.false)) in
          rw w.places-is (walked_past entries belows c.self.inside.ends.items c.args.group below c.index-below.result.now c.loop-below.places.items c.self.invariant.0 some walked next none)
    ]
