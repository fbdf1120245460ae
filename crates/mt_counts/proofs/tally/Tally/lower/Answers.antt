use Rattle.std.proofs.Common.{◌≡◌, ◌-◌, Some, arith, true, refl}
use Rattle.std.specs.List.{slice_get}
use Rattle.indexmap.specs.IndexMap.{set_value_at}
use Rattle.mt_counts.proofs.Totals.{total-raised, count-within}
use Rattle.mt_counts.specs.Totals.{total_of_all}
use Rattle.mt_counts.proofs.Entries.{classes-set, length-written, lowered_at}
use Rattle.mt_counts.proofs.Hints.{hints_set}
use Rattle.mt_counts.proofs.tally.Tally.lower.Goals as goal

pub invariant_of-self : goal.invariant_of-self
invariant_of-self c =
    let entries = c.self.inside.counts.entries in
    let count = c.get-count.result.1 - c.args.by in
    let there : slice_get entries c.args.place ≡ Some (c.get-count.result.0, c.get-count.result.1) = rw c.self.view_is c.get-count.ensures in
    let raised = lowered_at entries c.args.place c.get-count.result.0 c.get-count.result.1 c.args.by (c.requires.few c.get-count.result.0 c.get-count.result.1 c.get-count.ensures) there in
    let sum = total-raised (λ key. true) (set_value_at entries c.args.place count) entries c.args.place c.args.by raised in
    (rw (classes-set entries c.args.place count) c.self.invariant.0, omega (arith, length-written entries c.args.place count, c.self.invariant.1), omega (arith, sum, c.self.invariant.2), hints_set entries c.self.inside.hints.items c.args.place count c.self.invariant.3)

pub returns : goal.returns
returns c =
    let entries = c.self.inside.counts.entries in
    let there : slice_get entries c.args.place ≡ Some (c.get-count.result.0, c.get-count.result.1) = rw c.self.view_is c.get-count.ensures in
    rw (← c.self.view_is) (lowered_at entries c.args.place c.get-count.result.0 c.get-count.result.1 c.args.by (c.requires.few c.get-count.result.0 c.get-count.result.1 c.get-count.ensures) there)

pub overflow_sub-self : goal.overflow_sub-self
overflow_sub-self c =
    let within = count-within (λ key. true) c.args.self.now c.get-count.result.0 c.get-count.result.1 c.args.place c.get-count.ensures refl in
    let sum : c.self.inside.sum ≡ total_of_all c.args.self.now = rw (← c.self.view_is) c.self.invariant.2 in
    omega (arith, within, sum, c.requires.few c.get-count.result.0 c.get-count.result.1 c.get-count.ensures)
