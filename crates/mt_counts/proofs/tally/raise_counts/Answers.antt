use Rattle.std.proofs.Common.{arith, refl, true, ◌∙◌}
use Rattle.mt_counts.proofs.Entries.{counted_at, raised_at}
use Rattle.mt_counts.proofs.Growing.{keys_raised}
use Rattle.mt_counts.proofs.Totals.{total-raised, count-within}
use Rattle.mt_counts.proofs.Placed.{nothing_raised, raised_more, raised_whole}
use Rattle.mt_counts.proofs.tally.raise_counts.Goals as goal

pub loop-k-init : goal.loop-k-init
loop-k-init c = record { keys = refl; sum = omega arith; added = λ keys z. nothing_raised c.args.counts.now.entries keys }

pub overflow_add-index_mut : goal.overflow_add-index_mut
overflow_add-index_mut c =
    let there = counted_at c.loop-k.counts.entries _ (0, 0) c.index_mut.result.now c.index_mut.ensures.value in
    let within = count-within (λ key. true) c.loop-k.counts.entries _ c.index_mut.result.now _ there refl in
    omega (arith, within, c.loop-k.invariant.sum, c.loop-k-test.true, c.requires.few)

pub loop-k-preserved : goal.loop-k-preserved
loop-k-preserved c =
    let now = c.loop-k.counts.entries in
    let raised = raised_at now _ _ c.index_mut.result.now 1 (counted_at now _ (0, 0) c.index_mut.result.now c.index_mut.ensures.value) in
    record {
      keys = keys_raised now _ _ 1 raised ∙ c.loop-k.invariant.keys;
      sum = omega (arith, c.loop-k.invariant.sum, total-raised (λ key. true) now _ _ 1 raised);
      added = λ keys z. raised_more c.args.counts.now.entries now _ keys c.args.places.now c.loop-k.k _ c.loop-k-test.true c.loop-k.invariant.keys z (c.loop-k.invariant.added keys z) raised;
    }

pub returns-clause-added : goal.returns-clause-added
returns-clause-added c = λ keys z. raised_whole c.args.counts.now.entries c.loop-k.counts.entries keys c.args.places.now c.loop-k.k (omega arith) z (c.loop-k.invariant.added keys z)
