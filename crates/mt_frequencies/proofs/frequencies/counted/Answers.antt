-- A value is listed where a span was counted for it.
use Rattle.std.proofs.Common.{Global, Vec, arith, refl, ap, ◌∙◌}
use Rattle.mt_frequencies.specs.declared.entry.Frequency.{Frequency}
use Rattle.mt_frequencies.specs.Tallies.{counts_in, frequency_of, is_counted}
use Rattle.mt_frequencies.proofs.Placed.{less, not_less}
use Rattle.mt_frequencies.proofs.Rows.{entries_few, entry_more, entry_none}
use Rattle.mt_frequencies.proofs.frequencies.counted.Goals as goal
use Rattle.mt_frequencies.proofs.frequencies.counted.Goals.{then-spans-more_than+in_ok-push, else-spans-more_than}

pub loop-number-preserved : goal.loop-number-preserved
loop-number-preserved c =
    let counts = counts_in c.args.tally.now in
    let value = c.get-spans.result.0.now in
    elim c.if-spans-more_than.branch [
      | then-spans-more_than+in_ok-push w ↦
          ap (λ (all : Vec Frequency Global). all.items) w.all-is
          ∙ entry_more (frequency_of counts) (is_counted c.args.more_than counts) c.args.tally.now.values c.loop-number.number value c.get-spans.ensures.value c.loop-number.all.items w.push.new.self.items (record { value = value; spans = c.get-spans.result.1 })
          (less c.args.more_than (counts value).spans (omega (arith, w.if-spans-more_than.true, c.get-spans.ensures.spans))) (λ i. record { value = value; spans = c.get-spans.ensures.spans i }) c.loop-number.invariant w.in_ok-push.ensures.items
      | else-spans-more_than w ↦
          ap (λ (all : Vec Frequency Global). all.items) w.all-is
          ∙ entry_none (frequency_of counts) (is_counted c.args.more_than counts) c.args.tally.now.values c.loop-number.number value c.get-spans.ensures.value c.loop-number.all.items c.loop-number.all.items
          (not_less c.args.more_than (counts value).spans (omega (arith, w.if-spans-more_than.false, c.get-spans.ensures.spans))) c.loop-number.invariant refl
    ]

pub returns-clause-few : goal.returns-clause-few
returns-clause-few c = let few = entries_few (frequency_of (counts_in c.args.tally.now)) (is_counted c.args.more_than (counts_in c.args.tally.now)) c.args.tally.now.values c.loop-number.number c.loop-number.all.items c.loop-number.invariant in omega (arith, few, c.len-number-end.ensures.few)
