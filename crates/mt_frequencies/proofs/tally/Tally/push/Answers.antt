use Rattle.std.proofs.Common.{◌∙◌, ap, arith}
use Rattle.mt_frequencies.specs.Tallies.{Tallied, counts_in}
use Rattle.mt_frequencies.proofs.Counted.{left, pushed, there}
use Rattle.mt_frequencies.proofs.tally.Tally.push.Goals as goal
use Rattle.mt_frequencies.proofs.tally.Tally.push.Goals.{in-Ok, in-Err}

pub returns-clause-counts : goal.returns-clause-counts
returns-clause-counts c = elim c.match-insert_full.branch [
  | in-Ok w ↦ λ value.
      ap (λ (t : Tallied). counts_in t value) w.self-is
      ∙ pushed c.args.self.now c.self.inside.values.keys c.self.inside.counts.items c.self.view_is c.self.invariant.0 c.args.value c.requires c.insert_full.new.self.keys c.push.new.self.items w.in-Ok.ensures.keys c.in_ok-push.ensures.items value
  | in-Err w ↦ λ value.
      ap (λ (t : Tallied). counts_in t value) w.self-is
      ∙ left c.args.self.now c.self.inside.values.keys c.self.inside.counts.items c.self.view_is c.self.invariant.0 c.args.value c.requires c.insert_full.new.self.keys c.push.new.self.items w.truncate.new.self.items c.len-number.result
      w.in-Err.ensures.err c.in_ok-push.ensures.items w.truncate.ensures.items (omega (arith, c.len-number.ensures)) value
]

pub returns-clause-number : goal.returns-clause-number
returns-clause-number c = elim c.match-insert_full.branch [
  | in-Ok w ↦ rw (w.result-is, w.self-is) (there c.args.self.now c.self.inside.values.keys c.self.inside.counts.items c.self.view_is c.self.invariant.0 c.args.value c.requires c.insert_full.new.self.keys c.len-number.result w.in-Ok.ensures.keys (omega (arith, c.len-number.ensures)))
  | in-Err w ↦ rw w.result-is tt
]
