use Rattle.std.proofs.Common.{slice_get, Some, sym, ap, ◌∙◌}
use Rattle.mt_frequencies.specs.Tallies.{Tallied}
use Rattle.mt_frequencies.specs.declared.tally.Count.{Count}
use Rattle.mt_frequencies.proofs.Counted.{got}
use Rattle.mt_frequencies.proofs.tally.Tally.get.Goals as goal

pub returns-clause-spans : goal.returns-clause-spans
returns-clause-spans c =
    let key = c.in-Some.ensures.key in
    ap (λ (count : Count). count.spans) (got c.args.self.now c.self.inside.values.keys c.self.inside.counts.items c.args.number c.index.result.now c.as_str.result.now c.self.view_is c.len.ensures.distinct c.self.invariant.0 c.index.ensures
    (ap (λ (t : Tallied). slice_get t.values c.args.number) (sym c.self.view_is) ∙ sym key ∙ ap Some (sym c.as_str.ensures)))
