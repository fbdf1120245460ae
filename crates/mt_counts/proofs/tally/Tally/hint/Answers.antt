use Rattle.std.proofs.Common.{◌-◌, vec_len}
use Rattle.std.specs.Map.{keys_of}
use Rattle.mt_counts.proofs.Hints.{at_hint, hints_filled}
use Rattle.mt_counts.proofs.tally.Tally.hint.Goals as goal

pub invariant_of-self-in-Ok : goal.invariant_of-self-in-Ok
invariant_of-self-in-Ok c =
    let entries = c.self.inside.counts.entries in
    let is = at_hint entries c.args.group c.args.member c.args.place (rw c.self.view_is c.requires) in
    (c.self.invariant.0, c.self.invariant.1, c.self.invariant.2, hints_filled (keys_of entries) c.self.inside.hints.items c.resize.new.self.items _ 4096 (4096 - vec_len c.self.inside.hints) c.in-Ok.ensures.items is c.self.invariant.3)
