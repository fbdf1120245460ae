use Rattle.std.proofs.Common.{◌<◌, length, subst, sym}
use Rattle.mt_instances.specs.Named.{Named}
use Rattle.mt_instances.proofs.Rising.{kept_more}
use Rattle.mt_instances.proofs.instances.Instances.push.Goals as goal

pub invariant_of-self-then-above : goal.invariant_of-self-then-above
invariant_of-self-then-above c =
    let inside = c.self.inside in
    let named = subst (λ (s : Named). c.args.entry.name < length s.names) (sym c.self.view_is) c.requires in
    rw c.in-Ok.ensures.items
    (kept_more (length inside.names) inside.entries.items c.args.entry inside.ranks c.raise.new.self inside.rising named c.raise.ensures.kept (c.in_ok-above.ensures.above c.if-above.true) (c.in_ok-above.ensures.raised c.if-above.true) c.self.invariant)
