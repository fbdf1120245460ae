use Rattle.std.proofs.Common.{sym, ◌∙◌, ap, subst}
use Rattle.mt_pattern.specs.Known.{AreKnown}
use Rattle.mt_pattern.proofs.known.Known.keep.Goals as goal

pub returns : goal.returns
returns c = λ test known so. c.push.ensures test (subst (AreKnown test) (sym c.in_ok-make_room.ensures) known) (so ∙ ap test (sym c.in_ok-value.ensures))
