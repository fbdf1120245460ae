use Rattle.std.proofs.Common.{◌∷◌, [], refl, sym, rules}
use Rattle.mt_vertical.proofs.attrs.past_attrs.Goals as goal
use Rattle.mt_vertical.proofs.AttrForms.{attr_takes}

pub loop-others-smaller : goal.loop-others-smaller
loop-others-smaller c = attr_takes _ _ _ (sym c.in-Some.ensures)

pub loop-others-preserved : goal.loop-others-preserved
loop-others-preserved c = record { read = λ attrs rest r. c.loop-others.invariant.read (_ ∷ attrs) rest (c.in-Some.others.now, sym c.in-Some.ensures, r); utf8 = search rules }

pub returns : goal.returns
returns c = c.loop-others.invariant.read [] _ (sym c.in_default.ensures, refl)
