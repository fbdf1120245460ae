use Rattle.std.proofs.Common.{subst, IfOk, refl}
use Rattle.mt_pattern_spec.specs.Patterns.{MarksAccepted, finds, wrapped}
use Rattle.mt_pattern.proofs.Accepted.{accepted, if_accepted}
use Rattle.mt_pattern.proofs.build.WholePattern.ids.Goals as goal

pub returns-then-len-gt-FEW_VALUES-clause-marks : goal.returns-then-len-gt-FEW_VALUES-clause-marks
returns-then-len-gt-FEW_VALUES-clause-marks g c =
    subst (λ text. IfOk c.answered.result (λ marks. MarksAccepted text c.args.lexicon.now marks)) c.self.view_is
    (if_accepted c.self.inside.text (g.P.PatternShop.text_of c.self.inside.whole) c.args.lexicon.now c.answered.result c.self.invariant.2 c.self.invariant.0 c.self.invariant.1 c.answered.ensures.found)

pub returns-in-Some-clause-marks : goal.returns-in-Some-clause-marks
returns-in-Some-clause-marks g c =
    subst (λ text. MarksAccepted text c.args.lexicon.now c.in-Some.marks) c.self.view_is
    (accepted c.self.inside.text (wrapped c.self.inside.text) c.args.lexicon.now c.in-Some.marks refl c.self.invariant.0 c.self.invariant.1 (rw c.in-Some.is at (c.in_ok-marks.ensures (finds (wrapped c.self.inside.text)) c.self.invariant.3)))

pub returns-clause-marks : goal.returns-clause-marks
returns-clause-marks g c =
    subst (λ text. MarksAccepted text c.args.lexicon.now c.in_ok-marks-2.marks) c.self.view_is
    (accepted c.self.inside.text (g.P.PatternShop.text_of c.self.inside.whole) c.args.lexicon.now c.in_ok-marks-2.marks c.self.invariant.2 c.self.invariant.0 c.self.invariant.1 c.in_ok-marks-2.ensures.found)
