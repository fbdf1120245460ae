use Rattle.std.proofs.Common.{subst, IfOk}
use Rattle.std.specs.List.{AllZip}
use Rattle.mt_pattern_spec.specs.Patterns.{MarksAccepted}
use Rattle.mt_pattern.proofs.Accepted.{each_accepted}
use Rattle.mt_pattern.proofs.build.WholePattern.ids_of_each.Goals as goal

pub returns-then-is_plain-clause-marks : goal.returns-then-is_plain-clause-marks
returns-then-is_plain-clause-marks g c =
    subst (λ text. IfOk c.mark_itself_in_each.result (λ sets. AllZip (λ lexicon marks. MarksAccepted text lexicon.now marks) c.args.lexicons.now sets)) c.self.view_is
    c.mark_itself_in_each.ensures

pub returns-clause-marks : goal.returns-clause-marks
returns-clause-marks g c =
    subst (λ text. IfOk c.accepts_each.result (λ sets. AllZip (λ lexicon marks. MarksAccepted text lexicon.now marks) c.args.lexicons.now sets)) c.self.view_is
    (each_accepted (λ lexicon. lexicon.now) c.self.inside.text (g.P.PatternShop.text_of c.self.inside.whole) c.args.lexicons.now c.accepts_each.result c.self.invariant.2 c.self.invariant.0 c.self.invariant.1 c.accepts_each.ensures.found)
