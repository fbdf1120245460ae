use Rattle.mt_session_spec.specs.Settings.{images_of}
use Rattle.mt_shell.specs.Holding.{grammar_of}
use Rattle.mt_shell.proofs.Holding.{over_of, some_counted, taken_for}
use Rattle.mt_shell.proofs.state.State.prepare_for.Goals as goal

pub prepare-requires : goal.prepare-requires
prepare-requires g c = (
  c.requires.1.1.1.0,
  some_counted (images_of g.setting) c.self.inside.corpus c.in-Some.rules (over_of c.self.inside.accepted c.self.inside.rules c.in-Some.rules c.self.inside.corpus c.in-Some.is c.self.invariant)
      (taken_for g.setting c.args.self.now c.self.inside.accepted (grammar_of c.self.inside.rules) c.self.inside.corpus c.self.view_is c.requires.1.1.1.1),
)
