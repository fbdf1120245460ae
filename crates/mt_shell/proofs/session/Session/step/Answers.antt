use Rattle.mt_script.specs.Seen.{command_of}
use Rattle.mt_shell.proofs.Keeping.{keeps_refused}
use Rattle.mt_shell.proofs.session.Session.step.Goals as goal

pub returns-clause-refused : goal.returns-clause-refused
returns-clause-refused g c =
    keeps_refused {setting = g.setting} c.refused_keep.ensures c.args.self.now.state.held c.perform-reply.new.self.state.held (command_of c.args.command) c.perform-reply.result _ _ c.valid.ensures c.requires.1.1.1.1.1.1.1.0 c.perform-reply.ensures.means
