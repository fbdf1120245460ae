use Rattle.mt_shell.proofs.session.Session.step.Given as goal

abbrev pub ghost-perform : goal.ghost-perform
ghost-perform g a = g.setting
