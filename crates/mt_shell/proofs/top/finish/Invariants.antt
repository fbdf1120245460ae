use Rattle.mt_shell.proofs.top.finish.Given as goal

abbrev pub ghost-finish : goal.ghost-finish
ghost-finish g a = g.setting
