use Rattle.mt_shell.proofs.top.converse_over.Given as goal

abbrev pub ghost-converse : goal.ghost-converse
ghost-converse g a = g.setting
