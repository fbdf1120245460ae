use Rattle.mt_shell.proofs.state.State.add_file.Given as goal

abbrev pub ghost-take_file : goal.ghost-take_file
ghost-take_file g a = g.setting
