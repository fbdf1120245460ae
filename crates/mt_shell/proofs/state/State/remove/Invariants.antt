use Rattle.mt_shell.proofs.state.State.remove.Given as goal

abbrev pub ghost-remove_counted : goal.ghost-remove_counted
ghost-remove_counted g a = g.setting
