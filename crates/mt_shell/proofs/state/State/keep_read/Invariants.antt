use Rattle.mt_shell.proofs.state.State.keep_read.Given as goal

abbrev pub ghost-keep_made : goal.ghost-keep_made
ghost-keep_made g a = g.setting
