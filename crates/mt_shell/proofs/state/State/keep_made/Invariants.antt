use Rattle.mt_shell.proofs.state.State.keep_made.Given as goal

abbrev pub ghost-keep_segment : goal.ghost-keep_segment
ghost-keep_segment g a = g.setting
