use Rattle.mt_shell.proofs.state.State.read_text.Given as goal

abbrev pub ghost-keep_read : goal.ghost-keep_read
ghost-keep_read g a = g.setting

abbrev pub ghost-keep_text : goal.ghost-keep_text
ghost-keep_text g a = g.setting
