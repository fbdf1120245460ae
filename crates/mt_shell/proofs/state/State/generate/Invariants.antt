use Rattle.mt_shell.proofs.state.State.generate.Given as goal

abbrev pub ghost-keep_generated : goal.ghost-keep_generated
ghost-keep_generated g a = g.setting

abbrev pub ghost-read_text : goal.ghost-read_text
ghost-read_text g a = g.setting
