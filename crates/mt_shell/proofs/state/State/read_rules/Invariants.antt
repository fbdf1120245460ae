use Rattle.mt_shell.proofs.state.State.read_rules.Given as goal

abbrev pub ghost-keep_rules : goal.ghost-keep_rules
ghost-keep_rules g a = g.setting
