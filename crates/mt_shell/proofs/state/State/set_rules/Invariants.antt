use Rattle.mt_shell.proofs.state.State.set_rules.Given as goal

abbrev pub ghost-read_rules : goal.ghost-read_rules
ghost-read_rules g a = g.setting
