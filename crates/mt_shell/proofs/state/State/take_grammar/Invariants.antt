use Rattle.mt_shell.proofs.state.State.take_grammar.Given as goal

abbrev pub ghost-read_rules : goal.ghost-read_rules
ghost-read_rules g a = g.setting
