use Rattle.mt_shell.proofs.state.State.set_grammar.Given as goal

abbrev pub ghost-take_grammar : goal.ghost-take_grammar
ghost-take_grammar g a = g.setting
