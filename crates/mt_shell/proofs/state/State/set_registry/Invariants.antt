use Rattle.mt_shell.proofs.state.State.set_registry.Given as goal

abbrev pub ghost-take_registry : goal.ghost-take_registry
ghost-take_registry g a = g.setting
