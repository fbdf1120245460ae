use Rattle.mt_shell.proofs.state.State.take_registry.Given as goal

abbrev pub ghost-read_registry : goal.ghost-read_registry
ghost-read_registry g a = g.setting
