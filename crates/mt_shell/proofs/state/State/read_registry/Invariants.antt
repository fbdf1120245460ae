use Rattle.mt_shell.proofs.state.State.read_registry.Given as goal

abbrev pub ghost-keep_registry : goal.ghost-keep_registry
ghost-keep_registry g a = g.setting
