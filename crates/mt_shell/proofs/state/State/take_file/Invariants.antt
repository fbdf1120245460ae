use Rattle.mt_shell.proofs.state.State.take_file.Given as goal

abbrev pub ghost-read_bytes : goal.ghost-read_bytes
ghost-read_bytes g a = g.setting
