use Rattle.mt_shell.proofs.talk.answer_command.Given as goal

abbrev pub ghost-step : goal.ghost-step
ghost-step g a = g.setting
