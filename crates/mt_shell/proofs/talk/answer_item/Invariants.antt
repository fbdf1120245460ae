use Rattle.mt_shell.proofs.talk.answer_item.Given as goal

abbrev pub ghost-answer_command : goal.ghost-answer_command
ghost-answer_command g a = g.setting
