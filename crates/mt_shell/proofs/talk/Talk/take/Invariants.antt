use Rattle.mt_shell.proofs.talk.Talk.take.Given as goal

abbrev pub ghost-answer : goal.ghost-answer
ghost-answer g a = g.setting
