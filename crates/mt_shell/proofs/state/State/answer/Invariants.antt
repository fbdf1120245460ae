use Rattle.mt_shell.proofs.state.State.answer.Given as goal

abbrev pub ghost-answer_prepared : goal.ghost-answer_prepared
ghost-answer_prepared g a = g.setting

abbrev pub ghost-prepare_for : goal.ghost-prepare_for
ghost-prepare_for g a = g.setting
