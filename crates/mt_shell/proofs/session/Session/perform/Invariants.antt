use Rattle.mt_shell.proofs.session.Session.perform.Given as goal

abbrev pub ghost-set_registry : goal.ghost-set_registry
ghost-set_registry g a = g.setting

abbrev pub ghost-add_text : goal.ghost-add_text
ghost-add_text g a = g.setting

abbrev pub ghost-add_file : goal.ghost-add_file
ghost-add_file g a = g.setting

abbrev pub ghost-generate : goal.ghost-generate
ghost-generate g a = g.setting

abbrev pub ghost-answer : goal.ghost-answer
ghost-answer g a = g.setting

abbrev pub ghost-segments : goal.ghost-segments
ghost-segments g a = g.setting

abbrev pub ghost-set_grammar : goal.ghost-set_grammar
ghost-set_grammar g a = g.setting

abbrev pub ghost-set_rules : goal.ghost-set_rules
ghost-set_rules g a = g.setting

abbrev pub ghost-remove : goal.ghost-remove
ghost-remove g a = g.setting
