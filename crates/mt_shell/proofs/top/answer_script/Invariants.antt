use Rattle.mt_segment.specs.Mappers.{named}
use Rattle.mt_shell.specs.Serves.{setting_of}
use Rattle.mt_shell.proofs.top.answer_script.Given as goal

abbrev pub ghost-converse_over : goal.ghost-converse_over
ghost-converse_over g a = setting_of (named g.M.Mapper.called g.M.Mapper.image a.talk.now.session.mappers.items)
