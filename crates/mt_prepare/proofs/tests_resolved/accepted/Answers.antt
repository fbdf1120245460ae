use Rattle.mt_prepare.proofs.Resolving.{pattern_resolved}
use Rattle.mt_prepare.proofs.tests_resolved.accepted.Goals as goal

pub returns-clause-resolves : goal.returns-clause-resolves
returns-clause-resolves c = pattern_resolved c.args.segment.now c.args.attr c.args.text.now c.args.not c.args.ids (c.tables_are_whole.ensures c.args.segment.now c.texts-valid.ensures.valid) c.requires.known c.requires.answered
