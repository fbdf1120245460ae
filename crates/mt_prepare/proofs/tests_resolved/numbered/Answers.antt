use Rattle.mt_prepare.proofs.Resolving.{number_resolved}
use Rattle.mt_prepare.proofs.tests_resolved.numbered.Goals as goal

pub returns-clause-resolves : goal.returns-clause-resolves
returns-clause-resolves g c =
    number_resolved c.args.segment.now c.args.attr c.args.pattern.now c.args.not c.args.id (c.tables_are_whole.ensures c.args.segment.now c.texts-valid.ensures.valid) c.requires.known c.requires.just
