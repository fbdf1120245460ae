use Rattle.mt_spans.proofs.show.show_case.Goals as goal

pub build-requires-clause-mappers : goal.build-requires-clause-mappers
build-requires-clause-mappers g c κs within = c.has_mappers.ensures.0 c.if-not-has_mappers.false
