use Rattle.mt_grammar_counts.proofs.segments.add_segments.Goals as goal

pub returns-clause-counts : goal.returns-clause-counts
returns-clause-counts g c = c.add_each.ensures.counts

pub returns-clause-room : goal.returns-clause-room
returns-clause-room g c = c.add_each.ensures.room

pub returns-clause-too_many : goal.returns-clause-too_many
returns-clause-too_many g c = c.add_each.ensures.too_many
