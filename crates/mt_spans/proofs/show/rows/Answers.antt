use Rattle.mt_spans.proofs.show.rows.Goals as goal

pub eval-requires-clause-known : goal.eval-requires-clause-known
eval-requires-clause-known g c = c.new-scratch.ensures.known c.args.segment.now
