use Rattle.mt_prepare.proofs.tags.spans_of_kind.Goals as goal

pub returns-clause-listed : goal.returns-clause-listed
returns-clause-listed g c = c.keep.ensures.known c.args.segment.now c.list_kind.ensures.listed (rw c.in_ok-shared.ensures c.in_ok-spans.ensures.spans)

pub returns-clause-spans : goal.returns-clause-spans
returns-clause-spans g c = rw c.in_ok-shared.ensures c.in_ok-spans.ensures.spans
