use Rattle.mt_prepare.proofs.tags.spans_of_tag.Goals as goal

pub returns-in-Any-clause-spans : goal.returns-in-Any-clause-spans
returns-in-Any-clause-spans g c = rw c.in-Any.is c.spans_of_kind.ensures.spans
