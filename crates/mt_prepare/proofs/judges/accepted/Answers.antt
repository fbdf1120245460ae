use Rattle.mt_prepare.proofs.Found.{pattern_judges}
use Rattle.mt_prepare.proofs.judges.accepted.Goals as goal

pub returns-clause-judges : goal.returns-clause-judges
returns-clause-judges g c =
    pattern_judges c.args.segment.now c.args.kind c.args.attr c.args.text.now c.args.not c.in_ok-values.values c.in_ok-ids.ids c.in_ok-values.ensures
    (rw c.requires.stands.is_there at c.in_ok-ids.ensures.marks)
