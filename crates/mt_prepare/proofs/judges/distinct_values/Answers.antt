use Rattle.mt_prepare.proofs.Found.{have_values}
use Rattle.mt_prepare.proofs.judges.distinct_values.Goals as goal

pub returns : goal.returns
returns c =
    have_values c.finish.result c.args.segment.now c.args.kind c.args.attr c.in_ok-values.values c.add_all.new.self (rw c.structs.ensures at c.in_ok-add_all.ensures) c.finish.ensures
