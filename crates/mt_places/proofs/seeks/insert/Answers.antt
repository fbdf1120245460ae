use Rattle.mt_places.proofs.Finding.{one_added}
use Rattle.mt_places.proofs.seeks.insert.Goals as goal

pub returns : goal.returns
returns c = one_added c.args.set.now c.args.place c.requires
