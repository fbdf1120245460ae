use Rattle.mt_counts.proofs.Numbering.{stored_as}
use Rattle.mt_counts.proofs.names.Names.put.Goals as goal

pub returns-clause-number : goal.returns-clause-number
returns-clause-number c = let k = c.in-Ok.ensures.stored in stored_as c.args.value c.insert_full.new.self.keys c.in-Ok.number k.0 k.1 k.2
