use Rattle.mt_counts.proofs.Sums.{names_more, texts_more}
use Rattle.mt_counts.proofs.tables.Tables.number.Goals as goal

pub returns-in_err-add_each-clause-grown : goal.returns-in_err-add_each-clause-grown
returns-in_err-add_each-clause-grown c = names_more c.args.self.now c.add_each.new.self c.in_err-add_each.ensures.begins

pub returns-clause-grown : goal.returns-clause-grown
returns-clause-grown c = texts_more c.args.self.now c.add_each.new.self c.add_each-2.new.self c.in_ok-add_each.ensures.begins c.add_each-2.ensures.begins
