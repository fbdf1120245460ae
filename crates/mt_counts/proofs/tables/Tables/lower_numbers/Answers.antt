use Rattle.std.proofs.Common.{refl}
use Rattle.mt_counts.specs.Tables.{text_at}
use Rattle.mt_counts.proofs.Taking.{left_inside, two_taken}
use Rattle.mt_counts.proofs.tables.Tables.lower_numbers.Goals as goal

pub returns-clause-inside : goal.returns-clause-inside
returns-clause-inside c =
    left_inside c.args.self.now c.lower_name.new.tally c.lower_row.new.both c.lower_name-2.new.tally c.args.self.now.alone c.lower_name.ensures.keys c.lower_row.ensures.keys c.lower_name-2.ensures.keys refl c.requires.inside

pub returns-clause-taken : goal.returns-clause-taken
returns-clause-taken c =
    let t = c.args.self.now in
    two_taken t (text_at t.names c.args.name) (text_at t.words c.args.first) (text_at t.words c.args.second) c.lower_name.new.tally c.lower_row.new.both c.lower_name-2.new.tally c.lower_name.ensures.keys
    c.lower_row.ensures.lowered c.lower_name.ensures.lowered c.lower_name-2.ensures.lowered
