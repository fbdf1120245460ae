use Rattle.std.proofs.Common.{arith}
use Rattle.mt_generate.proofs.Rows.{row_at, rows_length}
use Rattle.mt_generate.proofs.text.one_row.Goals as goal

pub get-requires : goal.get-requires
get-requires c = omega (arith, c.requires.low, rows_length c.args.plural 1000 c.args.rows.now c.requires.rows)

pub returns : goal.returns
returns c = row_at c.args.plural 1000 c.args.rank c.args.rows.now c.get.result.now c.requires.rows c.requires.low c.get.ensures
