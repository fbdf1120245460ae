use Rattle.std.proofs.Common.{◌∙◌}
use Rattle.mt_generate.proofs.Rows.{no_rows, rows_more}
use Rattle.mt_generate.proofs.text.rows.Goals as goal

pub loop-rank-init : goal.loop-rank-init
loop-rank-init c = c.in_ok-rows.ensures ∙ no_rows c.args.plural

pub loop-rank-preserved : goal.loop-rank-preserved
loop-rank-preserved c = rows_more c.args.plural c.loop-rank.rank c.loop-rank.rows _ c.make_row.new.row c.loop-rank.invariant c.in_ok-push.ensures.ok c.in_ok-make_row.ensures
