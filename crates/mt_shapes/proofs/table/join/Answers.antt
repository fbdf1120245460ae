use Rattle.std.proofs.Common.{◌≡◌, arith}
use Rattle.std.proofs.lemmas.List.{get_or_read}
use Rattle.mt_shapes.specs.Tables.{entry, none, IsMatchOf}
use Rattle.mt_shapes.proofs.Matches.{next_first}
use Rattle.mt_shapes.proofs.table.join.Goals as goal

pub loop-first-preserved : goal.loop-first-preserved
loop-first-preserved c =
    let firsts = c.args.firsts.now in
    let n = c.loop-first.first-index in
    let item : c.first-item.result ≡ entry firsts n = get_or_read firsts n c.first-item.result (omega arith) c.first-item.is none in
    next_first c.args.last n (IsMatchOf c.args.seconds.now) firsts c.args.out.now.items c.loop-first.out.items c.join_first.new.out.items c.first-item.result item c.loop-first.invariant c.in_ok-join_first.ensures
