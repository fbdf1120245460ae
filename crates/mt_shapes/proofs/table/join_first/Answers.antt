use Rattle.std.proofs.Common.{◌≡◌, arith}
use Rattle.std.proofs.lemmas.List.{get_or_read}
use Rattle.mt_shapes.specs.Shapes.{IsOf}
use Rattle.mt_shapes.specs.Tables.{entry, none}
use Rattle.mt_shapes.proofs.Matches.{next_second}
use Rattle.mt_shapes.proofs.table.join_first.Goals as goal

pub loop-second-preserved : goal.loop-second-preserved
loop-second-preserved c =
    let seconds = c.args.seconds.now in
    let n = c.loop-second.second-index in
    let item : c.second-item.result ≡ entry seconds n = get_or_read seconds n c.second-item.result (omega arith) c.second-item.is none in
    next_second c.args.last n (IsOf c.args.first.now.shape c.args.first.now.begins) seconds c.args.out.now.items c.loop-second.out.items c.join_two.new.out.items c.second-item.result item c.loop-second.invariant
    c.in_ok-join_two.ensures
