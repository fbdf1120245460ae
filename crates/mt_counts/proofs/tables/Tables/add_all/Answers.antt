use Rattle.std.proofs.Common.{length, rules, arith}
use Rattle.mt_counts.specs.Counted.{HaveSame}
use Rattle.mt_counts.specs.Notes.{noted}
use Rattle.mt_counts.specs.Tables.{counted}
use Rattle.mt_counts.proofs.Filling.{room_grown, same_then}
use Rattle.mt_counts.proofs.Sums.{grown_same, sum_behind}
use Rattle.mt_counts.proofs.tables.Tables.add_all.Goals as goal

pub returns-in_err-number-clause-err : goal.returns-in_err-number-clause-err
returns-in_err-number-clause-err c =
    let same : HaveSame (counted c.args.self.now) (counted c.number.new.self) = grown_same c.args.self.now c.number.new.self c.requires.inside c.in_err-number.ensures.grown in
    search rules

pub add_blocks-requires-clause-room : goal.add_blocks-requires-clause-room
add_blocks-requires-clause-room c = room_grown c.args.self.now c.number.new.self (length c.args.notes.now) (length c.args.notes.now) c.in_ok-number.ensures.grown (omega arith) c.requires.room

pub returns-in_err-add_blocks-clause-err : goal.returns-in_err-add_blocks-clause-err
returns-in_err-add_blocks-clause-err c =
    let t = c.args.self.now in
    let same : HaveSame (counted t) (counted c.add_blocks.new.self) = same_then (counted t) (counted c.number.new.self) (counted c.add_blocks.new.self) (grown_same t c.number.new.self c.requires.inside c.in_ok-number.ensures.grown) c.in_err-add_blocks.ensures.err in
    search rules

pub returns-clause-ok : goal.returns-clause-ok
returns-clause-ok c =
    let t = c.args.self.now in
    sum_behind (counted t) (counted c.number.new.self) (noted c.args.names.now c.args.words.now c.args.notes.now) (counted c.add_blocks.new.self) (grown_same t c.number.new.self c.requires.inside c.in_ok-number.ensures.grown) c.in_ok-add_blocks.ensures.ok
