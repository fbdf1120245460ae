use Rattle.std.proofs.Common.{◌≡◌, ◌≤◌, length, get_or, sym, ◌∙◌, arith}
use Rattle.std.proofs.lemmas.List.{get_or_default}
use Rattle.mt_eval.proofs.Rooms.{lowered}
use Rattle.mt_eval.proofs.run.take_rows.Goals as goal

pub overflow_add-number : goal.overflow_add-number
overflow_add-number g c = omega (arith, c.requires.room, c.len.ensures, c.len.type_inv)

pub returns-clause-rooms : goal.returns-clause-rooms
returns-clause-rooms g c =
    let room = c.get-room.result.now in
    let by = length c.in_ok-rows.rows in
    let within : by ≤ room = c.in_ok-rows.ensures.room in
    let is : get_or c.args.rooms.now c.args.number 0 ≡ room = sym (c.get-room.ensures ∙ get_or_default c.args.rooms.now c.args.number room 0 c.requires.room) in
    let count = c.len-2.ensures.count in
    lowered c.args.number by _ c.args.rooms.now c.replace_range.new.self c.requires.room c.replace_range.ensures.some (omega (arith, within, count, is))
