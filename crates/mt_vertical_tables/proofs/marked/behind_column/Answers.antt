use Rattle.std.proofs.Common.{refl, arith}
use Rattle.mt_vertical_tables.proofs.Marks.{behind_byte, behind_tab_is}
use Rattle.mt_vertical_tables.proofs.marked.behind_column.Goals as goal

pub range_from-requires : goal.range_from-requires
range_from-requires c = λ l.
    let tab = c.in_ok-place.ensures 9 c.args.text.now c.requires.marks (omega arith) in
    behind_byte 9 c.args.text.now c.in_ok-place.place (omega arith) c.utf8.text tab.0.high tab.1

pub returns : goal.returns
returns c = behind_tab_is c.args.text.now c.range_from.result.now c.args.tabs _ c.in_ok-place.place c.requires (c.in_ok-place.ensures 9 c.args.text.now c.requires.marks (omega arith)) c.range_from.ensures.value refl
