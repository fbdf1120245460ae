use Rattle.std.proofs.Common.{◌≡◌, ◌∙◌, ◌+◌, ◌/◌, length, take, ap, arith}
use Rattle.mt_vertical_tables.proofs.CutText.{cut_behind_feed, feed_behind}
use Rattle.mt_vertical_tables.proofs.Marks.{behind_byte}
use Rattle.mt_vertical_tables.proofs.halves.halves.Goals as goal

pub range-requires-clause-end_boundary : goal.range-requires-clause-end_boundary
range-requires-clause-end_boundary c =
    let text = c.args.text.now in
    let place = length text / 2 + c.in-Some.place in
    let at = feed_behind text c.as_bytes.result.now (length text / 2) c.in-Some.place c.memchr.result c.as_bytes.ensures.value (omega arith) c.memchr.ensures c.in-Some.is in
    behind_byte 10 text place (omega arith) c.utf8.text at.0 at.1

pub range_from-requires : goal.range_from-requires
range_from-requires c = λ l.
    let text = c.args.text.now in
    let place = length text / 2 + c.in-Some.place in
    let at = feed_behind text c.as_bytes.result.now (length text / 2) c.in-Some.place c.memchr.result c.as_bytes.ensures.value (omega arith) c.memchr.ensures c.in-Some.is in
    behind_byte 10 text place (omega arith) c.utf8.text at.0 at.1

pub returns-in-Some : goal.returns-in-Some
returns-in-Some c =
    let text = c.args.text.now in
    let place = length text / 2 + c.in-Some.place in
    let at = feed_behind text c.as_bytes.result.now (length text / 2) c.in-Some.place c.memchr.result c.as_bytes.ensures.value (omega arith) c.memchr.ensures c.in-Some.is in
    let front : c.range.result.now ≡ take (place + 1) text = c.range.ensures.value ∙ ap (λ n. take n text) (omega arith) in
    cut_behind_feed text c.range.result.now c.range_from.result.now place at.0 at.1 front c.range_from.ensures.value
