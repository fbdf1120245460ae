use Rattle.std.proofs.Common.{ℕ, Option, Some, length, arith, subst}
use Rattle.memchr.specs.Find.{IsFirst, Passes, is_byte}
use Rattle.mt_vertical_tables.proofs.Marks.{behind_byte, first_line, last_line}
use Rattle.mt_vertical_tables.proofs.marked.cut_line.Goals as goal

pub range_from-requires : goal.range_from-requires
range_from-requires c = λ l.
    let feed : IsFirst (Passes (is_byte 10) c.args.text.now) 0 (length c.args.text.now) (Some c.in-Some.place) = subst (λ (f : Option ℕ). IsFirst (Passes (is_byte 10) c.args.text.now) 0 (length c.args.text.now) f) c.in-Some.is c.requires.feed in
    behind_byte 10 c.args.text.now c.in-Some.place (omega arith) c.utf8.text feed.0.high feed.1

pub returns-in-Some-clause-first : goal.returns-in-Some-clause-first
returns-in-Some-clause-first c =
    let feed : IsFirst (Passes (is_byte 10) c.args.text.now) 0 (length c.args.text.now) (Some c.in-Some.place) = subst (λ (f : Option ℕ). IsFirst (Passes (is_byte 10) c.args.text.now) 0 (length c.args.text.now) f) c.in-Some.is c.requires.feed in
    first_line c.args.text.now c.range.result.now c.without_return.result.now c.range_from.result.now c.in-Some.place feed c.range.ensures.value c.without_return.ensures c.range_from.ensures.value

pub returns-in-None-clause-first : goal.returns-in-None-clause-first
returns-in-None-clause-first c =
    last_line c.args.text.now c.requires.some (subst (λ (f : Option ℕ). IsFirst (Passes (is_byte 10) c.args.text.now) 0 (length c.args.text.now) f) c.in-None.is c.requires.feed)
