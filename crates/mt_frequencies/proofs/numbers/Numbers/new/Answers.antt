-- The tables are whole.
use Rattle.std.proofs.Common.{sym}
use Rattle.mt_frequencies.proofs.Numbered.{base_there, base_unmapped, by_column, by_table, in_base_column, in_column, in_table}
use Rattle.mt_frequencies.proofs.numbers.Numbers.new.Goals as goal

pub column-requires-in-Some-clause-attr : goal.column-requires-in-Some-clause-attr
column-requires-in-Some-clause-attr c = base_there c.args.segment.now (c.tables_are_whole.ensures c.args.segment.now c.texts.ensures.valid) c.args.attr c.in-Some.base c.requires (sym c.in-Some.ensures)

pub column-requires-in-Some-clause-base : goal.column-requires-in-Some-clause-base
column-requires-in-Some-clause-base c = base_unmapped c.args.segment.now (c.tables_are_whole.ensures c.args.segment.now c.texts.ensures.valid) c.args.attr c.in-Some.base c.requires (sym c.in-Some.ensures)

pub returns-in-None : goal.returns-in-None
returns-in-None c =
    let whole = c.tables_are_whole.ensures c.args.segment.now c.texts.ensures.valid in
    record {
      there = λ place inside. in_column c.args.segment.now whole c.args.attr c.requires (sym c.in-None.ensures) c.column.result.now c.column.ensures place inside;
      are = λ place inside. by_column c.args.segment.now whole c.args.attr c.requires (sym c.in-None.ensures) c.column.result.now c.column.ensures place inside;
      within = λ place inside. whole.within c.args.attr place c.requires inside;
    }

pub returns-in-Some : goal.returns-in-Some
returns-in-Some c =
    let whole = c.tables_are_whole.ensures c.args.segment.now c.texts.ensures.valid in
    let base = c.in-Some.base in
    let mapped = sym c.in-Some.ensures in
    let column = c.column-in-Some.result.now in
    let table = c.table.result.now in
    record {
      there = λ place inside. (
        in_base_column c.args.segment.now whole c.args.attr base c.requires mapped column table c.column-in-Some.ensures c.table.ensures place inside,
        in_table c.args.segment.now whole c.args.attr base c.requires mapped column table c.column-in-Some.ensures c.table.ensures place inside,
      );
      are = λ place inside. by_table c.args.segment.now whole c.args.attr base c.requires mapped column table c.column-in-Some.ensures c.table.ensures place inside;
      within = λ place inside. whole.within c.args.attr place c.requires inside;
    }
