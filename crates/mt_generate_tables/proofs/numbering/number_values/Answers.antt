use Rattle.std.proofs.Common.{◌≡◌, ◌∙◌, ap₂}
use Rattle.mt_lexicon.specs.Joins.{renumbered}
use Rattle.mt_store_spec.specs.Lexicons.{Renumbers}
use Rattle.mt_segment.proofs.Numbered.{finished_lexicon, finished_numbers}
use Rattle.mt_generate_tables.specs.Coded.{tokens_of, values_of}
use Rattle.mt_generate_tables.proofs.Codes.{tells}
use Rattle.mt_generate_tables.proofs.numbering.number_values.Goals as goal

pub returns-clause-lexicon : goal.returns-clause-lexicon
returns-clause-lexicon c =
    rw (← c.in_ok-sights.ensures.values) (finished_lexicon c.add_values.new.values c.in_ok-lexicon.lexicon c.in_ok-sights.sights.items c.in_ok-sights.ensures.numbered c.in_ok-lexicon.ensures.lexicon)

pub returns-clause-table : goal.returns-clause-table
returns-clause-table c =
    let sights = c.in_ok-sights.sights.items in
    let lexicon = c.in_ok-lexicon.lexicon in
    let next = c.in_ok-lexicon.next in
    let numbers : c.as_slice-3.result.now ≡ renumbered next sights = c.as_slice-3.ensures.value ∙ c.in_ok-numbers.ensures ∙ ap₂ renumbered c.as_slice-2.ensures c.as_slice.ensures.value in
    let are : Renumbers c.as_slice-3.result.now (values_of c.args.column (tokens_of c.args.codes.now)) lexicon =
    rw (numbers, ← c.in_ok-sights.ensures.values) (finished_numbers c.add_values.new.values lexicon sights next c.in_ok-sights.ensures.numbered c.in_ok-lexicon.ensures.numbers) in
    tells c.args.column c.args.codes.now lexicon c.as_slice-3.result.now c.in_ok-table.table.items are c.in_ok-table.ensures
