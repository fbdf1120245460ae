use Rattle.std.proofs.Common.{◌≡◌, ℕ, ◌<◌, [], length, arith}
use Rattle.std.specs.Map.{keys_of}
use Rattle.std.proofs.lemmas.Option.{slice_get_within, slice_get-get_or}
use Rattle.mt_counts.specs.Counted.{is_three}
use Rattle.mt_counts.specs.Tables.{three_of, by_row, text_at, named_word, row_at}
use Rattle.mt_counts.specs.Totals.{total}
use Rattle.mt_counts.proofs.Keys.{three_counts, no_row, row_named, row_stands_so}
use Rattle.mt_counts.proofs.Taking.{lowered_none, lowered_texts}
use Rattle.mt_counts.proofs.lowering.lower_row.Goals as goal

pub returns-in-Some-clause-lowered : goal.returns-in-Some-clause-lowered
returns-in-Some-clause-lowered c = λ h.
    let names = c.args.names.now in
    let words = c.args.words.now in
    let rows = c.args.rows.now in
    let name = text_at names c.args.name in
    let first = text_at words c.args.first in
    let second = text_at words c.args.second in
    let row = c.in-Some.row in
    let at = c.in-Some.ensures.found in
    let within = slice_get_within rows row ((c.args.first, c.args.name), at.count) at.there in
    let there = slice_get-get_or words c.args.second [] c.requires.second in
    let is_row = row_named names words rows name first c.args.name c.args.first row (slice_get-get_or names c.args.name [] c.requires.name) (slice_get-get_or words c.args.first [] c.requires.first) at in
    let is = three_counts names words rows c.args.both.now c.requires.rows c.requires.below name first second row c.args.second c.len.ensures.distinct c.len-2.ensures.distinct c.len-3.ensures.once within is_row there in
    lowered_texts (three_of names words (keys_of rows)) (row, c.args.second) (name, first, second) 1 c.args.both.now c.lower_key.new.self (λ i. ((is_row i).0, (is_row i).1, second)) (c.lower_key.ensures.lowered (omega (arith, h, is)))

pub returns-in-None-clause-lowered : goal.returns-in-None-clause-lowered
returns-in-None-clause-lowered c = λ h.
    let names = c.args.names.now in
    let words = c.args.words.now in
    let rows = c.args.rows.now in
    let name = text_at names c.args.name in
    let first = text_at words c.args.first in
    let second = text_at words c.args.second in
    let shown = by_row names words (keys_of rows) c.args.both.now in
    let none : (row : ℕ) → row < length rows → named_word names words (row_at (keys_of rows) row) ≡ (name, first) → ⊥ =
    λ row within is. c.in-None.ensures.none row (row_stands_so names words rows c.requires.rows name first row within is c.args.name c.args.first c.len.ensures.distinct c.len-2.ensures.distinct
    (slice_get-get_or names c.args.name [] c.requires.name) (slice_get-get_or words c.args.first [] c.requires.first)) in
    lowered_none shown (name, first, second) 1 (total (is_three name first second) shown) (no_row names words rows c.args.both.now c.requires.rows c.requires.below name first second none) h
