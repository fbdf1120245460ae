use Rattle.std.proofs.Common.{◌≡◌, ℕ, ◌≤◌, length, Some, ◌∙◌, ap, arith}
use Rattle.mt_places.specs.Places.{room}
use Rattle.mt_segment_spec.specs.Tables.{number_at, tables_at, token_count}
use Rattle.mt_prepare.proofs.Rows.{by_numbers}
use Rattle.mt_prepare.proofs.test_rows.one_row.Goals as goal

pub returns-clause-row : goal.returns-clause-row
returns-clause-row g c =
    let tables = c.args.segment.now in
    let attr = c.args.attr in
    let count = c.len-count.result in
    let numbers = c.mark_one.new.numbers in
    let e : count ≡ length (tables_at tables.attrs attr).lexicon = c.len-count.ensures.number ∙ ap length c.lexicon.ensures in
    let fits : count ≤ room numbers = omega (arith, c.mark_one.ensures.width, c.in_ok-numbers.ensures.width, c.row_width.ensures.is) in
    by_numbers (token_count tables) count (λ (place : ℕ). number_at tables attr place) (λ (n : ℕ). c.args.id ≡ Some n) numbers c.in_ok-row.row c.mark_one.ensures.numbers fits
    (λ place lt. omega (arith, (c.tables_are_whole.ensures tables c.tokens-tokens.ensures.valid).within attr place c.requires.attr lt, e)) c.in_ok-row.ensures.row
