use Rattle.std.proofs.Common.{◌≡◌, ℕ, length, get_or, sym, ◌∙◌, ap, arith}
use Rattle.std.proofs.lemmas.Result.{on_ok_weaker}
use Rattle.mt_places.specs.Places.{In}
use Rattle.mt_segment_spec.specs.Tables.{tables_at, token_count}
use Rattle.mt_prepare.proofs.Rows.{at_mapped, base_low, sought_row, all_said_of, says_of_table}
use Rattle.mt_prepare.proofs.test_rows.pass_mapped.Goals as goal

pub lexicon-requires : goal.lexicon-requires
lexicon-requires g c = ((c.tables_are_whole.ensures c.args.segment.now c.tokens-tokens.ensures.valid).bases c.args.attr c.args.base c.requires.attr c.requires.mapped).0

pub sought_bases-requires : goal.sought_bases-requires
sought_bases-requires g c =
    c.len-count.ensures.number ∙ ap length c.lexicon.ensures ∙ sym ((c.tables_are_whole.ensures c.args.segment.now c.tokens-tokens.ensures.valid).mapped c.args.attr c.args.base c.requires.attr c.requires.mapped)
    ∙ ap length (sym c.table.ensures)

pub column-requires-clause-attr : goal.column-requires-clause-attr
column-requires-clause-attr g c = ((c.tables_are_whole.ensures c.args.segment.now c.tokens-tokens.ensures.valid).bases c.args.attr c.args.base c.requires.attr c.requires.mapped).0

pub column-requires-clause-base : goal.column-requires-clause-base
column-requires-clause-base g c = ((c.tables_are_whole.ensures c.args.segment.now c.tokens-tokens.ensures.valid).bases c.args.attr c.args.base c.requires.attr c.requires.mapped).1

pub fill-requires-clause-tokens : goal.fill-requires-clause-tokens
fill-requires-clause-tokens g c =
    let whole = c.tables_are_whole.ensures c.args.segment.now c.tokens-tokens.ensures.valid in
    let b = whole.bases c.args.attr c.args.base c.requires.attr c.requires.mapped in
    c.tokens-tokens.ensures.count ∙ sym (whole.columns c.args.base b.0 b.1) ∙ ap length (sym c.column.ensures)

pub fill-requires-clause-within : goal.fill-requires-clause-within
fill-requires-clause-within g c =
    let tables = c.args.segment.now in
    let base = c.args.base in
    let list = (tables_at tables.attrs c.args.attr).numbers in
    let count = c.len-count.result in
    let whole = c.tables_are_whole.ensures tables c.tokens-tokens.ensures.valid in
    let b = whole.bases c.args.attr base c.requires.attr c.requires.mapped in
    let e : count ≡ length (tables_at tables.attrs base).lexicon = c.len-count.ensures.number ∙ ap length c.lexicon.ensures in
    all_said_of c.tokens-tokens.result (token_count tables) c.column.result.now (tables_at tables.attrs base).numbers (λ (n : ℕ). In c.args.numbers.now (get_or list n 0)) count c.deref.result.now
    c.tokens-tokens.ensures.count c.column.ensures
    (says_of_table c.table.result.now list c.args.numbers.now count c.in_ok-sought.sought.items c.deref.result.now c.table.ensures c.deref.ensures.value c.in_ok-sought.ensures)
    (λ place m. base_low tables base count place b.1 (omega (arith, whole.within base place b.0 m, e)))

pub returns-clause-row : goal.returns-clause-row
returns-clause-row g c =
    let tables = c.args.segment.now in
    let attr = c.args.attr in
    let base = c.args.base in
    let list = (tables_at tables.attrs attr).numbers in
    let count = c.len-count.result in
    let whole = c.tables_are_whole.ensures tables c.tokens-tokens.ensures.valid in
    let b = whole.bases attr base c.requires.attr c.requires.mapped in
    let e : count ≡ length (tables_at tables.attrs base).lexicon = c.len-count.ensures.number ∙ ap length c.lexicon.ensures in
    on_ok_weaker c.fill.result
    (λ filled. at_mapped tables attr base c.args.numbers.now c.fill.new.row c.requires.mapped
    (sought_row c.tokens-tokens.result (token_count tables) c.column.result.now (tables_at tables.attrs base).numbers (λ (n : ℕ). In c.args.numbers.now (get_or list n 0)) count c.deref.result.now
    c.fill.new.row c.tokens-tokens.ensures.count c.column.ensures
    (says_of_table c.table.result.now list c.args.numbers.now count c.in_ok-sought.sought.items c.deref.result.now c.table.ensures c.deref.ensures.value c.in_ok-sought.ensures)
    (λ place m. base_low tables base count place b.1 (omega (arith, whole.within base place b.0 m, e))) filled))
    c.fill.ensures.row
