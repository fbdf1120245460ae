use Rattle.std.proofs.Common.{◌≡◌, length, sym, ◌∙◌, ap, subst, arith}
use Rattle.std.proofs.lemmas.Result.{on_ok_weaker}
use Rattle.mt_places.specs.Places.{In}
use Rattle.mt_segment_spec.specs.Tables.{tables_at, token_count}
use Rattle.mt_prepare.specs.TestRows.{AreSought}
use Rattle.mt_prepare.proofs.Rows.{at_base, base_low, sought_row, all_said_of}
use Rattle.mt_prepare.proofs.test_rows.pass_base.Goals as goal

pub fill-requires-clause-tokens : goal.fill-requires-clause-tokens
fill-requires-clause-tokens g c =
    c.tokens-tokens.ensures.count ∙ sym ((c.tables_are_whole.ensures c.args.segment.now c.tokens-tokens.ensures.valid).columns c.args.attr c.requires.attr c.requires.base) ∙ ap length (sym c.column.ensures)

pub fill-requires-clause-within : goal.fill-requires-clause-within
fill-requires-clause-within g c =
    let tables = c.args.segment.now in
    let attr = c.args.attr in
    let count = c.len-count.result in
    let whole = c.tables_are_whole.ensures tables c.tokens-tokens.ensures.valid in
    let e : count ≡ length (tables_at tables.attrs attr).lexicon = c.len-count.ensures.number ∙ ap length c.lexicon.ensures in
    let says : AreSought (In c.args.numbers.now) count c.deref.result.now = subst (AreSought (In c.args.numbers.now) count) (sym c.deref.ensures.value) c.in_ok-sought.ensures in
    all_said_of c.tokens-tokens.result (token_count tables) c.column.result.now (tables_at tables.attrs attr).numbers (In c.args.numbers.now) count c.deref.result.now c.tokens-tokens.ensures.count c.column.ensures says
    (λ place m. base_low tables attr count place c.requires.base (omega (arith, whole.within attr place c.requires.attr m, e)))

pub returns-clause-row : goal.returns-clause-row
returns-clause-row g c =
    let tables = c.args.segment.now in
    let attr = c.args.attr in
    let count = c.len-count.result in
    let whole = c.tables_are_whole.ensures tables c.tokens-tokens.ensures.valid in
    let e : count ≡ length (tables_at tables.attrs attr).lexicon = c.len-count.ensures.number ∙ ap length c.lexicon.ensures in
    let says : AreSought (In c.args.numbers.now) count c.deref.result.now = subst (AreSought (In c.args.numbers.now) count) (sym c.deref.ensures.value) c.in_ok-sought.ensures in
    on_ok_weaker c.fill.result
    (λ filled. at_base tables attr c.args.numbers.now c.fill.new.row c.requires.base
    (sought_row c.tokens-tokens.result (token_count tables) c.column.result.now (tables_at tables.attrs attr).numbers (In c.args.numbers.now) count c.deref.result.now c.fill.new.row c.tokens-tokens.ensures.count
    c.column.ensures says (λ place m. base_low tables attr count place c.requires.base (omega (arith, whole.within attr place c.requires.attr m, e))) filled))
    c.fill.ensures.row
