use Rattle.std.proofs.Common.{ℕ, ◌<◌, ◌≤◌, List, length, sym, subst, ap, arith}
use Rattle.std.specs.List.{All}
use Rattle.mt_places.specs.Places.{In, room}
use Rattle.mt_segment_spec.specs.Tables.{token_count}
use Rattle.mt_prepare.proofs.Listed.{list_fits, all_listed}
use Rattle.mt_prepare.proofs.test_rows.add_lists.Goals as goal

pub add_list-requires : goal.add_list-requires
add_list-requires g c =
    let tables = c.args.segment.now in
    let number = c.in-Some.number in
    let low = c.requires.numbers number c.in-Some.ensures.found.is_in in
    let fits : token_count tables ≤ room c.loop-number.row = omega (arith, c.loop-number.invariant.width, c.requires.width) in
    subst (λ (list : List ℕ). All (λ place. place < room c.loop-number.row) list) (sym c.postings.ensures)
    (list_fits c.numbers_stand_for_values.ensures tables c.tokens-tokens.ensures.valid c.args.attr c.requires.attr number low (room c.loop-number.row) fits)

pub overflow_add-next : goal.overflow_add-next
overflow_add-next g c = omega (arith, c.requires.numbers c.in-Some.number c.in-Some.ensures.found.is_in, c.len-count.ensures.number, ap length c.lexicon.ensures)

pub loop-number-smaller : goal.loop-number-smaller
loop-number-smaller g c = omega (arith, c.requires.numbers c.in-Some.number c.in-Some.ensures.found.is_in, c.len-count.ensures.number, ap length c.lexicon.ensures, c.in-Some.ensures.found.from)

pub returns-clause-row : goal.returns-clause-row
returns-clause-row g c =
    let tables = c.args.segment.now in
    let attr = c.args.attr in
    let known = c.tokens-tokens.ensures.valid in
    let none : (n : ℕ) → c.loop-number.next ≤ n → ¬ In c.args.numbers.now n = (c.in_default.ensures {u = tt}).none in
    all_listed c.numbers_stand_for_values.ensures tables known attr c.requires.attr c.args.numbers.now c.loop-number.row c.loop-number.next c.requires.numbers
    (λ place m. (c.tables_are_whole.ensures tables known).within attr place c.requires.attr m) none (omega (arith, c.loop-number.invariant.width, c.requires.width)) c.loop-number.invariant.places
