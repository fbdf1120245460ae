use Rattle.std.proofs.Common.{◌≡◌, true, arith}
use Rattle.std.proofs.lemmas.Option.{slice_get_within}
use Rattle.mt_segment_spec.specs.Tables.{number_at, token_count}
use Rattle.mt_tally.proofs.Marked.{within}
use Rattle.mt_totals.proofs.Values.{IsMarkedBelow, next_value, none_yet, no_next}
use Rattle.mt_totals.proofs.counts.some_count.Goals as goal

pub loop-id-init : goal.loop-id-init
loop-id-init c = none_yet (token_count c.args.segment.now) (λ place. number_at c.args.segment.now c.args.attr place) c.args.ids.now

pub overflow_add-count : goal.overflow_add-count
overflow_add-count c =
    let tables = c.args.segment.now in
    let few = within (token_count tables) (IsMarkedBelow (token_count tables) (λ place. number_at tables c.args.attr place) c.args.ids.now c.loop-id.next) c.loop-id.count c.loop-id.invariant in
    let more = within (token_count tables) (λ place. number_at tables c.args.attr place ≡ c.in-Some.id) c.listed_count-count.result c.listed_count-count.ensures in
    omega (arith, few, more, c.tokens-tokens.ensures.count, c.tokens-tokens.type_inv)

pub overflow_add-next : goal.overflow_add-next
overflow_add-next c = let low = slice_get_within c.args.ids.now c.in-Some.id true c.in-Some.ensures.found.marked in omega (arith, low, c.count-most.ensures, c.count-most.type_inv)

pub loop-id-smaller : goal.loop-id-smaller
loop-id-smaller c = let low = slice_get_within c.args.ids.now c.in-Some.id true c.in-Some.ensures.found.marked in omega (arith, low, c.count-most.ensures, c.in-Some.ensures.found.later)

pub loop-id-preserved : goal.loop-id-preserved
loop-id-preserved c =
    let tables = c.args.segment.now in
    next_value (token_count tables) (λ place. number_at tables c.args.attr place) c.args.ids.now c.loop-id.next c.in-Some.id c.loop-id.count c.listed_count-count.result c.in-Some.ensures.found c.loop-id.invariant c.listed_count-count.ensures

pub returns : goal.returns
returns c =
    let tables = c.args.segment.now in
    no_next (token_count tables) (λ place. number_at tables c.args.attr place) c.args.ids.now c.loop-id.next c.loop-id.count (c.in_default.ensures {u = tt}).none c.loop-id.invariant
