use Rattle.std.proofs.Common.{◌≡◌, true, slice_get, Some, sym, subst}
use Rattle.mt_segment_spec.specs.Tables.{number_at, token_count}
use Rattle.mt_prepare.specs.TestRows.{SaysAt}
use Rattle.mt_prepare.specs.declared.resolved.Resolved.{Resolved}
use Rattle.mt_tally.specs.Counts.{CountsBelow}
use Rattle.mt_tally.proofs.Marked.{all_of, within}
use Rattle.mt_totals.proofs.Values.{unless_of}
use Rattle.mt_totals.proofs.counts.+test_count.Goals as goal

pub unless-requires : goal.unless-requires
unless-requires g n c = within (token_count c.args.segment.now) (λ place. c.in-One.id ≡ Some (number_at c.args.segment.now c.in-One.attr place)) c.one_count-count.result c.one_count-count.ensures

pub unless-requires-in-Some : goal.unless-requires-in-Some
unless-requires-in-Some g n c =
    within (token_count c.args.segment.now) (λ place. slice_get c.in-Some.ids (number_at c.args.segment.now c.in-Some.attr place) ≡ Some true) c.some_count-count.result c.some_count-count.ensures

pub unless-requires-in-Not : goal.unless-requires-in-Not
unless-requires-in-Not g n c = within (token_count c.args.segment.now) (SaysAt c.args.segment.now c.deref.result.now) c.in_ok-count-in-Not.count c.in_ok-count-in-Not.ensures.count

pub returns-in-Any-clause-count : goal.returns-in-Any-clause-count
returns-in-Any-clause-count g n c =
    let tables = c.args.segment.now in
    subst (CountsBelow (token_count tables) (SaysAt tables c.args.test.now)) (sym c.tokens.ensures.count)
    (subst (λ (test : Resolved). CountsBelow (token_count tables) (SaysAt tables test) (token_count tables)) (sym c.in-Any.is) (all_of (token_count tables)))

pub returns-in-One-clause-count : goal.returns-in-One-clause-count
returns-in-One-clause-count g n c =
    let tables = c.args.segment.now in
    subst (λ (test : Resolved). CountsBelow (token_count tables) (SaysAt tables test) c.unless.result) (sym c.in-One.is)
    (unless_of (token_count tables) (λ place. c.in-One.id ≡ Some (number_at tables c.in-One.attr place)) c.in-One.not c.one_count-count.result c.unless.result c.unless.ensures c.one_count-count.ensures)

pub returns-in-Some-clause-count : goal.returns-in-Some-clause-count
returns-in-Some-clause-count g n c =
    let tables = c.args.segment.now in
    subst (λ (test : Resolved). CountsBelow (token_count tables) (SaysAt tables test) c.unless-in-Some.result) (sym c.in-Some.is)
    (unless_of (token_count tables) (λ place. slice_get c.in-Some.ids (number_at tables c.in-Some.attr place) ≡ Some true) c.in-Some.not c.some_count-count.result c.unless-in-Some.result c.unless-in-Some.ensures c.some_count-count.ensures)

pub returns-in_ok-count-in-Not-clause-count : goal.returns-in_ok-count-in-Not-clause-count
returns-in_ok-count-in-Not-clause-count g n c =
    let tables = c.args.segment.now in
    subst (λ (test : Resolved). CountsBelow (token_count tables) (SaysAt tables test) c.unless-in-Not.result) (sym c.in-Not.is)
    (unless_of (token_count tables) (SaysAt tables c.in-Not.inner.value) true c.in_ok-count-in-Not.count c.unless-in-Not.result c.unless-in-Not.ensures
    (subst (λ (test : Resolved). CountsBelow (token_count tables) (SaysAt tables test) c.in_ok-count-in-Not.count) c.deref.ensures c.in_ok-count-in-Not.ensures.count))
