use Rattle.std.proofs.Common.{◌≡◌, ℕ, Option, Some, sym, subst}
use Rattle.mt_segment_spec.specs.Tables.{number_at, token_count}
use Rattle.mt_tally.specs.Counts.{CountsBelow}
use Rattle.mt_totals.proofs.Values.{one_none, one_some}
use Rattle.mt_totals.proofs.counts.one_count.Goals as goal

pub returns-in-Some : goal.returns-in-Some
returns-in-Some c =
    let tables = c.args.segment.now in
    subst (λ (id : Option ℕ). CountsBelow (token_count tables) (λ place. id ≡ Some (number_at tables c.args.attr place)) c.listed_count.result) (sym c.in-Some.is)
    (one_some (token_count tables) (λ place. number_at tables c.args.attr place) c.in-Some.id c.listed_count.result c.listed_count.ensures)

pub returns-in-None : goal.returns-in-None
returns-in-None c =
    let tables = c.args.segment.now in
    subst (λ (id : Option ℕ). CountsBelow (token_count tables) (λ place. id ≡ Some (number_at tables c.args.attr place)) 0) (sym c.in-None.is) (one_none (token_count tables) (λ place. number_at tables c.args.attr place))
