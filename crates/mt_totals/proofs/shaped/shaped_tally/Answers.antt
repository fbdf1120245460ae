use Rattle.std.proofs.Common.{sym, subst}
use Rattle.mt_text_spec.specs.Queries.{Expr}
use Rattle.mt_prepare.specs.Asks.{HasAttr, HasKind, Names}
use Rattle.mt_eval.proofs.Names.{of_expr}
use Rattle.mt_totals.proofs.shaped.shaped_tally.Goals as goal

pub new-requires-clause-names : goal.new-requires-clause-names
new-requires-clause-names g c =
    let T = c.args.segment.now in
    let Q = c.args.query.now in
    subst (λ (e : Expr). Names (HasAttr T) (HasKind T) e) (sym c.head-expr.ensures) (of_expr c.requires.query.registry T c.requires.query.under Q.head c.requires.query.fits.head)
