use Rattle.std.proofs.Common.{◌*◌, arith}
use Rattle.mt_automaton.proofs.Windows.{has_matches}
use Rattle.mt_automaton.proofs.window.Window.new.Goals as goal

pub returns-clause-matches : goal.returns-clause-matches
returns-clause-matches g c =
    let inside = c.tokens-inside.ensures in
    has_matches (g.V.View.seen c.args.view.now) (64 * c.args.first) c.args.tokens c.requires (omega (arith, c.requires, inside.is, inside.few)) inside.inside
