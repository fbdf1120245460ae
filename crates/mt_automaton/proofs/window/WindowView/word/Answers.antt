use Rattle.std.proofs.Common.{◌+◌, ◌*◌, ◌<◌, ◌≤◌, ℕ, subst, rules}
use Rattle.mt_places.specs.Places.{WordIs}
use Rattle.mt_automaton.proofs.Windows.{window_word}
use Rattle.mt_automaton.proofs.window.WindowView.word.Goals as goal

pub returns : goal.returns
returns g c =
    let w = c.args.self.now in
    let v = g.V.View.seen w.view.now in
    let within : 64 * w.first + w.tokens ≤ v.text.tokens = search rules in
    window_word v w.first w.tokens c.args.mark c.args.at c.word.result c.word-2.result within c.word.ensures
    (subst (λ n. WordIs (λ (k : ℕ). k < n) c.args.at c.word-2.result) c.places_of-end.ensures c.word-2.ensures)
