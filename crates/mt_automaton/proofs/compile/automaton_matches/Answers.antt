use Rattle.mt_automaton.proofs.Compiled.{part_matches}
use Rattle.mt_automaton.proofs.compile.automaton_matches.Goals as goal

pub returns : goal.returns
returns g c = λ expr of seen. part_matches (g.V.View.seen c.args.view.now) c.args.automaton.now.part expr (of.writes_out (g.V.View.seen c.args.view.now).test (g.V.View.seen c.args.view.now).tag seen)
