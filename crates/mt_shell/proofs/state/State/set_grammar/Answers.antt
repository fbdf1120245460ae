use Rattle.mt_shell.proofs.Ruling.{steps_by_file}
use Rattle.mt_shell.proofs.state.State.set_grammar.Goals as goal

pub returns-clause-means : goal.returns-clause-means
returns-clause-means g c =
    steps_by_file g.setting c.args.self.now.held c.take_grammar.new.self.held c.args.file.now c.fetch-fetched.result c.take_grammar.result (g.E.Edge.seen c.args.edge.now) (g.E.Edge.seen c.fetch-fetched.new.edge) _ _
    (rw c.as_str.ensures at c.fetch-fetched.ensures.finds) (rw c.as_str.ensures at c.fetch-fetched.ensures.gained) c.take_grammar.ensures.means
