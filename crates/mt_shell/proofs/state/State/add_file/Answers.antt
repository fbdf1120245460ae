use Rattle.std.proofs.Common.{rules}
use Rattle.std.proofs.Common.{refl}
use Rattle.mt_script_spec.specs.Commands.{Add}
use Rattle.mt_shell.specs.Outsides.{beside}
use Rattle.mt_shell.proofs.Adding.{add_taken}
use Rattle.mt_shell.proofs.Meanings.{steps_alone, steps_after}
use Rattle.mt_shell.proofs.state.State.add_file.Goals as goal

pub returns-then-holds-clause-means : goal.returns-then-holds-clause-means
returns-then-holds-clause-means g c = λ refused. steps_alone g.setting c.args.self.now.held c.args.self.now.held (Add c.args.name.now c.args.file.now) c.refused.result (beside (g.E.Edge.seen c.args.edge.now) refused)
    (add_taken g.setting c.args.self.now.held c.args.name.now c.args.file.now c.refused.result (c.if-holds.ensures.0 refl) (rw c.as_str.ensures at c.refused.ensures))

pub returns-clause-means : goal.returns-clause-means
returns-clause-means g c =
    steps_after g.setting c.args.self.now.held c.take_file.new.self.held (Add c.args.name.now c.args.file.now) c.take_file.result c.args.file.now c.fetch-fetched.result (g.E.Edge.seen c.args.edge.now) (g.E.Edge.seen c.fetch-fetched.new.edge)
    (rw c.as_str-2.ensures at c.fetch-fetched.ensures.finds) (rw c.as_str-2.ensures at c.fetch-fetched.ensures.gained) c.take_file.ensures.means

pub take_file-requires : goal.take_file-requires
take_file-requires g c = λ κs h. (h.0, (h.1.0, (h.1.1.0, (h.1.1.1, (c.requires.1.1.1.1.1.0, (c.requires.1.1.1.1.1.1.0, search rules))))))
