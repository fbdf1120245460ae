use Rattle.std.proofs.Common.{rules}
use Rattle.std.proofs.Common.{refl}
use Rattle.mt_script_spec.specs.Commands.{Registry}
use Rattle.mt_shell.specs.Outsides.{beside}
use Rattle.mt_shell.proofs.Registering.{late}
use Rattle.mt_shell.proofs.Meanings.{steps_alone, steps_after}
use Rattle.mt_shell.proofs.state.State.set_registry.Goals as goal

pub returns-then-is_late-clause-means : goal.returns-then-is_late-clause-means
returns-then-is_late-clause-means g c = λ refused. steps_alone g.setting c.args.self.now.held c.args.self.now.held (Registry c.args.file.now) c.refused.result (beside (g.E.Edge.seen c.args.edge.now) refused)
    (late g.setting c.args.self.now.held c.args.file.now c.refused.result (c.if-is_late.ensures.0 refl) c.refused.ensures)

pub returns-clause-means : goal.returns-clause-means
returns-clause-means g c =
    steps_after g.setting c.args.self.now.held c.take_registry.new.self.held (Registry c.args.file.now) c.take_registry.result c.args.file.now c.fetch-fetched.result (g.E.Edge.seen c.args.edge.now) (g.E.Edge.seen c.fetch-fetched.new.edge)
    (rw c.as_str.ensures at c.fetch-fetched.ensures.finds) (rw c.as_str.ensures at c.fetch-fetched.ensures.gained) c.take_registry.ensures.means

pub take_registry-requires-send-M : goal.take_registry-requires-send-M
take_registry-requires-send-M g c = λ κs h. (h.0, (h.1.0, (h.1.1, (c.requires.1.1.1.1.0, search rules))))
