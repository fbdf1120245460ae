use denote.Param.Send.{param_send, given_send}
use Rattle.mt_script_spec.specs.Commands.{Registry, Text, Add, Generate, Asks, Grammar, Rules, Segments, Remove, Quit}
use Rattle.mt_script.specs.Seen.{ask_of, command_of}
use Rattle.mt_shell.specs.Outsides.{beside}
use Rattle.mt_shell.proofs.Meanings.{steps_alone, steps_beside}
use Rattle.mt_shell.proofs.Keeping.{said_names}
use Rattle.mt_shell.proofs.Unbuilt.{unbuilt_command, quits}
use Rattle.mt_shell.proofs.session.Session.perform.Goals as goal

pub returns-in-Registry-clause-means : goal.returns-in-Registry-clause-means
returns-in-Registry-clause-means g c = rw c.in-Registry.is (c.set_registry.ensures.means (g.P.PatternShop.refused c.args.shop.now))

pub add_text-requires : goal.add_text-requires
add_text-requires g c = λ κs h. (h.0, (h.1.0, (h.1.1.0, (h.1.1.1, (param_send 2 _ (given_send 1 _ g.row.M c.requires.1.1.1.1.1.0), (c.requires.1.1.1.1.1.1.0, (said_names (Text c.in-Text.name c.in-Text.body) (rw c.in-Text.is at c.requires.1.1.1.1.1.1.1.0), c.requires.1.1.1.1.1.1.1.1)))))))

pub add_file-requires : goal.add_file-requires
add_file-requires g c = λ κs h. (h.0, (h.1.0, (h.1.1.0, (h.1.1.1.0, (h.1.1.1.1, (param_send 2 _ (given_send 1 _ g.row.M c.requires.1.1.1.1.1.0), (c.requires.1.1.1.1.1.1.0, (said_names (Add c.in-Add.name c.in-Add.file) (rw c.in-Add.is at c.requires.1.1.1.1.1.1.1.0), c.requires.1.1.1.1.1.1.1.1))))))))

pub generate-requires : goal.generate-requires
generate-requires g c = λ κs h. (
  h.0,
  (h.1.0, (h.1.1.0, (h.1.1.1, (param_send 2 _ (given_send 1 _ g.row.M c.requires.1.1.1.1.1.0), (c.requires.1.1.1.1.1.1.0, (said_names (Generate c.in-Generate.name c.in-Generate.seed c.in-Generate.tokens) (rw c.in-Generate.is at c.requires.1.1.1.1.1.1.1.0), c.requires.1.1.1.1.1.1.1.1)))))),
)

pub returns-in-Text-clause-means : goal.returns-in-Text-clause-means
returns-in-Text-clause-means g c =
    rw (c.in-Text.is, c.add_text.ensures.shop) (steps_alone g.setting c.args.self.now.state.held c.add_text.new.self.held (Text c.in-Text.name c.in-Text.body) c.add_text.result (beside (g.E.Edge.seen c.args.edge.now) (g.P.PatternShop.refused c.args.shop.now))
    (rw c.as_slice.ensures at c.add_text.ensures.means))

pub returns-in-Add-clause-means : goal.returns-in-Add-clause-means
returns-in-Add-clause-means g c = rw (c.in-Add.is, c.add_file.ensures.shop) (c.add_file.ensures.means (g.P.PatternShop.refused c.args.shop.now))

pub returns-in-Generate-clause-means : goal.returns-in-Generate-clause-means
returns-in-Generate-clause-means g c =
    rw (c.in-Generate.is, c.generate.ensures.shop) (steps_alone g.setting c.args.self.now.state.held c.generate.new.self.held (Generate c.in-Generate.name c.in-Generate.seed c.in-Generate.tokens) c.generate.result
    (beside (g.E.Edge.seen c.args.edge.now) (g.P.PatternShop.refused c.args.shop.now)) c.generate.ensures.means)

pub returns-in-Ask-clause-means : goal.returns-in-Ask-clause-means
returns-in-Ask-clause-means g c = rw c.in-Ask.is (steps_beside g.setting c.args.self.now.state.held c.answer.new.self.held (Asks (ask_of c.in-Ask.ask)) c.answer.result (g.E.Edge.seen c.args.edge.now) _ _ c.answer.ensures.means)

pub returns-in-Grammar-clause-means : goal.returns-in-Grammar-clause-means
returns-in-Grammar-clause-means g c = rw c.in-Grammar.is c.set_grammar.ensures.means

pub returns-in-Rules-clause-means : goal.returns-in-Rules-clause-means
returns-in-Rules-clause-means g c =
    rw c.in-Rules.is (steps_beside g.setting c.args.self.now.state.held c.set_rules.new.self.held (Rules c.in-Rules.body) c.set_rules.result (g.E.Edge.seen c.args.edge.now) _ _ (rw c.as_slice-in-Rules.ensures at c.set_rules.ensures.means))

pub returns-in-Segments-clause-means : goal.returns-in-Segments-clause-means
returns-in-Segments-clause-means g c =
    rw c.in-Segments.is (steps_alone g.setting c.args.self.now.state.held c.args.self.now.state.held Segments c.segments.result (beside (g.E.Edge.seen c.args.edge.now) (g.P.PatternShop.refused c.args.shop.now)) c.segments.ensures)

pub returns-in-Remove-clause-means : goal.returns-in-Remove-clause-means
returns-in-Remove-clause-means g c =
    rw (c.in-Remove.is, c.remove.ensures.shop) (steps_alone g.setting c.args.self.now.state.held c.remove.new.self.held (Remove c.in-Remove.name) c.remove.result (beside (g.E.Edge.seen c.args.edge.now) (g.P.PatternShop.refused c.args.shop.now)) c.remove.ensures.means)

pub returns-in-Quit-clause-means : goal.returns-in-Quit-clause-means
returns-in-Quit-clause-means g c =
    rw c.in-Quit.is (steps_alone g.setting c.args.self.now.state.held c.args.self.now.state.held Quit c.quit.result (beside (g.E.Edge.seen c.args.edge.now) (g.P.PatternShop.refused c.args.shop.now))
    (quits g.setting c.args.self.now.state.held c.quit.result c.quit.ensures))

pub returns-in_default-clause-means : goal.returns-in_default-clause-means
returns-in_default-clause-means g c =
    steps_alone g.setting c.args.self.now.state.held c.args.self.now.state.held (command_of c.args.command.now) c.refused.result (beside (g.E.Edge.seen c.args.edge.now) (g.P.PatternShop.refused c.args.shop.now))
    (unbuilt_command g.setting c.args.self.now.state.held c.args.command.now c.refused.result c.in_default.not-Registry c.in_default.not-Text c.in_default.not-Add c.in_default.not-Generate c.in_default.not-Ask c.in_default.not-Grammar c.in_default.not-Rules c.in_default.not-Segments c.in_default.not-Remove c.in_default.not-Quit c.refused.ensures)
