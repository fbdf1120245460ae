use Rattle.std.proofs.Common.{refl, ap}
use Rattle.std.proofs.lemmas.Result.{on_err_weaker}
use Rattle.mt_script_spec.specs.Script.{Given}
use Rattle.mt_script.specs.Seen.{command_of}
use Rattle.mt_session_spec.specs.Runs.{Outside}
use Rattle.mt_shell.specs.Outsides.{beside}
use Rattle.mt_shell.specs.Reads.{reply_bytes}
use Rattle.mt_shell.proofs.Talks.{passes, whole_reply, front_reply}
use Rattle.mt_shell.proofs.talk.answer_command.Goals as goal

pub returns-clause-ok : goal.returns-clause-ok
returns-clause-ok g c =
    let refused = g.P.PatternShop.refused in
    let start = beside (g.E.Edge.seen c.args.edge.now) (refused c.args.shop.now) in
    passes c.write_reply.result c.flow_behind-flow.result (Given (command_of c.args.command)) c.write_reply.ensures.ok c.flow_behind-flow.ensures
    (λ told written h. whole_reply c.args.session.now.state.held c.step-reply.new.self.state.held (command_of c.args.command) c.step-reply.result (reply_bytes c.step-reply.result) start (beside (g.E.Edge.seen c.step-reply.new.edge) (refused c.step-reply.new.shop)) (beside (g.E.Edge.seen c.write_reply.new.edge) (refused c.step-reply.new.shop)) written
    c.step-reply.ensures.means refl (ap (λ (o : Outside). beside o (refused c.step-reply.new.shop)) c.write_reply.ensures.only) h told)

pub returns-clause-part : goal.returns-clause-part
returns-clause-part g c =
    let refused = g.P.PatternShop.refused in
    let start = beside (g.E.Edge.seen c.args.edge.now) (refused c.args.shop.now) in
    on_err_weaker c.write_reply.result
    (λ told written h. front_reply c.args.session.now.state.held c.step-reply.new.self.state.held (command_of c.args.command) c.step-reply.result (reply_bytes c.step-reply.result) start (beside (g.E.Edge.seen c.step-reply.new.edge) (refused c.step-reply.new.shop)) (beside (g.E.Edge.seen c.write_reply.new.edge) (refused c.step-reply.new.shop)) written
    c.step-reply.ensures.means refl (ap (λ (o : Outside). beside o (refused c.step-reply.new.shop)) c.write_reply.ensures.only) h told)
    c.write_reply.ensures.part
