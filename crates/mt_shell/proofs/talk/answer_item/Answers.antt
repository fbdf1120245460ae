use Rattle.std.proofs.Common.{refl, ap, rules}
use Rattle.std.proofs.lemmas.Result.{on_err_weaker, IfOk-weaker}
use Rattle.mt_outside.specs.Told.{Told}
use Rattle.mt_script_spec.specs.Script.{Given, Bad, CutShort}
use Rattle.mt_session_spec.specs.Answers.{Refused}
use Rattle.mt_session_spec.specs.Runs.{Outside}
use Rattle.mt_shell.specs.Outsides.{beside}
use Rattle.mt_session_spec.specs.Refusals.{refusal_line, BadCommand, CutShort as CutShortRefusal}
use Rattle.mt_script.specs.Seen.{command_of}
use Rattle.mt_shell.specs.Reads.{Replied, item_of}
use Rattle.mt_shell.specs.declared.talk.Flow.TheVariants.{On}
use Rattle.mt_shell.proofs.Talks.{passes_item, plain_reply, plain_front}
use Rattle.mt_shell.proofs.talk.answer_item.Goals as goal

pub returns-in-Command-clause-ok : goal.returns-in-Command-clause-ok
returns-in-Command-clause-ok g c = IfOk-weaker c.answer_command.result _ _ (λ flow t. (Given (command_of c.in-Command.command), ap item_of c.in-Command.is, t.0, t.1)) c.answer_command.ensures.ok

pub returns-in-Bad-clause-ok : goal.returns-in-Bad-clause-ok
returns-in-Bad-clause-ok g c =
    passes_item c.write_then.result On Bad (item_of c.args.next)
    (λ item. Told (g.E.Edge.seen c.args.edge.now).written (λ written. Replied g.setting c.args.session.now.state.held item c.args.session.now.state.held (beside (g.E.Edge.seen c.args.edge.now) (g.P.PatternShop.refused c.args.shop.now)) written (beside (g.E.Edge.seen c.write_then.new.edge) (g.P.PatternShop.refused c.args.shop.now))))
    c.write_then.ensures.ok (λ e. cc) (ap item_of c.in-Bad.is)
    (λ told written h. plain_reply c.args.session.now.state.held Bad (Refused (refusal_line BadCommand)) c.as_bytes.result.now (beside (g.E.Edge.seen c.args.edge.now) (g.P.PatternShop.refused c.args.shop.now)) (beside (g.E.Edge.seen c.write_then.new.edge) (g.P.PatternShop.refused c.args.shop.now)) written
    (λ world. record { none = refl; same = refl; says = refl }) c.as_bytes.ensures.value (ap (λ (o : Outside). beside o (g.P.PatternShop.refused c.args.shop.now)) c.write_then.ensures.only) h told)

pub returns-in-Bad-clause-part : goal.returns-in-Bad-clause-part
returns-in-Bad-clause-part g c =
    on_err_weaker c.write_then.result
    (λ told written h. rw c.in-Bad.is (plain_front c.args.session.now.state.held Bad (Refused (refusal_line BadCommand)) c.as_bytes.result.now (beside (g.E.Edge.seen c.args.edge.now) (g.P.PatternShop.refused c.args.shop.now)) (beside (g.E.Edge.seen c.write_then.new.edge) (g.P.PatternShop.refused c.args.shop.now)) written
    (λ world. record { none = refl; same = refl; says = refl }) c.as_bytes.ensures.value (ap (λ (o : Outside). beside o (g.P.PatternShop.refused c.args.shop.now)) c.write_then.ensures.only) h told))
    c.write_then.ensures.part

pub returns-in-CutShort-clause-ok : goal.returns-in-CutShort-clause-ok
returns-in-CutShort-clause-ok g c =
    passes_item c.write_then-in-CutShort.result On CutShort (item_of c.args.next)
    (λ item. Told (g.E.Edge.seen c.args.edge.now).written (λ written. Replied g.setting c.args.session.now.state.held item c.args.session.now.state.held (beside (g.E.Edge.seen c.args.edge.now) (g.P.PatternShop.refused c.args.shop.now)) written (beside (g.E.Edge.seen c.write_then-in-CutShort.new.edge) (g.P.PatternShop.refused c.args.shop.now))))
    c.write_then-in-CutShort.ensures.ok (λ e. cc) (ap item_of c.in-CutShort.is)
    (λ told written h. plain_reply c.args.session.now.state.held CutShort (Refused (refusal_line CutShortRefusal)) c.as_bytes-in-CutShort.result.now (beside (g.E.Edge.seen c.args.edge.now) (g.P.PatternShop.refused c.args.shop.now)) (beside (g.E.Edge.seen c.write_then-in-CutShort.new.edge) (g.P.PatternShop.refused c.args.shop.now)) written
    (λ world. record { none = refl; same = refl; says = refl }) c.as_bytes-in-CutShort.ensures.value (ap (λ (o : Outside). beside o (g.P.PatternShop.refused c.args.shop.now)) c.write_then-in-CutShort.ensures.only) h told)

pub returns-in-CutShort-clause-part : goal.returns-in-CutShort-clause-part
returns-in-CutShort-clause-part g c =
    on_err_weaker c.write_then-in-CutShort.result
    (λ told written h. rw c.in-CutShort.is (plain_front c.args.session.now.state.held CutShort (Refused (refusal_line CutShortRefusal)) c.as_bytes-in-CutShort.result.now (beside (g.E.Edge.seen c.args.edge.now) (g.P.PatternShop.refused c.args.shop.now)) (beside (g.E.Edge.seen c.write_then-in-CutShort.new.edge) (g.P.PatternShop.refused c.args.shop.now)) written
    (λ world. record { none = refl; same = refl; says = refl }) c.as_bytes-in-CutShort.ensures.value (ap (λ (o : Outside). beside o (g.P.PatternShop.refused c.args.shop.now)) c.write_then-in-CutShort.ensures.only) h told))
    c.write_then-in-CutShort.ensures.part

pub answer_command-requires : goal.answer_command-requires
answer_command-requires g c = λ κs h. (h.0, (h.1.0, (h.1.1.0, (h.1.1.1.0, (h.1.1.1.1, (c.requires.1.1.1.1.1.0, (c.requires.1.1.1.1.1.1.0, search rules)))))))
