use Rattle.std.proofs.Common.{None, Some}
use Rattle.mt_session_spec.specs.Settings.{images_of}
use Rattle.mt_script.specs.Seen.{ask_of}
use Rattle.mt_shell.specs.Holding.{grammar_of}
use Rattle.mt_shell.proofs.Holding.{over_of, seen_as, some_counted, some_images, taken_for}
use Rattle.mt_shell.proofs.Asking.{asks}
use Rattle.mt_shell.proofs.state.State.answer_prepared.Goals as goal

pub answer-requires-clause-images : goal.answer-requires-clause-images
answer-requires-clause-images g c = λ κs h. some_images g.setting c.args.self.now c.self.inside.accepted (grammar_of c.self.inside.rules) c.self.inside.corpus c.self.view_is c.requires.1.1.1.1

pub answer-requires-clause-counted : goal.answer-requires-clause-counted
answer-requires-clause-counted g c = λ κs h. rw c.counts.ensures
    (some_counted (images_of g.setting) c.self.inside.corpus c.in-Some.rules (over_of c.self.inside.accepted c.self.inside.rules c.in-Some.rules c.self.inside.corpus c.in-Some.is c.self.invariant)
    (taken_for g.setting c.args.self.now c.self.inside.accepted (grammar_of c.self.inside.rules) c.self.inside.corpus c.self.view_is c.requires.1.1.1.1))

pub answer-requires-in-None-clause-images : goal.answer-requires-in-None-clause-images
answer-requires-in-None-clause-images g c = λ κs h. some_images g.setting c.args.self.now c.self.inside.accepted (grammar_of c.self.inside.rules) c.self.inside.corpus c.self.view_is c.requires.1.1.1.1

pub returns-in-Some : goal.returns-in-Some
returns-in-Some g c =
    let over = over_of c.self.inside.accepted c.self.inside.rules c.in-Some.rules c.self.inside.corpus c.in-Some.is c.self.invariant in
    asks g.setting c.args.self.now (ask_of c.args.ask.now) c.answer.result c.self.inside.accepted (Some c.in-Some.rules.grammar) c.self.inside.corpus (Some c.counts.result.now) _ _
    (seen_as c.args.self.now c.self.inside.accepted c.self.inside.rules (Some c.in-Some.rules) c.self.inside.corpus c.in-Some.is c.self.view_is) c.requires.1.1.1.1
    (λ agree. rw c.counts.ensures (over.counts (images_of g.setting) agree)) c.answer.ensures

pub returns-in-None : goal.returns-in-None
returns-in-None g c =
    asks g.setting c.args.self.now (ask_of c.args.ask.now) c.answer-in-None.result c.self.inside.accepted None c.self.inside.corpus None _ _
    (seen_as c.args.self.now c.self.inside.accepted c.self.inside.rules None c.self.inside.corpus c.in-None.is c.self.view_is) c.requires.1.1.1.1 (λ agree. tt) c.answer-in-None.ensures
