use Rattle.std.proofs.Common.{Some, length, ap, ◌∙◌}
use Rattle.mt_instances.proofs.Tallying.{ready_named, ready_name_set, here_is}
use Rattle.mt_instances.proofs.counter.name_of.Goals as goal

pub returns-in_err-there-clause-ready : goal.returns-in_err-there-clause-ready
returns-in_err-there-clause-ready c = ready_named c.args.instances.now.names c.args.words.now.lexicon.now c.args.counter.now c.name-2.new.self c.name-2.ensures.names c.name-2.ensures.words c.requires.ready

pub returns-in_err-set-clause-ready : goal.returns-in_err-set-clause-ready
returns-in_err-set-clause-ready c =
    let old = c.args.counter.now in
    let names = c.args.instances.now.names in
    let named = ready_named names c.args.words.now.lexicon.now old c.name-2.new.self c.name-2.ensures.names c.name-2.ensures.words c.requires.ready in
    let at = here_is names c.name-2.new.self.names c.args.number c.in_ok-there.there c.name.result.now (c.in_ok-there.ensures.number ∙ ap Some c.as_str.ensures) c.name.ensures in
    ready_name_set names c.args.words.now.lexicon.now (record { names = old.names; words = old.words; noted = c.name-2.new.self }) c.set.new.self c.args.number c.in_ok-there.there c.set.ensures.numbers (c.set.ensures.within (length names) c.requires.ready.names_within c.requires.number) at named

pub returns-clause-ready : goal.returns-clause-ready
returns-clause-ready c =
    let old = c.args.counter.now in
    let names = c.args.instances.now.names in
    let named = ready_named names c.args.words.now.lexicon.now old c.name-2.new.self c.name-2.ensures.names c.name-2.ensures.words c.requires.ready in
    let at = here_is names c.name-2.new.self.names c.args.number c.in_ok-there.there c.name.result.now (c.in_ok-there.ensures.number ∙ ap Some c.as_str.ensures) c.name.ensures in
    ready_name_set names c.args.words.now.lexicon.now (record { names = old.names; words = old.words; noted = c.name-2.new.self }) c.set.new.self c.args.number c.in_ok-there.there c.set.ensures.numbers (c.set.ensures.within (length names) c.requires.ready.names_within c.requires.number) at named

pub returns-clause-name : goal.returns-clause-name
returns-clause-name c = here_is c.args.instances.now.names c.name-2.new.self.names c.args.number c.in_ok-there.there c.name.result.now (c.in_ok-there.ensures.number ∙ ap Some c.as_str.ensures) c.name.ensures
