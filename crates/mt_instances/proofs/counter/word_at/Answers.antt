use Rattle.std.proofs.Common.{ℕ, Some, ap, ◌∙◌}
use Rattle.mt_counts.specs.Tables.{text_at}
use Rattle.mt_instances.proofs.Tallying.{ready_worded, ready_word_set, here_is}
use Rattle.mt_instances.proofs.counter.word_at.Goals as goal

pub returns-in_err-there-clause-ready : goal.returns-in_err-there-clause-ready
returns-in_err-there-clause-ready c = ready_worded c.args.instances.now.names c.args.words.now.lexicon.now c.args.counter.now c.word.new.self c.word.ensures.words c.word.ensures.names c.requires.ready

pub returns-in_err-set-clause-ready : goal.returns-in_err-set-clause-ready
returns-in_err-set-clause-ready c =
    let old = c.args.counter.now in
    let lexicon = c.args.words.now.lexicon.now in
    let worded = ready_worded c.args.instances.now.names lexicon old c.word.new.self c.word.ensures.words c.word.ensures.names c.requires.ready in
    let at = here_is lexicon c.word.new.self.words c.number-number.result c.in_ok-there.there c.value.result.now c.in_ok-there.ensures.number c.value.ensures in
    ready_word_set c.args.instances.now.names lexicon (record { names = old.names; words = old.words; noted = c.word.new.self }) c.set.new.self c.number-number.result c.in_ok-there.there c.set.ensures.numbers at worded

pub returns-clause-ready : goal.returns-clause-ready
returns-clause-ready c =
    let old = c.args.counter.now in
    let lexicon = c.args.words.now.lexicon.now in
    let worded = ready_worded c.args.instances.now.names lexicon old c.word.new.self c.word.ensures.words c.word.ensures.names c.requires.ready in
    let at = here_is lexicon c.word.new.self.words c.number-number.result c.in_ok-there.there c.value.result.now c.in_ok-there.ensures.number c.value.ensures in
    ready_word_set c.args.instances.now.names lexicon (record { names = old.names; words = old.words; noted = c.word.new.self }) c.set.new.self c.number-number.result c.in_ok-there.there c.set.ensures.numbers at worded

pub returns-clause-word : goal.returns-clause-word
returns-clause-word c =
    let lexicon = c.args.words.now.lexicon.now in
    here_is lexicon c.word.new.self.words c.number-number.result c.in_ok-there.there c.value.result.now c.in_ok-there.ensures.number c.value.ensures ∙ ap (λ (n : ℕ). Some (text_at lexicon n)) c.number-number.ensures
