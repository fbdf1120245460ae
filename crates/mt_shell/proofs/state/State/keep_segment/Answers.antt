use Rattle.std.proofs.Common.{Some, refl, ap, ◌∙◌}
use Rattle.mt_session_spec.specs.World.{with_text}
use Rattle.mt_shell.specs.Serves.{Kept}
use Rattle.mt_shell.specs.Holding.{grammar_of}
use Rattle.mt_shell.proofs.Holding.{ok_as, either_way, seen_as, sound_as, over_none, may_here, some_here, images_here, have_images, serves_here, serves_same, sound_same, text_held, sound_more, serves_alone, rich_of, poor_of}
use Rattle.mt_shell.proofs.state.State.keep_segment.Goals as goal

pub keep-requires-clause-images : goal.keep-requires-clause-images
keep-requires-clause-images g c = λ lifetimes outlive.
    have_images c.args.self.now c.self.inside.accepted (grammar_of c.self.inside.rules) c.self.inside.corpus c.self.view_is g.setting c.args.segment c.requires.1.1.1.1.1.0 c.requires.1.1.1.1.1.1

pub invariant_of-self : goal.invariant_of-self
invariant_of-self g c =
    let v = seen_as c.args.self.now c.self.inside.accepted c.self.inside.rules (Some c.in-Some.rules) c.self.inside.corpus c.in-Some.is c.self.view_is in
    let some = some_here c.args.self.now c.self.inside.accepted (Some c.in-Some.rules.grammar) c.self.inside.corpus v c.args.segment c.requires.1.1.1.1.0 in
    let s = sound_as c.self.inside.accepted c.self.inside.rules (Some c.in-Some.rules) c.self.inside.corpus c.in-Some.is c.self.invariant in
    let same = ap Some c.keep.ensures.grammar in
    either_way c.keep.result (c.keep.ensures.ok some.text some.may) c.keep.ensures.err
    (λ k. sound_more c.self.inside.accepted (Some c.in-Some.rules) (Some c.keep.new.self) c.self.inside.corpus c.keep.new.corpus some.text c.args.segment same k c.held_is_valid.ensures some.may c.keep.ensures.over s)
    (λ m. sound_same c.self.inside.accepted (Some c.in-Some.rules) (Some c.keep.new.self) c.self.inside.corpus c.keep.new.corpus same m c.keep.ensures.over s)

pub returns-in-Some-clause-ok : goal.returns-in-Some-clause-ok
returns-in-Some-clause-ok g c = λ text may.
    let v = seen_as c.args.self.now c.self.inside.accepted c.self.inside.rules (Some c.in-Some.rules) c.self.inside.corpus c.in-Some.is c.self.view_is in
    ok_as c.keep.result (c.keep.ensures.ok text (may_here c.args.self.now c.self.inside.accepted (Some c.in-Some.rules.grammar) c.self.inside.corpus v text c.args.segment may))
    (λ k. text_held c.self.inside.accepted (Some c.in-Some.rules) (Some c.keep.new.self) c.self.inside.corpus c.keep.new.corpus text c.args.segment (ap Some c.keep.ensures.grammar) k ∙ ap (λ (state : Kept). with_text state.held text) v)

pub returns-in-Some-clause-poor : goal.returns-in-Some-clause-poor
returns-in-Some-clause-poor g c = λ text may.
    let v = seen_as c.args.self.now c.self.inside.accepted c.self.inside.rules (Some c.in-Some.rules) c.self.inside.corpus c.in-Some.is c.self.view_is in
    let images = images_here c.args.self.now c.self.inside.accepted (Some c.in-Some.rules.grammar) c.self.inside.corpus v g.setting c.args.segment c.requires.1.1.1.1.1.0 in
    ok_as c.keep.result (c.keep.ensures.room text (may_here c.args.self.now c.self.inside.accepted (Some c.in-Some.rules.grammar) c.self.inside.corpus v text c.args.segment may))
    (λ n. poor_of g.setting c.args.self.now c.self.inside.accepted c.self.inside.corpus c.in-Some.rules text c.args.segment v images n)

pub returns-in-Some-clause-rich : goal.returns-in-Some-clause-rich
returns-in-Some-clause-rich g c = λ text may e.
    let v = seen_as c.args.self.now c.self.inside.accepted c.self.inside.rules (Some c.in-Some.rules) c.self.inside.corpus c.in-Some.is c.self.view_is in
    let images = images_here c.args.self.now c.self.inside.accepted (Some c.in-Some.rules.grammar) c.self.inside.corpus v g.setting c.args.segment c.requires.1.1.1.1.1.0 in
    rich_of g.setting c.args.self.now c.self.inside.accepted c.self.inside.corpus c.in-Some.rules text c.args.segment v images (c.keep.ensures.too_many text (may_here c.args.self.now c.self.inside.accepted (Some c.in-Some.rules.grammar) c.self.inside.corpus v text c.args.segment may) e)

pub returns-in-Some-clause-serves : goal.returns-in-Some-clause-serves
returns-in-Some-clause-serves g c = λ mappers serves.
    let v = seen_as c.args.self.now c.self.inside.accepted c.self.inside.rules (Some c.in-Some.rules) c.self.inside.corpus c.in-Some.is c.self.view_is in
    let some = some_here c.args.self.now c.self.inside.accepted (Some c.in-Some.rules.grammar) c.self.inside.corpus v c.args.segment c.requires.1.1.1.1.0 in
    let images = images_here c.args.self.now c.self.inside.accepted (Some c.in-Some.rules.grammar) c.self.inside.corpus v g.setting c.args.segment c.requires.1.1.1.1.1.0 in
    let same = ap Some c.keep.ensures.grammar in
    let s = serves_here c.args.self.now c.self.inside.accepted (Some c.in-Some.rules.grammar) c.self.inside.corpus v g.setting mappers serves in
    either_way c.keep.result (c.keep.ensures.ok some.text some.may) c.keep.ensures.err
    (λ k. serves_alone c.self.inside.accepted (Some c.in-Some.rules) (Some c.keep.new.self) c.self.inside.corpus c.keep.new.corpus some.text c.args.segment same k g.setting mappers images s)
    (λ m. serves_same c.self.inside.accepted (Some c.in-Some.rules) (Some c.keep.new.self) c.self.inside.corpus c.keep.new.corpus same m g.setting mappers s)

pub invariant_of-self-in-None : goal.invariant_of-self-in-None
invariant_of-self-in-None g c =
    let some = some_here c.args.self.now c.self.inside.accepted (grammar_of c.self.inside.rules) c.self.inside.corpus c.self.view_is c.args.segment c.requires.1.1.1.1.0 in
    sound_more c.self.inside.accepted c.self.inside.rules c.self.inside.rules c.self.inside.corpus c.keep-in-None.new.self some.text c.args.segment refl
    (record { groups = c.in_ok-keep-in-None.ensures.ok some.text some.may; registry = c.in_ok-keep-in-None.ensures.registry; taken = c.in_ok-keep-in-None.ensures.taken }) c.held_is_valid.ensures some.may
    (over_none c.self.inside.rules c.keep-in-None.new.self c.in-None.is) c.self.invariant

pub returns-in_ok-keep-in-None-clause-ok : goal.returns-in_ok-keep-in-None-clause-ok
returns-in_ok-keep-in-None-clause-ok g c = λ text may.
    let here = may_here c.args.self.now c.self.inside.accepted (grammar_of c.self.inside.rules) c.self.inside.corpus c.self.view_is text c.args.segment may in
    text_held c.self.inside.accepted c.self.inside.rules c.self.inside.rules c.self.inside.corpus c.keep-in-None.new.self text c.args.segment refl
    (record { groups = c.in_ok-keep-in-None.ensures.ok text here; registry = c.in_ok-keep-in-None.ensures.registry; taken = c.in_ok-keep-in-None.ensures.taken })
    ∙ ap (λ (state : Kept). with_text state.held text) c.self.view_is

pub returns-in_ok-keep-in-None-clause-serves : goal.returns-in_ok-keep-in-None-clause-serves
returns-in_ok-keep-in-None-clause-serves g c = λ mappers serves.
    let some = some_here c.args.self.now c.self.inside.accepted (grammar_of c.self.inside.rules) c.self.inside.corpus c.self.view_is c.args.segment c.requires.1.1.1.1.0 in
    serves_alone c.self.inside.accepted c.self.inside.rules c.self.inside.rules c.self.inside.corpus c.keep-in-None.new.self some.text c.args.segment refl
    (record { groups = c.in_ok-keep-in-None.ensures.ok some.text some.may; registry = c.in_ok-keep-in-None.ensures.registry; taken = c.in_ok-keep-in-None.ensures.taken }) g.setting mappers
    (images_here c.args.self.now c.self.inside.accepted (grammar_of c.self.inside.rules) c.self.inside.corpus c.self.view_is g.setting c.args.segment c.requires.1.1.1.1.1.0)
    (serves_here c.args.self.now c.self.inside.accepted (grammar_of c.self.inside.rules) c.self.inside.corpus c.self.view_is g.setting mappers serves)
