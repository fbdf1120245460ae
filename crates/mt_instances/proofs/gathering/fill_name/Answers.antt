use Rattle.std.proofs.Common.{Some, sym, ap, ◌∙◌}
use Rattle.mt_instances.proofs.Known.{gathered_named, gathered_filled, fill_is, is_known, none_known}
use Rattle.mt_instances.proofs.gathering.fill_name.Goals as goal

pub returns-in_err-number-in-Some-clause-gathered :
    goal.returns-in_err-number-in-Some-clause-gathered
returns-in_err-number-in-Some-clause-gathered c = gathered_named c.args.words.now.lexicon.now c.args.words.now.numbers.now c.args.gathered.now c.add_name.new.self c.add_name.ensures.names c.add_name.ensures.given c.requires.gathered

pub returns-in_err-set-in-Some-clause-gathered : goal.returns-in_err-set-in-Some-clause-gathered
returns-in_err-set-in-Some-clause-gathered c =
    let old = c.args.gathered.now in
    let new = c.add_name.new.self in
    let lexicon = c.args.words.now.lexicon.now in
    let at = c.name.ensures ∙ ap Some (sym c.as_str-text.ensures) in
    let filled = rw c.in-Some.is at c.in_ok-full.ensures in
    let is = fill_is old.instances.names new.names lexicon c.args.name c.args.value c.in_ok-number-in-Some.number c.as_str-text.result.now c.value.result.now c.in-Some.full c.add_name.ensures.names at c.value.ensures c.in_ok-number-in-Some.ensures.number filled in
    let named = gathered_named lexicon c.args.words.now.numbers.now old new c.add_name.ensures.names c.add_name.ensures.given c.requires.gathered in
    gathered_filled lexicon c.args.words.now.numbers.now (record { instances = new; fills = old.fills }) c.set.new.self c.args.name c.args.value c.in_ok-number-in-Some.number named is c.set.ensures

pub returns-in_ok-set-in-Some-clause-gathered : goal.returns-in_ok-set-in-Some-clause-gathered
returns-in_ok-set-in-Some-clause-gathered c =
    let old = c.args.gathered.now in
    let new = c.add_name.new.self in
    let lexicon = c.args.words.now.lexicon.now in
    let at = c.name.ensures ∙ ap Some (sym c.as_str-text.ensures) in
    let filled = rw c.in-Some.is at c.in_ok-full.ensures in
    let is = fill_is old.instances.names new.names lexicon c.args.name c.args.value c.in_ok-number-in-Some.number c.as_str-text.result.now c.value.result.now c.in-Some.full c.add_name.ensures.names at c.value.ensures c.in_ok-number-in-Some.ensures.number filled in
    let named = gathered_named lexicon c.args.words.now.numbers.now old new c.add_name.ensures.names c.add_name.ensures.given c.requires.gathered in
    gathered_filled lexicon c.args.words.now.numbers.now (record { instances = new; fills = old.fills }) c.set.new.self c.args.name c.args.value c.in_ok-number-in-Some.number named is c.set.ensures

pub returns-in_ok-set-in-Some-clause-filled : goal.returns-in_ok-set-in-Some-clause-filled
returns-in_ok-set-in-Some-clause-filled c =
    let at = c.name.ensures ∙ ap Some (sym c.as_str-text.ensures) in
    let filled = rw c.in-Some.is at c.in_ok-full.ensures in
    (c.in-Some.full, c.in_ok-number-in-Some.ensures.number, is_known c.args.gathered.now.instances.names c.args.words.now.lexicon.now c.args.name c.args.value c.as_str-text.result.now c.value.result.now c.in-Some.full at c.value.ensures filled)

pub returns-in-None-clause-filled : goal.returns-in-None-clause-filled
returns-in-None-clause-filled c =
    let at = c.name.ensures ∙ ap Some (sym c.as_str-text.ensures) in
    none_known c.args.gathered.now.instances.names c.args.words.now.lexicon.now c.args.name c.args.value c.as_str-text.result.now c.value.result.now at c.value.ensures (rw c.in-None.is at c.in_ok-full.ensures)
