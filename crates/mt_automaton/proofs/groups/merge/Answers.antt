use Rattle.std.proofs.Common.{◌≡◌, ◌<◌, List, length, set, refl, ap, subst}
use Rattle.std.proofs.lemmas.List.{get_or_read}
use Rattle.mt_automaton.specs.declared.groups.Group.{Group}
use Rattle.mt_automaton.specs.Groups.{group, none, StandsBetween}
use Rattle.mt_automaton.proofs.Grouped.{new_group, more_ends}
use Rattle.mt_automaton.proofs.groups.merge.Goals as goal

pub returns-in-Ok : goal.returns-in-Ok
returns-in-Ok c =
    let groups = c.args.groups.now.items in
    let at = c.in-Ok.at in
    let value : c.deref.result.now ≡ groups = c.deref.ensures.value in
    let found = subst (λ (gs : List Group). (at < length gs) × ((group gs at).labels ≡ c.args.labels)) value c.in-Ok.ensures.found in
    let read : c.index_mut.result.now ≡ group groups at = get_or_read groups at c.index_mut.result.now found.0 c.index_mut.ensures.value none in
    more_ends (length c.args.set) groups _ at c.index_mut.result.now.ends c.args.labels c.args.set c.add.new.self c.requires.fine refl found.0 found.1 (ap (λ (x : Group). x.ends) read) c.add.ensures.width c.add.ensures.places
    (ap (λ (x : Group). set groups at (record { labels = x.labels; ends = c.add.new.self })) read)

pub returns-in_ok-insert-in-Err : goal.returns-in_ok-insert-in-Err
returns-in_ok-insert-in-Err c =
    let groups = c.args.groups.now.items in
    let value : c.deref.result.now ≡ groups = c.deref.ensures.value in
    let stands = subst (λ (gs : List Group). StandsBetween gs c.args.labels c.in-Err.at) value c.in-Err.ensures.none in
    new_group (length c.args.set) groups c.insert.new.self.items c.in-Err.at c.args.labels c.args.set c.requires.fine stands refl c.requires.some c.in_ok-insert-in-Err.ensures.items
