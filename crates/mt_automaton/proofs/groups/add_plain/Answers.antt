use Rattle.std.proofs.Common.{◌≡◌, length, rules}
use Rattle.std.proofs.lemmas.Result.{on_ok_weaker}
use Rattle.mt_automaton.proofs.Led.{plain_leads, plain_leads_nowhere}
use Rattle.mt_automaton.proofs.groups.add_plain.Goals as goal

pub returns-then-is_empty : goal.returns-then-is_empty
returns-then-is_empty g c =
    let nine : length c.args.labels ≡ 9 = search rules in
    plain_leads_nowhere (g.V.View.seen c.args.view.now) c.args.part.now c.args.from.now c.args.allowed.now c.in_ok-found.found c.keep.new.self c.args.labels c.args.out.now.items nine c.requires.from c.requires.allowed
    (rw c.in_ok-begins.ensures at c.in_ok-found.ensures) c.keep.ensures.width c.keep.ensures.places (c.is_empty.ensures.none c.if-is_empty.true) c.requires.fine

pub returns : goal.returns
returns g c =
    let nine : length c.args.labels ≡ 9 = search rules in
    on_ok_weaker c.merge.result
    (λ x. plain_leads (g.V.View.seen c.args.view.now) c.args.part.now c.args.from.now c.args.allowed.now c.in_ok-found.found c.keep.new.self c.args.labels c.args.out.now.items c.merge.new.groups.items nine c.requires.from c.requires.allowed
    (rw c.in_ok-begins.ensures at c.in_ok-found.ensures) c.keep.ensures.width c.keep.ensures.places x)
    c.merge.ensures
