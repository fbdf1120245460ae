use Rattle.std.proofs.Common.{◌≡◌, ap, sym, subst, arith}
use Rattle.std.proofs.lemmas.List.{get_or_read}
use Rattle.mt_places.specs.Places.{In}
use Rattle.mt_automaton.specs.declared.groups.Group.{Group}
use Rattle.mt_automaton.specs.Groups.{group, none}
use Rattle.mt_automaton.proofs.Gathered.{starts, next_gathered, all_gathered}
use Rattle.mt_automaton.proofs.rows.gather.Goals as goal

pub loop-group-init : goal.loop-group-init
loop-group-init c = starts c.args.groups.now c.args.text c.args.begin c.clear.new.self.items c.clear.ensures.items

pub gather_group-requires-clause-few : goal.gather_group-requires-clause-few
gather_group-requires-clause-few c =
    let groups = c.args.groups.now in
    let n = c.loop-group.group-index in
    let item : c.group-item.result ≡ group groups n = get_or_read groups n c.group-item.result (omega arith) c.group-item.is none in
    λ f h. c.requires.few c.group-item.result.labels f (record { at = n; within = omega arith; labelled = ap (λ (x : Group). x.labels) (sym item); is_in = subst (λ (x : Group). In x.ends f) item h })

pub loop-group-preserved : goal.loop-group-preserved
loop-group-preserved c =
    let groups = c.args.groups.now in
    let n = c.loop-group.group-index in
    let item : c.group-item.result ≡ group groups n = get_or_read groups n c.group-item.result (omega arith) c.group-item.is none in
    next_gathered groups c.args.text c.args.begin n c.group-item.result c.loop-group.rows.items c.gather_group.new.rows.items c.requires.ascending (omega arith) item c.loop-group.invariant c.in_ok-gather_group.ensures

pub returns : goal.returns
returns c = all_gathered c.args.groups.now c.args.text c.args.begin c.loop-group.group-index c.loop-group.rows.items (omega arith) c.loop-group.invariant
