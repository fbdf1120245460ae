use Rattle.std.proofs.Common.{◌≡◌, List, ◌++◌, ap, sym, subst, ◌∙◌, arith}
use Rattle.mt_text_spec.specs.Texts.{Row}
use Rattle.std.proofs.lemmas.List.{get_or_read}
use Rattle.std.proofs.lemmas.Result.{on_ok_weaker}
use Rattle.mt_places.specs.Places.{In}
use Rattle.mt_automaton.specs.declared.groups.Group.{Group}
use Rattle.mt_automaton.specs.Groups.{group, none}
use Rattle.mt_automaton.specs.RowsFrom.{EndsIn, IsGroupRow}
use Rattle.mt_automaton.proofs.Gathered.{sorted_lists, one_group, one_group_back}
use Rattle.mt_automaton.proofs.FromOne.{appends_renamed, more_renamed}
use Rattle.mt_automaton.proofs.rows.rows_of_groups.Goals as goal

pub returns-then-len-room-clause-more : goal.returns-then-len-room-clause-more
returns-then-len-room-clause-more c = λ _. record {
  rows = c.sort_unstable.new.self.items;
  are = sorted_lists (IsGroupRow c.args.groups.now c.args.text c.args.begin) c.gather.new.rows.items c.sort_unstable.new.self.items c.in_ok-gather.ensures c.sort_unstable.ensures.permutation c.sort_unstable.ensures.sorted;
  more = omega (arith, c.if-len-room.true, c.len.ensures);
}

pub returns-clause-ok : goal.returns-clause-ok
returns-clause-ok c = record {
  rows = c.sort_unstable.new.self.items;
  are = sorted_lists (IsGroupRow c.args.groups.now c.args.text c.args.begin) c.gather.new.rows.items c.sort_unstable.new.self.items c.in_ok-gather.ensures c.sort_unstable.ensures.permutation c.sort_unstable.ensures.sorted;
  within = omega (arith, c.if-len-room.false, c.len.ensures);
  appended = c.in_ok-push_all.ensures.ok ∙ ap (λ (s : List Row). c.args.out.now ++ s) c.deref.ensures.value;
}

pub push_ends-requires-clause-few : goal.push_ends-requires-clause-few
push_ends-requires-clause-few c =
    let g = c.index-groups-0.result in
    let item : g ≡ group c.args.groups.now 0 = get_or_read c.args.groups.now 0 g (omega (arith, c.if-groups-eq1.true)) c.index-groups-0.is none in
    λ f h. c.requires.few g.labels f (record { at = 0; within = omega (arith, c.if-groups-eq1.true); labelled = ap (λ (x : Group). x.labels) (sym item); is_in = subst (λ (x : Group). In x.ends f) item h })

pub returns-then-groups-eq1-clause-ok : goal.returns-then-groups-eq1-clause-ok
returns-then-groups-eq1-clause-ok c =
    let groups = c.args.groups.now in
    let g = c.index-groups-0.result in
    let item : g ≡ group groups 0 = get_or_read groups 0 g (omega (arith, c.if-groups-eq1.true)) c.index-groups-0.is none in
    on_ok_weaker c.push_ends.result
    (λ a. appends_renamed (EndsIn g.ends g.labels c.args.text c.args.begin) (IsGroupRow groups c.args.text c.args.begin) c.args.room c.args.out.now c.push_ends.new.out
    (one_group groups g c.args.text c.args.begin item c.if-groups-eq1.true) (one_group_back groups g c.args.text c.args.begin item c.if-groups-eq1.true) a)
    c.push_ends.ensures.ok

pub returns-then-groups-eq1-clause-more : goal.returns-then-groups-eq1-clause-more
returns-then-groups-eq1-clause-more c =
    let groups = c.args.groups.now in
    let g = c.index-groups-0.result in
    let item : g ≡ group groups 0 = get_or_read groups 0 g (omega (arith, c.if-groups-eq1.true)) c.index-groups-0.is none in
    λ e. more_renamed (EndsIn g.ends g.labels c.args.text c.args.begin) (IsGroupRow groups c.args.text c.args.begin) c.args.room (one_group groups g c.args.text c.args.begin item c.if-groups-eq1.true)
    (one_group_back groups g c.args.text c.args.begin item c.if-groups-eq1.true) (c.push_ends.ensures.more e)
