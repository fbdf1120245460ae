use Rattle.std.proofs.Common.{◌≡◌, ℕ, List, ◌+◌, ◌++◌, ◌∷◌, [], get_or, ap, ◌∙◌, sym, true, arith}
use Rattle.std.proofs.lemmas.List.{get_or_default, length-map}
use Rattle.mt_counts.proofs.Totals.{total-grown}
use Rattle.mt_counts.specs.Chains.{classes}
use Rattle.mt_counts.specs.Totals.{is_key}
use Rattle.mt_counts.proofs.Chains.{chained_more, same_ends}
use Rattle.mt_counts.proofs.Entries.{grows_none, grows_one, at_end, pair_exact, length-pushed, classes-pushed, pushed_below}
use Rattle.mt_counts.proofs.Hints.{hints_grown}
use Rattle.mt_counts.proofs.Placing.{put_behind, place_behind, place_there, put_back_at}
use Rattle.mt_counts.proofs.tally.Tally.place.Goals as goal

pub returns-in_err-make_place-clause-below : goal.returns-in_err-make_place-clause-below
returns-in_err-make_place-clause-below c = rw (← c.self.view_is) (λ groups members h l m. h)

pub returns-in_err-make_room-clause-below : goal.returns-in_err-make_room-clause-below
returns-in_err-make_room-clause-below c = rw (← c.self.view_is) (λ groups members h l m. h)

pub invariant_of-self-in-Ok-default-None : goal.invariant_of-self-in-Ok-default-None
invariant_of-self-in-Ok-default-None c =
    let entries = c.self.inside.counts.entries in
    let news = c.insert_full.new.self.entries in
    let ends = c.make_room.new.ends.items in
    let place = c.in-Ok-default-None.ensures.index ∙ place_behind is_key (c.args.group, c.args.member) entries (sym c.in-Ok-default-None.field-0-1-is ∙ c.in-Ok-default-None.ensures.old) in
    let is : news ≡ entries ++ ((c.args.group, c.args.member), 0) ∷ [] = c.in-Ok-default-None.ensures.entries ∙ put_behind is_key (c.args.group, c.args.member) entries (sym c.in-Ok-default-None.field-0-1-is ∙ c.in-Ok-default-None.ensures.old) in
    let more = length-pushed entries news (c.args.group, c.args.member) is in
    let room = c.in_ok-make_room.ensures.room in
    let chained = same_ends (classes entries) c.self.inside.belows.items c.self.inside.ends.items ends c.in_ok-make_room.ensures.same c.self.invariant.0 in
    let count = length-map entries (λ (e : (ℕ × ℕ) × ℕ). e.0.0) in
    let below = c.index.ensures ∙ get_or_default ends c.args.group c.index.result.now 0 room in
    let belows : c.push_reserved.new.self.items ≡ c.self.inside.belows.items ++ get_or ends c.args.group 0 ∷ [] =
    c.push_reserved.ensures.items ∙ ap (λ (ns : List ℕ). ns ++ c.index.result.now ∷ []) c.in_ok-make_place.ensures.same ∙ ap (λ (n : ℕ). c.self.inside.belows.items ++ n ∷ []) below in (
      rw (classes-pushed entries news c.args.group c.args.member is, belows)
          (chained_more (classes entries) c.self.inside.belows.items ends c.args.group chained (c.in-Ok-default-None.place + 1) room (omega (arith, place, count))),
      omega (arith, more, c.len.ensures.len, c.if-len.false),
      c.self.invariant.2 ∙ sym (total-grown (λ key. true) entries news (grows_one entries news (c.args.group, c.args.member) is)),
      hints_grown entries news c.self.inside.hints.items (grows_one entries news (c.args.group, c.args.member) is) c.self.invariant.3,
    )

pub returns-in-Ok-default-None-clause-grows : goal.returns-in-Ok-default-None-clause-grows
returns-in-Ok-default-None-clause-grows c =
    rw (← c.self.view_is) (grows_one c.self.inside.counts.entries c.insert_full.new.self.entries (c.args.group, c.args.member)
    (c.in-Ok-default-None.ensures.entries ∙ put_behind is_key (c.args.group, c.args.member) c.self.inside.counts.entries (sym c.in-Ok-default-None.field-0-1-is ∙ c.in-Ok-default-None.ensures.old)))

pub returns-in-Ok-default-None-clause-place : goal.returns-in-Ok-default-None-clause-place
returns-in-Ok-default-None-clause-place c =
    let entries = c.self.inside.counts.entries in
    at_end entries c.insert_full.new.self.entries (c.args.group, c.args.member) c.in-Ok-default-None.place
    (c.in-Ok-default-None.ensures.index ∙ place_behind is_key (c.args.group, c.args.member) entries (sym c.in-Ok-default-None.field-0-1-is ∙ c.in-Ok-default-None.ensures.old))
    (c.in-Ok-default-None.ensures.entries ∙ put_behind is_key (c.args.group, c.args.member) entries (sym c.in-Ok-default-None.field-0-1-is ∙ c.in-Ok-default-None.ensures.old))

pub returns-in-Ok-default-None-clause-below : goal.returns-in-Ok-default-None-clause-below
returns-in-Ok-default-None-clause-below c =
    rw (← c.self.view_is) (λ groups members. pushed_below c.self.inside.counts.entries c.insert_full.new.self.entries c.args.group c.args.member groups members
    (c.in-Ok-default-None.ensures.entries ∙ put_behind is_key (c.args.group, c.args.member) c.self.inside.counts.entries (sym c.in-Ok-default-None.field-0-1-is ∙ c.in-Ok-default-None.ensures.old)))

pub returns-in-Err-clause-below : goal.returns-in-Err-clause-below
returns-in-Err-clause-below c = let same : c.insert_full.new.self.entries ≡ c.args.self.now = c.in-Err.ensures.err ∙ c.self.view_is in rw same (λ groups members h l m. h)

pub invariant_of-self-in-Ok-default-Some : goal.invariant_of-self-in-Ok-default-Some
invariant_of-self-in-Ok-default-Some c =
    let entries = c.self.inside.counts.entries in
    let same = put_back_at is_key (c.args.group, c.args.member) entries c.insert_full.new.self.entries c.in-Ok-default-Some.place c.in-Ok-default-Some.count c.in-Ok-default-Some.ensures.index c.in-Ok-default-Some.ensures.entries
    (sym c.in-Ok-default-Some.field-0-1-is ∙ c.in-Ok-default-Some.ensures.old) in
    let chained = same_ends (classes entries) c.self.inside.belows.items c.self.inside.ends.items c.make_room.new.ends.items c.in_ok-make_room.ensures.same c.self.invariant.0 in
    rw (same, c.in_ok-make_place.ensures.same) (chained, c.self.invariant.1, c.self.invariant.2, c.self.invariant.3)

pub returns-in-Ok-default-Some-clause-grows : goal.returns-in-Ok-default-Some-clause-grows
returns-in-Ok-default-Some-clause-grows c =
    let entries = c.self.inside.counts.entries in
    let same = put_back_at is_key (c.args.group, c.args.member) entries c.insert_full.new.self.entries c.in-Ok-default-Some.place c.in-Ok-default-Some.count c.in-Ok-default-Some.ensures.index c.in-Ok-default-Some.ensures.entries
    (sym c.in-Ok-default-Some.field-0-1-is ∙ c.in-Ok-default-Some.ensures.old) in
    rw (same, ← c.self.view_is) (grows_none entries)

pub returns-in-Ok-default-Some-clause-place : goal.returns-in-Ok-default-Some-clause-place
returns-in-Ok-default-Some-clause-place c =
    let entries = c.self.inside.counts.entries in
    let same = put_back_at is_key (c.args.group, c.args.member) entries c.insert_full.new.self.entries c.in-Ok-default-Some.place c.in-Ok-default-Some.count c.in-Ok-default-Some.ensures.index c.in-Ok-default-Some.ensures.entries
    (sym c.in-Ok-default-Some.field-0-1-is ∙ c.in-Ok-default-Some.ensures.old) in
    rw (same, c.in-Ok-default-Some.ensures.index) (place_there is_key (c.args.group, c.args.member) entries c.in-Ok-default-Some.count (pair_exact c.args.group c.args.member) (sym c.in-Ok-default-Some.field-0-1-is ∙ c.in-Ok-default-Some.ensures.old))

pub returns-in-Ok-default-Some-clause-below : goal.returns-in-Ok-default-Some-clause-below
returns-in-Ok-default-Some-clause-below c =
    let entries = c.self.inside.counts.entries in
    let same = put_back_at is_key (c.args.group, c.args.member) entries c.insert_full.new.self.entries c.in-Ok-default-Some.place c.in-Ok-default-Some.count c.in-Ok-default-Some.ensures.index c.in-Ok-default-Some.ensures.entries
    (sym c.in-Ok-default-Some.field-0-1-is ∙ c.in-Ok-default-Some.ensures.old) in
    rw (same, ← c.self.view_is) (λ groups members h l m. h)
