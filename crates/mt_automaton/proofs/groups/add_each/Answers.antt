use Rattle.std.proofs.Common.{◌≡◌, ◌+◌, ◌<◌, length, refl, ◌∙◌, ap, subst, inr, arith}
use Rattle.mt_places.specs.Places.{In}
use Rattle.mt_automaton.specs.Groups.{AddsRows}
use Rattle.mt_automaton.proofs.Led.{next_token, all_tokens}
use Rattle.mt_automaton.proofs.groups.add_each.Goals as goal

pub merge-requires-clause-some : goal.merge-requires-clause-some
merge-requires-clause-some c =
    let found = c.in-Some.ensures.found in
    let low : c.in-Some.at < c.args.last = c.requires.within c.in-Some.at found.is_in in
    let same : length c.in_ok-end.end ≡ length c.args.places.now = ap length c.in_ok-end.ensures in
    (c.in-Some.at + 1, c.insert.ensures.places.complete (c.in-Some.at + 1) (inr refl) (omega (arith, low, same, c.requires.room, c.insert.ensures.width, c.clear.ensures.width)))

pub loop-at-preserved : goal.loop-at-preserved
loop-at-preserved c =
    let h = c.loop-at.invariant in
    let at = c.in-Some.at in
    let found = c.in-Some.ensures.found in
    let low : c.in-Some.at < c.args.last = c.requires.within c.in-Some.at found.is_in in
    let same : length c.in_ok-end.end ≡ length c.args.places.now = ap length c.in_ok-end.ensures in
    let wide : length c.insert.new.self ≡ length c.args.places.now = c.insert.ensures.width ∙ c.clear.ensures.width ∙ same in
    record {
      within = omega (arith, low);
      added =
          next_token c.args.label c.args.places.now c.args.labels (length c.args.places.now) c.loop-at.from at c.with_label.result c.clear.new.self c.insert.new.self c.args.out.now.items c.loop-at.out.items c.merge.new.groups.items
          found.from found.is_in found.none_before c.with_label.ensures c.clear.ensures.none c.insert.ensures.places (omega (arith, low, wide, c.requires.room)) h.added
          (subst (λ w. AddsRows w (λ l f. (l ≡ c.with_label.result) × In c.insert.new.self f) c.loop-at.out.items c.merge.new.groups.items) wide c.in_ok-merge.ensures);
    }

pub returns : goal.returns
returns c =
    all_tokens c.args.label c.args.places.now c.args.labels (length c.args.places.now) c.loop-at.from c.args.last c.args.out.now.items c.loop-at.out.items c.in_default.ensures.none c.requires.within
    c.loop-at.invariant.added
