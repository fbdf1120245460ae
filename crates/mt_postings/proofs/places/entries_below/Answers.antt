use Rattle.std.proofs.Common.{ℕ, ◌≡◌, ◌+◌, ◌-◌, ◌*◌, ◌/◌, ◌^◌, ◌<◌, ◌≤◌, length, get_or, sym, subst, arith}
use Rattle.std.proofs.lemmas.List.{get_or_default}
use Rattle.mt_postings.proofs.Seeks.{halved, last_look}
use Rattle.mt_postings.proofs.Placing.{zero_entry}
use Rattle.mt_postings.proofs.places.entries_below.Goals as goal

-- the looks so far, one more
one_more : (old before now : ℕ) → old ≤ before → now ≡ before + 1 → now - old ≡ before - old + 1
one_more old before now l e = omega arith

pub loop-from-preserved-then-entries-middle : goal.loop-from-preserved-then-entries-middle
loop-from-preserved-then-entries-middle g c =
    let inv = c.loop-from.invariant in
    let from = c.loop-from.from in
    let to = c.loop-from.to in
    let middle = from + (to - from) / 2 in
    let spent = c.loop-from.steps - c.args.steps.now in
    let entries = c.args.entries.now in
    let range = length entries - c.args.first in
    let test = c.loop-from-test.true in
    let first_order = inv.first_order in
    let order = inv.order in
    let within = inv.within in
    let k : c.tick.new.self - c.args.steps.now ≡ spent + 1 = one_more c.args.steps.now c.loop-from.steps c.tick.new.self inv.grown c.tick.ensures in
    let s = halved spent (to - from) (to - (middle + 1)) range inv.size (omega arith) in
    let l = last_look spent (to - from) range inv.size (omega arith) in
    let back : middle + 1 - 1 ≡ middle = omega arith in
    record {
      first_order = omega arith;
      order = omega arith;
      within = within;
      below = λ d m. subst (λ x. (get_or entries x d).position < c.args.least) (sym back) (subst (λ x. x.position < c.args.least) (get_or_default entries middle zero_entry d (omega arith)) c.if-entries-middle.true);
      stop = inv.stop;
      grown = let a = inv.grown in let e = c.tick.ensures in omega arith;
      size = subst (λ x. 2 ^ x * (to - (middle + 1)) ≤ range) (sym k) s;
      looks = subst (λ x. 2 ^ x ≤ 2 * range + 1) (sym k) l;
    }

pub loop-from-preserved : goal.loop-from-preserved
loop-from-preserved g c =
    let inv = c.loop-from.invariant in
    let from = c.loop-from.from in
    let to = c.loop-from.to in
    let middle = from + (to - from) / 2 in
    let spent = c.loop-from.steps - c.args.steps.now in
    let entries = c.args.entries.now in
    let range = length entries - c.args.first in
    let test = c.loop-from-test.true in
    let first_order = inv.first_order in
    let order = inv.order in
    let within = inv.within in
    let k : c.tick.new.self - c.args.steps.now ≡ spent + 1 = one_more c.args.steps.now c.loop-from.steps c.tick.new.self inv.grown c.tick.ensures in
    let s = halved spent (to - from) (middle - from) range inv.size (omega arith) in
    let l = last_look spent (to - from) range inv.size (omega arith) in
    record {
      first_order = first_order;
      order = omega arith;
      within = omega arith;
      below = inv.below;
      stop = λ d m. subst (λ x. c.args.least ≤ x.position) (get_or_default entries middle zero_entry d (omega arith)) c.if-entries-middle.false;
      grown = let a = inv.grown in let e = c.tick.ensures in omega arith;
      size = subst (λ x. 2 ^ x * (middle - from) ≤ range) (sym k) s;
      looks = subst (λ x. 2 ^ x ≤ 2 * range + 1) (sym k) l;
    }
