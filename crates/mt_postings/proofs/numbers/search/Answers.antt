use Rattle.std.proofs.Common.{ℕ, ◌≡◌, ◌+◌, ◌-◌, ◌*◌, ◌/◌, ◌^◌, ◌≤◌, sym, subst, arith}
use Rattle.mt_postings.proofs.Ascending.{not_below}
use Rattle.mt_postings.proofs.Seeks.{halved, last_look}
use Rattle.mt_postings.proofs.numbers.search.Goals as goal

-- the looks so far, one more
one_more : (old before now : ℕ) → old ≤ before → now ≡ before + 1 → now - old ≡ before - old + 1
one_more old before now l e = omega arith

pub loop-from-preserved-then-positions-middle : goal.loop-from-preserved-then-positions-middle
loop-from-preserved-then-positions-middle g c =
    let inv = c.loop-from.invariant in
    let from = c.loop-from.from in
    let to = c.loop-from.to in
    let middle = from + (to - from) / 2 in
    let spent = c.loop-from.steps - c.args.steps.now in
    let range = c.args.high - c.args.low in
    let test = c.loop-from-test.true in
    let order = inv.order in
    let within = inv.within in
    let k : c.tick.new.self - c.args.steps.now ≡ spent + 1 = one_more c.args.steps.now c.loop-from.steps c.tick.new.self inv.grown c.tick.ensures in
    let s = halved spent (to - from) (to - (middle + 1)) range inv.size (omega arith) in
    let l = last_look spent (to - from) range inv.size (omega arith) in
    record {
      order = omega arith;
      within = within;
      below = λ i b. let h = not_below c.args.positions.now i middle c.requires.valid (omega arith) (omega arith) in let t = c.if-positions-middle.true in omega arith;
      stop = inv.stop;
      grown = let a = inv.grown in let e = c.tick.ensures in omega arith;
      size = subst (λ x. 2 ^ x * (to - (middle + 1)) ≤ range) (sym k) s;
      looks = subst (λ x. 2 ^ x ≤ 2 * range + 1) (sym k) l;
    }

pub loop-from-preserved : goal.loop-from-preserved
loop-from-preserved g c =
    let inv = c.loop-from.invariant in
    let from = c.loop-from.from in
    let to = c.loop-from.to in
    let middle = from + (to - from) / 2 in
    let spent = c.loop-from.steps - c.args.steps.now in
    let range = c.args.high - c.args.low in
    let test = c.loop-from-test.true in
    let order = inv.order in
    let within = inv.within in
    let k : c.tick.new.self - c.args.steps.now ≡ spent + 1 = one_more c.args.steps.now c.loop-from.steps c.tick.new.self inv.grown c.tick.ensures in
    let s = halved spent (to - from) (middle - from) range inv.size (omega arith) in
    let l = last_look spent (to - from) range inv.size (omega arith) in
    record {
      order = omega arith;
      within = omega arith;
      below = inv.below;
      stop = λ _. c.if-positions-middle.false;
      grown = let a = inv.grown in let e = c.tick.ensures in omega arith;
      size = subst (λ x. 2 ^ x * (middle - from) ≤ range) (sym k) s;
      looks = subst (λ x. 2 ^ x ≤ 2 * range + 1) (sym k) l;
    }
