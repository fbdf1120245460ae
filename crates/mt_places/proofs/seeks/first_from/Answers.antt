use Rattle.std.proofs.Common.{◌+◌, ◌*◌, ◌/◌, ◌%◌, ◌^◌, ◌-◌, bit_and, ◌<◌, ◌≤◌, get_or, refl, arith}
use Rattle.mt_places.proofs.Bits.{not_zero, bit_past}
use Rattle.mt_places.proofs.Finding.{first_word, next_word, none_from, first_place}
use Rattle.std.proofs.lemmas.Nat.{and_le_l}
use Rattle.mt_places.proofs.seeks.first_from.Goals as goal

pub returns-then-at-set-clause-none : goal.returns-then-at-set-clause-none
returns-then-at-set-clause-none c = λ k h. not_zero c.args.set.now k (bit_past c.args.set.now k (omega arith))

pub loop-word-init : goal.loop-word-init
loop-word-init c =
    let word = get_or c.args.set.now (c.args.place / 64) 0 in
    let mask = (2 ^ 64 - 1) * 2 ^ (c.args.place % 64) % 2 ^ 64 in
    let small : word < 2 ^ 64 = (c.type_inv.set (c.args.place / 64)).fits in
    let less : bit_and word mask ≤ word = and_le_l word mask in
    let fits : bit_and word mask < 2 ^ 64 = omega (arith, small, less) in
    record {
      past = omega arith;
      within = omega arith;
      word = first_word c.args.set.now c.args.place word _ refl fits refl;
    }

pub returns-then-at-set-2-clause-none : goal.returns-then-at-set-2-clause-none
returns-then-at-set-2-clause-none c = let h = c.loop-word.invariant in none_from c.args.set.now c.args.place c.loop-word.at c.loop-word.word c.loop-word-test.true h.word c.if-at-set-2.true

pub loop-word-preserved : goal.loop-word-preserved
loop-word-preserved c =
    let h = c.loop-word.invariant in
    record {
      past = omega arith;
      within = omega arith;
      word = next_word c.args.set.now c.args.place c.loop-word.at c.loop-word.word _ c.loop-word-test.true h.word refl (c.type_inv.set (c.loop-word.at + 1)).fits h.past;
    }

pub returns-clause-found : goal.returns-clause-found
returns-clause-found c = first_place c.args.set.now c.args.place c.loop-word.at c.loop-word.word c.loop-word.invariant.word c.loop-word-test.false
