use Rattle.std.proofs.Common.{◌≡◌, ◌+◌, ◌*◌, ◌^◌, ◌≤◌, ◌∙◌, ℕ, List, suc, length, get_or, arith, ap}
use Rattle.std.proofs.Math.Nat.{pow-suc, pow-le-pow_right}
use Rattle.mt_vertical_tables.proofs.Packing.{all_digits, digits_more}
use Rattle.mt_vertical_tables.proofs.known.packed.Goals as goal
use Rattle.mt_vertical_tables.proofs.known.packed.Goals.{In-loop-place}

most : (c : In-loop-place) → 256 ^ c.loop-place.place ≤ 256 ^ 10
most c =
    let few : c.loop-place.place ≤ 10 = omega (arith, c.loop-place-test.true, ap length c.as_bytes-bytes.ensures.value, c.requires) in
    pow-le-pow_right {n = 256} (omega arith) few

pub overflow_mul-key : goal.overflow_mul-key
overflow_mul-key c = let fits = most (goal.at.overflow_mul-key c).In-loop-place in omega (arith, fits, c.loop-place.invariant.low)

pub overflow_add-key : goal.overflow_add-key
overflow_add-key c = let fits = most (goal.at.overflow_add-key c).In-loop-place in omega (arith, fits, c.loop-place.invariant.low, c.from.ensures, c.type_inv.bytes c.loop-place.place)

pub loop-place-preserved : goal.loop-place-preserved
loop-place-preserved c = record {
  key = digits_more c.args.value.now c.loop-place.place c.loop-place.key c.from.result (omega (arith, c.loop-place-test.true, ap length c.as_bytes-bytes.ensures.value)) c.loop-place.invariant.key
      (c.from.ensures ∙ ap (λ (bytes : List ℕ). get_or bytes c.loop-place.place 0) c.as_bytes-bytes.ensures.value);
  low =
      let e : c.loop-place.place + 1 ≡ suc c.loop-place.place = omega arith in
      let power : 256 ^ suc c.loop-place.place ≡ 256 ^ c.loop-place.place * 256 = pow-suc 256 c.loop-place.place in
      rw (e, power) (omega (arith, c.loop-place.invariant.low, c.from.ensures, c.type_inv.bytes c.loop-place.place));
}

pub returns-clause-packed : goal.returns-clause-packed
returns-clause-packed c = all_digits c.args.value.now c.loop-place.place c.loop-place.key (λ k. omega (arith, c.type_inv.value k)) (omega (arith, c.loop-place-test.false, ap length c.as_bytes-bytes.ensures.value)) c.loop-place.invariant.key

pub returns-clause-low : goal.returns-clause-low
returns-clause-low c =
    let few : c.loop-place.place ≤ 11 = omega (arith, c.loop-place.auto.place-end, ap length c.as_bytes-bytes.ensures.value, c.requires) in
    let fits : 256 ^ c.loop-place.place ≤ 256 ^ 11 = pow-le-pow_right {n = 256} (omega arith) few in
    omega (arith, fits, c.loop-place.invariant.low)
