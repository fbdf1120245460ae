use Rattle.std.proofs.Common.{◌≡◌, ◌+◌, ◌*◌, ◌^◌, ◌≤◌, ◌∙◌, ℕ, List, suc, get_or, arith, ap}
use Rattle.std.proofs.Math.Nat.{pow-suc}
use Rattle.mt_lexicon.proofs.FirstBytes.{first_more, power_low}
use Rattle.mt_lexicon.proofs.builder.first_eight.Goals as goal

pub overflow_mul-first : goal.overflow_mul-first
overflow_mul-first c = let most : 256 ^ c.loop-place.place ≤ 256 ^ 7 = power_low c.loop-place.place c.loop-place-test.true in omega (arith, most, c.loop-place.invariant.low)

pub overflow_add-first : goal.overflow_add-first
overflow_add-first c = let most : 256 ^ c.loop-place.place ≤ 256 ^ 7 = power_low c.loop-place.place c.loop-place-test.true in omega (arith, most, c.loop-place.invariant.low)

pub loop-place-preserved : goal.loop-place-preserved
loop-place-preserved c = record {
  first = first_more c.loop-place.place c.args.value.now c.loop-place.first c.from.result c.loop-place.invariant.first
      (c.from.ensures ∙ c.byte_at.ensures ∙ ap (λ (bytes : List ℕ). get_or bytes c.loop-place.place 0) c.as_bytes-bytes.ensures.value);
  low =
      let e : c.loop-place.place + 1 ≡ suc c.loop-place.place = omega arith in
      let power : 256 ^ suc c.loop-place.place ≡ 256 ^ c.loop-place.place * 256 = pow-suc 256 c.loop-place.place in
      rw (e, power) (omega (arith, c.loop-place.invariant.low));
}
