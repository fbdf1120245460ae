use Rattle.std.proofs.Common.{◌^◌, ◌≡◌, ◌+◌, ◌-◌, ◌*◌, ◌/◌, ◌<◌, ◌≤◌, Fits, w32, sym, refl, arith, subst}
use lib.Count.{count_leading_zeros}
use Rattle.mt_postings.specs.Words.{Begins}
use Rattle.mt_postings.proofs.Heads.{leading_head, code_at, begins_no_zeros, begins_no_large, begins_one}
use Rattle.mt_postings.proofs.code.long_code_in.Goals as goal

pub returns-then-word-eq0-clause-none : goal.returns-then-word-eq0-clause-none
returns-then-word-eq0-clause-none c = λ n k b l. let f = c.ranges.word.fits in let m = c.requires in begins_no_zeros c.args.word n k (omega arith) c.if-word-eq0.true b (omega arith)

pub overflow_sub-digits : goal.overflow_sub-digits
overflow_sub-digits c =
    let f = c.ranges.word.fits in
    let few = (leading_head c.args.word (omega arith) c.if-word-eq0.false).few in
    omega arith

pub returns-then-digits-gt32-clause-none : goal.returns-then-digits-gt32-clause-none
returns-then-digits-gt32-clause-none c = λ n k b l.
    let w = c.args.word in
    let z = count_leading_zeros 64 w in
    let f = c.ranges.word.fits in
    let m = c.requires in
    let e : 63 - 2 * z ≡ 64 - (2 * z + 1) = omega arith in
    begins_no_large w z n k (omega arith) (leading_head w (omega arith) c.if-word-eq0.false) (subst (λ x. 32 < w / 2 ^ x) e c.if-digits-gt32.true) b (omega arith)

pub returns-then-length-held-clause-none : goal.returns-then-length-held-clause-none
returns-then-length-held-clause-none c = λ n k b l.
    let w = c.args.word in
    let z = count_leading_zeros 64 w in
    let g = w / 2 ^ (63 - 2 * z) in
    let f = c.ranges.word.fits in
    let v = code_at w z g (leading_head w (omega arith) c.if-word-eq0.false) refl c.if-digits-gt32.false in
    let m = c.requires in
    let t = c.if-length-held.true in
    let e = begins_one w n (w / 2 ^ (64 - (2 * z + g)) - (g - 1) * 2 ^ (g - 1)) k (2 * z + g) b v.begins (omega arith) v.few in
    omega arith

pub overflow_sub-low : goal.overflow_sub-low
overflow_sub-low c =
    let w = c.args.word in
    let z = count_leading_zeros 64 w in
    let f = c.ranges.word.fits in
    (code_at w z (w / 2 ^ (63 - 2 * z)) (leading_head w (omega arith) c.if-word-eq0.false) refl c.if-digits-gt32.false).some

pub overflow_shr-n : goal.overflow_shr-n
overflow_shr-n c =
    let w = c.args.word in
    let z = count_leading_zeros 64 w in
    let f = c.ranges.word.fits in
    let some = (code_at w z (w / 2 ^ (63 - 2 * z)) (leading_head w (omega arith) c.if-word-eq0.false) refl c.if-digits-gt32.false).some in
    omega arith

pub overflow_sub-n-2 : goal.overflow_sub-n-2
overflow_sub-n-2 c =
    let w = c.args.word in
    let z = count_leading_zeros 64 w in
    let g = w / 2 ^ (63 - 2 * z) in
    let f = c.ranges.word.fits in
    let v = code_at w z g (leading_head w (omega arith) c.if-word-eq0.false) refl c.if-digits-gt32.false in
    subst (λ x. x ≤ w / 2 ^ (64 - (2 * z + g))) (sym v.shifted) v.above

pub overflow_cast-result : goal.overflow_cast-result
overflow_cast-result c =
    let w = c.args.word in
    let z = count_leading_zeros 64 w in
    let g = w / 2 ^ (63 - 2 * z) in
    let f = c.ranges.word.fits in
    let v = code_at w z g (leading_head w (omega arith) c.if-word-eq0.false) refl c.if-digits-gt32.false in
    subst (λ x. Fits w32 (w / 2 ^ (64 - (2 * z + g)) - x)) (sym v.shifted) (let t = v.fits in omega arith)

pub returns-clause-code : goal.returns-clause-code
returns-clause-code c =
    let w = c.args.word in
    let z = count_leading_zeros 64 w in
    let g = w / 2 ^ (63 - 2 * z) in
    let f = c.ranges.word.fits in
    let v = code_at w z g (leading_head w (omega arith) c.if-word-eq0.false) refl c.if-digits-gt32.false in
    subst (λ x. Begins w (w / 2 ^ (64 - (2 * z + g)) - x) (2 * z + g)) (sym v.shifted) v.begins
