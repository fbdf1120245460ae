use Rattle.std.proofs.Common.{◌≡◌, ◌+◌, ◌*◌, ◌^◌, ◌<◌, ◌%◌, sym, ap, ◌∙◌, arith, subst}
use Rattle.std.proofs.lemmas.Nat.{shl_whole}
use Rattle.mt_store_spec.specs.Codes.{digits}
use Rattle.mt_postings.proofs.Deltas.{delta_digits, delta_fits, pow_more}
use Rattle.mt_postings.proofs.writer.delta_word.Goals as goal

pub returns-clause-code : goal.returns-clause-code
returns-clause-code c =
    let low = c.ilog2-low.result in
    let zeros = c.ilog2-zeros.result in
    let two = pow_more low in
    let zs = pow_more zeros in
    let whole : low * 2 ^ low % 2 ^ 64 ≡ low * 2 ^ low = shl_whole low 32 low 64 (omega arith) (omega arith) in
    ap (λ x. digits (2 * zeros + 1 + low) (x + c.args.n)) whole ∙ sym (delta_digits low zeros c.args.n c.ilog2-low.ensures.power_le (omega arith) c.ilog2-zeros.ensures.power_le (omega arith))

pub returns-clause-fits : goal.returns-clause-fits
returns-clause-fits c =
    let low = c.ilog2-low.result in
    let zeros = c.ilog2-zeros.result in
    let two = pow_more low in
    let zs = pow_more zeros in
    let whole : low * 2 ^ low % 2 ^ 64 ≡ low * 2 ^ low = shl_whole low 32 low 64 (omega arith) (omega arith) in
    let fits = delta_fits low zeros c.args.n c.ilog2-low.ensures.bound c.ilog2-low.ensures.power_le (omega arith) c.ilog2-zeros.ensures.power_le (omega arith) in
    subst (λ x. x + c.args.n < 2 ^ (2 * zeros + 1 + low)) (sym whole) fits.1

pub returns-clause-length : goal.returns-clause-length
returns-clause-length c =
    let low = c.ilog2-low.result in
    let zeros = c.ilog2-zeros.result in
    let two = pow_more low in
    let zs = pow_more zeros in
    let fits = delta_fits low zeros c.args.n c.ilog2-low.ensures.bound c.ilog2-low.ensures.power_le (omega arith) c.ilog2-zeros.ensures.power_le (omega arith) in
    let few = fits.0 in
    let below = c.ilog2-low.ensures.bound in
    omega arith
