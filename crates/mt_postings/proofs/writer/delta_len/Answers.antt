use Rattle.std.proofs.Common.{◌≡◌, ◌+◌, ◌*◌, sym, ap, ◌∙◌, arith}
use Rattle.mt_store_spec.specs.Codes.{log2}
use Rattle.mt_postings.proofs.Deltas.{delta_fits, length-delta, log2_is, pow_more}
use Rattle.mt_postings.proofs.writer.delta_len.Goals as goal

pub returns-clause-exact : goal.returns-clause-exact
returns-clause-exact c =
    let low = c.ilog2-low.result in
    let zeros = c.ilog2.result in
    let two = pow_more low in
    let zs = pow_more zeros in
    let l : log2 c.args.n ≡ low = log2_is low c.args.n c.ilog2-low.ensures.power_le (omega arith) in
    let z : log2 (low + 1) ≡ zeros = log2_is zeros (low + 1) c.ilog2.ensures.power_le (omega arith) in
    sym (length-delta c.args.n ∙ ap (λ x. 2 * log2 (x + 1) + 1 + x) l ∙ ap (λ x. 2 * x + 1 + low) z)

pub returns-clause-most : goal.returns-clause-most
returns-clause-most c =
    let low = c.ilog2-low.result in
    let zeros = c.ilog2.result in
    let two = pow_more low in
    let zs = pow_more zeros in
    let fits = delta_fits low zeros c.args.n c.ilog2-low.ensures.bound c.ilog2-low.ensures.power_le (omega arith) c.ilog2.ensures.power_le (omega arith) in
    let few = fits.0 in
    let below = c.ilog2-low.ensures.bound in
    omega arith
