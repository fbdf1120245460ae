use Rattle.std.proofs.Common.{◌≡◌, ℕ, ◌+◌, ◌-◌, ◌*◌, ◌/◌, ◌%◌, ◌^◌, ◌<◌, arith, rules, ap, ◌∙◌, bit_and}
use Rattle.std.proofs.lemmas.Nat.{and_mask}
use Rattle.mt_prepare.proofs.Words.{moved_word}
use Rattle.mt_prepare.proofs.view.moved_word.Goals as goal

pub returns : goal.returns
returns c =
    let low : ℕ = c.word.result in
    let high : ℕ = c.word-2.result in
    let first : ℕ = c.args.first in
    let of_low : c.from-low.result ≡ low = c.from-low.ensures in
    let of_high : c.from-high.result ≡ high = c.from-high.ensures in
    let mask : c.from.result ≡ 2 ^ 64 - 1 = c.from.ensures in
    let fits : high < 2 ^ 64 = c.word-2.type_inv in
    let small : low < 2 ^ 64 = c.word.type_inv in
    let top : c.from-high.result * 18446744073709551616 % 340282366920938463463374607431768211456 + c.from-low.result ≡ high * 2 ^ 64 + low = omega (arith, of_low, of_high, fits) in
    moved_word c.args.row.now first c.args.at low high _ (search rules) (search rules) small
    (ap (bit_and ((c.from-high.result * 18446744073709551616 % 340282366920938463463374607431768211456 + c.from-low.result) / 2 ^ (first % 64))) mask ∙ and_mask ((c.from-high.result * 18446744073709551616 % 340282366920938463463374607431768211456 + c.from-low.result) / 2 ^ (first % 64)) 64
    ∙ ap (λ (x : ℕ). x / 2 ^ (first % 64) % 2 ^ 64) top)
