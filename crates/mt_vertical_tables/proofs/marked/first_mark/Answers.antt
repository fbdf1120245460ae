use Rattle.std.proofs.Common.{arith, w64}
use Rattle.std.proofs.lemmas.Nat.Bits.{bit_at-trailing_zeros}
use Rattle.mt_vertical_tables.proofs.Marks.{none_found, one_found}
use Rattle.mt_vertical_tables.proofs.marked.first_mark.Goals as goal

pub returns-then-place-end : goal.returns-then-place-end
returns-then-place-end c = λ byte bytes m within.
    let h = bit_at-trailing_zeros w64 c.args.marks (omega (arith, c.if-marks-eq0.false)) c.ranges.marks.fits in
    one_found byte bytes c.args.marks c.args.end _ m c.requires within c.if-place-end.true h.1 h.2

pub returns-else-place-end : goal.returns-else-place-end
returns-else-place-end c = λ byte bytes m within.
    let h = bit_at-trailing_zeros w64 c.args.marks (omega (arith, c.if-marks-eq0.false)) c.ranges.marks.fits in
    none_found byte bytes c.args.marks c.args.end m c.requires within (λ k l. h.2 k (omega (arith, l, c.if-place-end.false)))
