use Rattle.std.proofs.Common.{◌≡◌, ℕ, ◌+◌, ◌-◌, ◌*◌, ◌<◌, false, get_or, sym, ◌∙◌, ap, subst, arith}
use Rattle.mt_prepare.specs.TestRows.{IsSoughtAt}
use Rattle.mt_prepare.proofs.Gathering.{Gathered, one_gathered}
use Rattle.mt_prepare.proofs.column_rows.word_of.Goals as goal

pub loop-place-preserved : goal.loop-place-preserved
loop-place-preserved g c =
    let h = c.loop-place.invariant in
    let place = c.loop-place.place - 1 in
    let column = c.args.column.now in
    let sought = c.args.sought.now in
    let P : ℕ → Type 0 = λ (k : ℕ). (k < c.args.tokens) × IsSoughtAt column sought k in
    let e : get_or sought c.get-number.result false ≡ get_or sought (get_or column place 0) false = ap (λ (n : ℕ). get_or sought n false) c.get-number.ensures.number in
    let next : c.loop-place.place ≡ place + 1 = omega (arith, c.loop-place-test.true) in
    record {
      from = omega (arith, c.loop-place-test.true);
      within = omega (arith, h.within);
      near = omega (arith, h.near);
      word = one_gathered P place (64 * c.args.at + 64) c.loop-place.word (get_or sought c.get-number.result false) (omega (arith, c.loop-place-test.true))
          (λ on. (omega (arith, h.within, c.loop-place-test.true), sym e ∙ on)) (λ p. e ∙ p.1)
          (subst (λ (k : ℕ). Gathered P k (64 * c.args.at + 64) c.loop-place.word) next h.word);
      rises = omega (arith, h.rises, c.get-number.ensures.tick);
    }
