use Rattle.std.proofs.Common.{◌≡◌, suc, refl, sym, ◌∙◌, ◌-◌, arith}
use Rattle.mt_eval.proofs.Distinct.{differ_on, repeated, all_differ}
use Rattle.mt_eval.proofs.query_spans.are_distinct.Goals as goal

pub returns-then-are_same : goal.returns-then-are_same
returns-then-are_same c =
    let next : c.loop-i.i ≡ suc (c.loop-i.i - 1) = omega (arith, c.loop-i.auto.i) in (
      λ wrong. cc,
      λ s. absurd (repeated c.args.rows.now c.loop-i.i (c.loop-i.i - 1) c.span-span.result c.span-before.result next (omega (arith, c.loop-i-test.true, c.loop-i.auto.i-end, c.len-i-end.ensures.count))
          c.span-span.ensures c.span-before.ensures (sym c.are_same.ensures ∙ c.if-are_same.true) s),
    )

pub loop-i-preserved : goal.loop-i-preserved
loop-i-preserved c =
    let next : c.loop-i.i ≡ suc (c.loop-i.i - 1) = omega (arith, c.loop-i.auto.i) in
    differ_on c.args.rows.now c.loop-i.i (c.loop-i.i - 1) c.span-span.result c.span-before.result next c.span-span.ensures c.span-before.ensures (sym c.are_same.ensures ∙ c.if-are_same.false) c.loop-i.invariant

pub returns : goal.returns
returns c = (λ t. all_differ c.args.rows.now c.loop-i.i c.len-i-end.ensures.ascending (λ more. omega (arith, more, c.loop-i-test.false, c.loop-i.auto.i-end, c.len-i-end.ensures.count)) c.loop-i.invariant, λ s. refl)
