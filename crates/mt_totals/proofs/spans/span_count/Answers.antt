use Rattle.std.proofs.Common.{◌≡◌, ◌∙◌, arith, length, sym}
use Rattle.mt_totals.proofs.SpanCounts.{counted, none, at_first, repeated, another, at_end, same, some_rows, differ, are_same}
use Rattle.mt_totals.proofs.spans.span_count.Goals as goal
use Rattle.mt_totals.proofs.spans.span_count.Goals.{then-ne, else-ne}

pub returns-then-is_empty : goal.returns-then-is_empty
returns-then-is_empty c = none c.args.rows.now (sym c.is_empty.ensures ∙ c.if-is_empty.true)

pub loop-i-init : goal.loop-i-init
loop-i-init c = record { counted = at_first c.args.rows.now c.span-last.result c.span-last.ensures; few = omega arith }

pub loop-i-preserved : goal.loop-i-preserved
loop-i-preserved c = elim c.if-ne.branch [
  | then-ne w ↦
      let e = another c.args.rows.now c.loop-i.i c.loop-i.last c.span-span.result c.span-span.ensures (differ (same c.span-span.result c.loop-i.last) w.if-ne.ensures) in
      let f = c.loop-i.invariant.counted in
      rw (w.last-is, w.count-is) (record { counted = omega (arith, e, f); few = omega (arith, c.loop-i.invariant.few) })
  | else-ne w ↦
      let e = repeated c.args.rows.now c.loop-i.i c.loop-i.last c.span-span.result c.span-span.ensures (are_same (same c.span-span.result c.loop-i.last) w.if-ne.ensures) in
      let f = c.loop-i.invariant.counted in
      rw (w.last-is, w.count-is) (record { counted = omega (arith, e, f); few = omega (arith, c.loop-i.invariant.few) })
]

pub returns : goal.returns
returns c =
    let some = some_rows c.args.rows.now (sym c.is_empty.ensures ∙ c.if-is_empty.false) in
    let full : c.loop-i.i ≡ length c.args.rows.now = omega (arith, some, c.len-i-end.ensures.count, c.loop-i-test.false, c.loop-i.auto.i-end) in
    let e = at_end c.args.rows.now c.loop-i.i c.loop-i.last full in
    let f = c.loop-i.invariant.counted in
    counted c.args.rows.now c.loop-i.count c.len-i-end.ensures.ascending (omega (arith, e, f))
