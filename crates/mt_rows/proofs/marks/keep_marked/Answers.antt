use Rattle.std.proofs.Common.{◌<◌, false, length, arith}
use Rattle.mt_rows.proofs.Keeping.{keeping_take, keeping_skip, keeping_all}
use Rattle.mt_rows.proofs.marks.keep_marked.Goals.{then-marks-i, else-marks-i}
use Rattle.mt_rows.proofs.marks.keep_marked.Goals as goal

pub loop-i-preserved : goal.loop-i-preserved
loop-i-preserved g c =
    let marks = c.args.marks.now in
    let old = c.args.items.now.items in
    let now = c.loop-i.items.items in
    let k = c.loop-i.invariant in
    let inside : c.loop-i.i < length now = omega (arith, c.loop-i-test.true, c.len-i-end.ensures, k.long, c.args.items.now.ok.0) in
    elim c.if-marks-i.branch [
      | then-marks-i w ↦ rw (w.count-is) (keeping_take marks old now c.loop-i.count c.loop-i.i c.index.result.now false k inside c.requires c.index.ensures w.if-marks-i.true)
      | else-marks-i w ↦ rw (w.count-is) (keeping_skip marks old now c.loop-i.count c.loop-i.i c.index.result.now false k inside c.requires w.if-marks-i.false)
    ]

pub returns : goal.returns
returns g c =
    let k = c.loop-i.invariant in
    rw (c.truncate.ensures.items) (keeping_all c.args.marks.now c.args.items.now.items c.loop-i.items.items c.loop-i.count c.loop-i.i k (omega (arith, c.loop-i-test.false, c.len-i-end.ensures, k.long, c.args.items.now.ok.0)))
