use Rattle.std.proofs.Common.{◌∙◌, arith}
use Rattle.mt_shapes.proofs.Bits.{in_room}
use Rattle.mt_tally.proofs.MetBegins.{none_met, not_met, one_met, all_met}
use Rattle.mt_tally.proofs.conds.put_met.Goals as goal
use Rattle.mt_tally.proofs.conds.put_met.Goals.{then-meets_all, else-meets_all}

pub loop-at-init : goal.loop-at-init
loop-at-init g c = record { width = c.clear.ensures.width ∙ c.requires.width; met = λ text is. none_met c.args.segment.now c.args.conds.now c.args.entry.now text c.clear.new.self c.clear.ensures.none; rises = omega arith }

pub insert-requires : goal.insert-requires
insert-requires g c =
    let low = in_room c.args.entry.now.begins c.in-Some.at c.in-Some.ensures.found.is_in in
    let wide = c.loop-at.invariant.width in
    omega (arith, low, wide)

pub loop-at-preserved : goal.loop-at-preserved
loop-at-preserved g c =
    let T = c.args.segment.now in
    let E = c.args.entry.now in
    let h = c.loop-at.invariant in
    let found = c.in-Some.ensures.found in
    let up = c.meets_all.ensures.rises in
    let was = h.rises in
    elim c.if-meets_all.branch [
      | then-meets_all w ↦ rw w.met-is (record {
        width = w.insert.ensures.width ∙ h.width;
        met = λ text is. one_met T c.args.conds.now E text c.loop-at.from c.in-Some.at c.loop-at.met w.insert.new.self h.width w.insert.ensures.width found ((c.meets_all.ensures.meets text is).0 w.if-meets_all.true) w.insert.ensures.places (h.met text is);
        rises = omega (arith, up, was);
      })
      | else-meets_all w ↦ rw w.met-is (record {
        width = h.width;
        met = λ text is. not_met T c.args.conds.now E text c.loop-at.from c.in-Some.at c.loop-at.met found (λ all. let t = (c.meets_all.ensures.meets text is).1 all in let f = w.if-meets_all.false in cc) (h.met text is);
        rises = omega (arith, up, was);
      })
    ]

pub loop-at-smaller : goal.loop-at-smaller
loop-at-smaller g c =
    let low = in_room c.args.entry.now.begins c.in-Some.at c.in-Some.ensures.found.is_in in
    let from = c.in-Some.ensures.found.from in
    omega (arith, low, from)

pub returns-clause-met : goal.returns-clause-met
returns-clause-met g c = λ text is. all_met c.args.segment.now c.args.conds.now c.args.entry.now text c.loop-at.from c.loop-at.met c.in_default.ensures.none (c.loop-at.invariant.met text is)
