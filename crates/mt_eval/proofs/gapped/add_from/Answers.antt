use Rattle.std.proofs.Common.{◌≡◌, ◌+◌, length, subst, arith}
use Rattle.mt_cql.specs.Shape.{shape}
use Rattle.mt_segment_spec.specs.Tables.{first_place}
use Rattle.mt_eval.specs.Sequences.{SayFrom}
use Rattle.mt_eval.proofs.GapRows.{no_row_from}
use Rattle.mt_eval.proofs.gapped.add_from.Goals as goal

pub returns-then-end-first-clause-ok : goal.returns-then-end-first-clause-ok
returns-then-end-first-clause-ok g c =
    let q = c.args.gapped.now in
    let low = c.requires.inside in
    no_row_from c.args.segment.now (shape q.expr.now) q.before.now q.gap.now q.after.now q.least q.most c.args.text c.requires.tests c.requires.text c.args.begin c.args.room c.args.out.now
    (λ head. let inside = head.inside in absurd (omega (arith, inside, low, c.requires.first, c.requires.end, c.if-end-first.true)))

pub returns-then-not-say_from-clause-ok : goal.returns-then-not-say_from-clause-ok
returns-then-not-say_from-clause-ok g c =
    let T = c.args.segment.now in
    let q = c.args.gapped.now in
    let at : first_place T c.args.text + c.args.begin ≡ c.args.first + c.args.begin = omega (arith, c.requires.first) in
    no_row_from T (shape q.expr.now) q.before.now q.gap.now q.after.now q.least q.most c.args.text c.requires.tests c.requires.text c.args.begin c.args.room c.args.out.now
    (λ head. let e = c.say_from.ensures.say.1 (subst (SayFrom T q.before.now 0 (length q.before.now)) at head.say) in let other = c.if-not-say_from.true in let f : ⊥ = cc in f)
