use Rattle.std.proofs.Common.{◌≡◌, ◌+◌, ◌++◌, ◌∷◌, [], length, ◌∙◌, ap, subst, arith}
use Rattle.mt_text_spec.specs.Texts.{Row}
use Rattle.mt_cql.specs.Shape.{shape}
use Rattle.mt_segment_spec.specs.Tables.{first_place}
use Rattle.mt_eval.specs.Sequences.{SayFrom}
use Rattle.mt_eval.specs.Gapped.{AreMet, row_over}
use Rattle.mt_eval.proofs.GapRows.{as_row, no_row_over, one_row_over, width_is}
use Rattle.mt_eval.proofs.gapped.add_over.Goals as goal

pub returns-then-end-place-clause-ok : goal.returns-then-end-place-clause-ok
returns-then-end-place-clause-ok g c =
    let q = c.args.gapped.now in
    let b = c.text_bounds-first.ensures in
    let low = c.requires.gap.inside in
    no_row_over c.args.segment.now (shape q.expr.now) q.before.now q.gap.now q.after.now q.least q.most c.args.text c.requires.tests c.requires.text c.args.begin c.args.turns c.args.room c.args.out.now
    (λ tail some. let inside = tail.inside in absurd (omega (arith, inside, low, b.begin, b.end, c.if-end-place.true)))

pub returns-then-place-many-clause-ok : goal.returns-then-place-many-clause-ok
returns-then-place-many-clause-ok g c =
    let q = c.args.gapped.now in
    no_row_over c.args.segment.now (shape q.expr.now) q.before.now q.gap.now q.after.now q.least q.most c.args.text c.requires.tests c.requires.text c.args.begin c.args.turns c.args.room c.args.out.now
    (λ tail some. absurd (omega (arith, some, c.if-place-many.true)))

pub returns-then-not-say_from-clause-ok : goal.returns-then-not-say_from-clause-ok
returns-then-not-say_from-clause-ok g c =
    let T = c.args.segment.now in
    let q = c.args.gapped.now in
    let b = c.text_bounds-first.ensures in
    let at : first_place T c.args.text + (c.args.begin + length q.before.now + c.args.turns) ≡ c.text_bounds-first.result.0 + c.args.begin + length q.before.now + c.args.turns = omega (arith, b.begin) in
    no_row_over T (shape q.expr.now) q.before.now q.gap.now q.after.now q.least q.most c.args.text c.requires.tests c.requires.text c.args.begin c.args.turns c.args.room c.args.out.now
    (λ tail some. let e = c.say_from.ensures.say.1 (subst (SayFrom T q.after.now 0 (length q.after.now)) at tail.say) in let other = c.if-not-say_from.true in let f : ⊥ = cc in f)

pub returns-then-room-eq0-clause-more : goal.returns-then-room-eq0-clause-more
returns-then-room-eq0-clause-more g c = λ _.
    let T = c.args.segment.now in
    let q = c.args.gapped.now in
    let b = c.text_bounds-first.ensures in
    let low = c.requires.gap.inside in
    let at : c.text_bounds-first.result.0 + c.args.begin + length q.before.now + c.args.turns ≡ first_place T c.args.text + (c.args.begin + length q.before.now + c.args.turns) = omega (arith, b.begin) in
    let tail : AreMet T c.args.text q.after.now (c.args.begin + length q.before.now + c.args.turns) = record {
      inside = omega (arith, low, b.begin, b.end, c.if-end-place.false);
      say = subst (SayFrom T q.after.now 0 (length q.after.now)) at (c.say_from.ensures.say.0 c.if-not-say_from.false);
    } in (
      c.if-room-eq0.true,
      row_over (shape q.expr.now) c.args.turns c.args.text c.args.begin,
      as_row T (shape q.expr.now) q.before.now q.gap.now q.after.now q.least q.most c.args.text c.requires.tests c.requires.text c.args.begin c.args.turns c.requires.low c.requires.high c.requires.before c.requires.gap tail
          (omega (arith, c.if-place-many.false)),
    )

pub row_with-requires : goal.row_with-requires
row_with-requires g c =
    let q = c.args.gapped.now in
    let b = c.text_bounds-first.ensures in
    let low = c.requires.gap.inside in
    let wide = width_is c.args.segment.now (shape q.expr.now) q.before.now q.gap.now q.after.now q.least q.most c.args.text c.requires.tests c.requires.text c.args.turns in
    let end = c.text_bounds-first.ensures.within in
    let few = c.tokens-tokens.type_inv in
    omega (arith, wide, low, b.begin, b.end, end, few, c.tokens-tokens.ensures.count, c.if-end-place.false)

pub returns-clause-ok : goal.returns-clause-ok
returns-clause-ok g c =
    let T = c.args.segment.now in
    let q = c.args.gapped.now in
    let b = c.text_bounds-first.ensures in
    let low = c.requires.gap.inside in
    let at : c.text_bounds-first.result.0 + c.args.begin + length q.before.now + c.args.turns ≡ first_place T c.args.text + (c.args.begin + length q.before.now + c.args.turns) = omega (arith, b.begin) in
    let tail : AreMet T c.args.text q.after.now (c.args.begin + length q.before.now + c.args.turns) = record {
      inside = omega (arith, low, b.begin, b.end, c.if-end-place.false);
      say = subst (SayFrom T q.after.now 0 (length q.after.now)) at (c.say_from.ensures.say.0 c.if-not-say_from.false);
    } in
    one_row_over T (shape q.expr.now) q.before.now q.gap.now q.after.now q.least q.most c.args.text c.requires.tests c.requires.text c.args.begin c.args.turns c.args.room c.args.out.now c.push.new.self
    (as_row T (shape q.expr.now) q.before.now q.gap.now q.after.now q.least q.most c.args.text c.requires.tests c.requires.text c.args.begin c.args.turns c.requires.low c.requires.high c.requires.before c.requires.gap tail
    (omega (arith, c.if-place-many.false))) (omega (arith, c.if-room-eq0.false)) (c.in_ok-push.ensures.ok ∙ ap (λ (row : Row). c.args.out.now ++ row ∷ []) c.row_with.ensures)
