use Rattle.std.proofs.Common.{◌<◌, ◌∙◌, refl, ap, sym, set, length, slice_get, true, arith}
use Rattle.mt_pattern.proofs.Bits.{length-marks, inserted, inserted_AreMarks, grown, room_left, set_again}
use Rattle.mt_pattern.proofs.id_set.IdSet.insert.Goals as goal

pub returns-then-has : goal.returns-then-has
returns-then-has c = set_again c.args.self.now c.args.id (c.if-has.ensures.0 refl)

pub overflow_add-self : goal.overflow_add-self
overflow_add-self c =
    let l : c.args.id < c.self.inside.count = omega (arith, length-marks c.self.inside.words 0 c.self.inside.count, ap length c.self.view_is) in
    omega (arith, room_left c.self.inside.words c.self.inside.count c.args.id c.self.inside.size l c.self.invariant.1 (λ on. let no = c.if-has.ensures.1 (ap (λ m. slice_get m c.args.id) (sym c.self.view_is) ∙ on) in cc))

pub set_bit-requires-clause-at : goal.set_bit-requires-clause-at
set_bit-requires-clause-at c =
    omega (arith, c.self.invariant.0.room, length-marks c.self.inside.words 0 c.self.inside.count, ap length c.self.view_is)

pub invariant_of-self : goal.invariant_of-self
invariant_of-self c =
    let l : c.args.id < c.self.inside.count = omega (arith, length-marks c.self.inside.words 0 c.self.inside.count, ap length c.self.view_is) in
    let with_bit = c.set_bit.ensures in (
      inserted_AreMarks c.self.inside.words _ c.self.inside.count c.args.id c.self.invariant.0 l with_bit,
      grown c.self.inside.words _ c.self.inside.count c.args.id c.self.inside.size c.self.invariant.0 l c.self.invariant.1
          (λ on. let no = c.if-has.ensures.1 (ap (λ m. slice_get m c.args.id) (sym c.self.view_is) ∙ on) in cc) with_bit,
    )

pub returns : goal.returns
returns c =
    let l : c.args.id < c.self.inside.count = omega (arith, length-marks c.self.inside.words 0 c.self.inside.count, ap length c.self.view_is) in
    inserted c.self.inside.words _ c.self.inside.count c.args.id c.self.invariant.0 l
    c.set_bit.ensures
    ∙ ap (λ marks. set marks c.args.id true) c.self.view_is
