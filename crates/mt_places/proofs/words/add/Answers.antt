use Rattle.std.proofs.Common.{ℕ, ◌⊎◌, get_or, arith}
use Rattle.mt_places.specs.Places.{In}
use Rattle.mt_places.proofs.Bits.{just, one_more, rest_above, first_word, either_word}
use Rattle.mt_places.proofs.words.add.Goals as goal

pub loop-at-preserved : goal.loop-at-preserved
loop-at-preserved g c =
    let h = c.loop-at.invariant in
    let first = c.args.set.now in
    let at = c.loop-at.at in
    let stands = g.M.Marks.stands c.args.marks.now in
    record {
      done = one_more (λ (k : ℕ). In first k ⊎ g.M.Marks.stands c.args.marks.now k) c.loop-at.set at _ (omega arith) h.done
          (either_word (In first) stands at (get_or c.loop-at.set at 0) c.word.result (first_word first at (get_or c.loop-at.set at 0) (h.rest at (omega arith))) c.word.ensures);
      rest = rest_above c.loop-at.set first at _ h.rest;
    }

pub returns : goal.returns
returns g c =
    let first = c.args.set.now in
    just (λ (k : ℕ). In first k ⊎ g.M.Marks.stands c.args.marks.now k) c.loop-at.set (λ j lt. c.loop-at.invariant.done j (omega arith))
