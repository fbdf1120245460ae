use Rattle.std.proofs.Common.{◌≡◌, ◌+◌, ◌/◌, ◌∙◌, length, arith}
use Rattle.mt_shapes.proofs.instances.rows_of_instances.Goals as goal

pub rows_of_begins-result-requires-clause-all : goal.rows_of_begins-result-requires-clause-all
rows_of_begins-result-requires-clause-all g c = λ b e longer.
    let some = longer.some in
    let far = longer.within in
    let last = c.tokens-last.ensures.is in
    let wide : length c.put.new.self ≡ c.tokens-last.result / 64 + 1 = c.put.ensures.width ∙ c.in_ok-begins.ensures.width in
    c.put.ensures.places.complete b (omega (arith, some, far), (e, longer.lies)) (omega (arith, some, far, last, wide))

pub rows_of_begins-result-requires-clause-inside : goal.rows_of_begins-result-requires-clause-inside
rows_of_begins-result-requires-clause-inside g c = λ b is.
    let s = c.put.ensures.places.sound b is in
    s.0
