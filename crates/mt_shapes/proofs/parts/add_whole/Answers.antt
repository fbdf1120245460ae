use Rattle.std.proofs.Common.{◌≡◌, ◌+◌, ◌/◌, ◌∙◌, length, ap, arith}
use Rattle.mt_shapes.specs.declared.shape.Shape.{Shape}
use Rattle.mt_shapes.proofs.Whole.{empty_inside, whole}
use Rattle.mt_shapes.proofs.parts.add_whole.Goals as goal

pub add_marked-requires-clause-inside : goal.add_marked-requires-clause-inside
add_marked-requires-clause-inside g c = λ b lies.
    let low = empty_inside (g.V.View.seen c.args.view.now) c.args.tag c.args.last c.requires.last c.requires.inside b lies in
    let none = ap (λ (x : Shape). x.length) c.plain.ensures in
    omega (arith, low, none)

pub add_longer-requires-clause-all : goal.add_longer-requires-clause-all
add_longer-requires-clause-all g c = λ b e longer.
    let some = longer.some in
    let far = longer.within in
    let wide : length c.put.new.self ≡ c.args.last / 64 + 1 = c.put.ensures.width ∙ c.in_ok-begins.ensures.width in
    c.put.ensures.places.complete b (omega (arith, some, far), (e, longer.lies)) (omega (arith, some, far, c.requires.last, wide))

pub add_longer-requires-clause-inside : goal.add_longer-requires-clause-inside
add_longer-requires-clause-inside g c = λ b is.
    let s = c.put.ensures.places.sound b is in
    let low = s.0 in
    omega (arith, low, c.requires.last)

pub returns : goal.returns
returns g c =
    whole (g.V.View.seen c.args.view.now) c.args.tag c.args.last c.plain.result c.args.out.now.items c.add_marked.new.out.items c.add_longer.new.out.items c.requires.last c.requires.inside c.plain.ensures c.in_ok-add_marked.ensures
    c.in_ok-add_longer.ensures
