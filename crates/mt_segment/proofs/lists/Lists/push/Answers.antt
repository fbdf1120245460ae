use Rattle.std.proofs.Common.{[], ◌∷◌, ◌++◌, ◌≤◌, length, length-append, ◌∙◌, ap, arith}
use Rattle.mt_segment.specs.Lists.{parts}
use Rattle.mt_segment.proofs.Blocks.{farther, parts_push}
use Rattle.mt_segment.proofs.lists.Lists.push.Goals as goal

pub invariant_of-self : goal.invariant_of-self
invariant_of-self g c = rw c.in_err-reserve.ensures.items c.self.invariant

pub returns-clause-ok : goal.returns-clause-ok
returns-clause-ok g c = λ before last e.
    ap (λ items. parts items c.self.inside.begins.items) (c.push_reserved.ensures.items ∙ ap (λ items. items ++ c.args.item ∷ []) c.in_ok-reserve.ensures.items)
    ∙ parts_push c.self.inside.items.items c.args.item 0 c.self.inside.begins.items before last c.self.invariant (c.self.view_is ∙ e)

pub invariant_of-self-2 : goal.invariant_of-self-2
invariant_of-self-2 g c =
    let longer : length c.self.inside.items.items ≤ length (c.self.inside.items.items ++ c.args.item ∷ []) = omega (arith, length-append c.self.inside.items.items (c.args.item ∷ [])) in
    rw (c.push_reserved.ensures.items, c.in_ok-reserve.ensures.items)
    (farther 0 (length c.self.inside.items.items) (length (c.self.inside.items.items ++ c.args.item ∷ [])) c.self.inside.begins.items c.self.invariant longer)
