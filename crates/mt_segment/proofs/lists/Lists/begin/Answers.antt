use Rattle.std.proofs.Common.{rules, ◌≡◌, ℕ, [], ◌∷◌, ◌++◌, length, ◌∙◌, ap}
use Rattle.mt_segment.specs.Lists.{parts}
use Rattle.mt_segment.proofs.Blocks.{begins_push, parts_begin}
use Rattle.mt_segment.proofs.lists.Lists.begin.Goals as goal

pub invariant_of-self-2 : goal.invariant_of-self-2
invariant_of-self-2 g c =
    let long : c.len-begin.result ≡ length c.self.inside.items.items = search rules in
    rw (c.in_ok-push.ensures.items, long) (begins_push 0 (length c.self.inside.items.items) c.self.inside.begins.items c.self.invariant)

pub returns-clause-ok : goal.returns-clause-ok
returns-clause-ok g c =
    let long : c.len-begin.result ≡ length c.self.inside.items.items = search rules in
    ap (parts c.self.inside.items.items) (c.in_ok-push.ensures.items ∙ ap (λ (n : ℕ). c.self.inside.begins.items ++ n ∷ []) long)
    ∙ parts_begin c.self.inside.items.items 0 c.self.inside.begins.items c.self.invariant
    ∙ ap (λ lists. lists ++ [] ∷ []) c.self.view_is
