use Rattle.std.proofs.Common.{◌+◌, ◌-◌, length, take, drop, refl, ◌∙◌, ap, ap₂, arith}
use Rattle.std.specs.List.{flat_map}
use Rattle.mt_segment.specs.Lists.{parts}
use Rattle.mt_segment.proofs.Blocks.{length-parts, one_list}
use Rattle.mt_segment.proofs.lists.Lists.get.Goals as goal

pub overflow_add-number : goal.overflow_add-number
overflow_add-number g c =
    omega (arith, c.requires, ap length c.self.view_is, length-parts c.self.inside.items.items c.self.inside.begins.items, ap length c.as_slice-begins.ensures.value, c.as_slice-begins.type_inv.0)

pub returns : goal.returns
returns g c =
    c.between.ensures
    ∙ ap (λ lists. flat_map (λ list. list) (take (c.args.number + 1 - c.args.number) (drop c.args.number lists))) (ap₂ parts c.as_slice.ensures.value c.as_slice-begins.ensures.value ∙ c.self.view_is)
    ∙ one_list c.args.self.now c.args.number (c.args.number + 1) refl c.requires
