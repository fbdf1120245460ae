use Rattle.std.proofs.Common.{rules, ◌≡◌, length, sym, ◌∙◌, ap}
use Rattle.mt_segment.proofs.Blocks.{length-parts}
use Rattle.mt_segment.proofs.lists.Lists.len.Goals as goal

pub returns : goal.returns
returns g c =
    let long : length c.self.inside.begins.items ≡ length c.args.self.now = sym (length-parts c.self.inside.items.items c.self.inside.begins.items) ∙ ap length c.self.view_is in
    search rules
