use Rattle.std.proofs.Common.{ℕ, nat_eq, ap, ◌∙◌}
use Rattle.mt_rows.proofs.Nine.{nine_length}
use Rattle.mt_rows.proofs.label_sets.LabelSets.is_empty.Goals as goal

pub returns : goal.returns
returns c = rw (← c.self.view_is, nine_length c.self.inside.pairs.items c.self.inside.others.items) (c.is_empty.ensures ∙ ap (λ (n : ℕ). nat_eq n 0) c.self.inside.pairs.ok.0)
