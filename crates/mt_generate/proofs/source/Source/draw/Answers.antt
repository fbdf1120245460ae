use Rattle.std.proofs.Common.{◌∙◌, ap}
use Rattle.mt_generate_spec.specs.Generated.{token_at}
use Rattle.mt_generate.proofs.Draws.{behind_token, is_token, second_draw, third_draw}
use Rattle.mt_generate.proofs.source.Source.draw.Goals as goal

pub invariant_of-self : goal.invariant_of-self
invariant_of-self c =
    behind_token c.self.inside.seed c.self.inside.place c.self.inside.number _ _ _ c.self.invariant c.behind_draw-first.ensures (second_draw _ _ _ c.behind_draw-first.ensures c.behind_two-second.ensures) (third_draw _ _ _ _ c.behind_draw-first.ensures c.behind_two-second.ensures c.behind_three-third.ensures)

pub returns-clause-token : goal.returns-clause-token
returns-clause-token c =
    is_token c.self.inside.seed c.self.inside.place c.self.inside.number _ _ _ c.self.invariant c.behind_draw-first.ensures (second_draw _ _ _ c.behind_draw-first.ensures c.behind_two-second.ensures) (third_draw _ _ _ _ c.behind_draw-first.ensures c.behind_two-second.ensures c.behind_three-third.ensures)
    _ _ _ _ c.upper_bits.ensures c.upper_bits-2.ensures c.upper_bits-3.ensures c.rank.ensures.rank ∙ ap (λ s. token_at s.seed s.place) c.self.view_is
