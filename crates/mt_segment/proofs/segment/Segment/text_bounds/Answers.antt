use Rattle.std.proofs.Common.{◌≡◌, ◌+◌, ◌∷◌, ℕ, List, length, get_or, ap, ◌∙◌, subst, arith}
use Rattle.mt_segment_spec.specs.Tables.{AreTables, first_place}
use Rattle.mt_segment.specs.Lists.{groups}
use Rattle.mt_segment.proofs.Lookups.{begins_there, ends_there, place_fits, within_all}
use Rattle.mt_segment.proofs.segment.Segment.text_bounds.Goals as goal
use Rattle.mt_segment.proofs.segment.Segment.text_bounds.Goals.{After-get}

-- where the text ends
end_is : (c : After-get) → c.begin_of-begin.result + c.get.result.now.1 ≡ first_place c.args.self.now (c.args.i + 1)
end_is c =
    ends_there (record { texts = c.self.inside.texts; attrs = c.self.inside.attrs; structs = groups (length c.self.inside.texts) c.self.inside.kinds c.self.inside.structs }) c.args.self.now c.args.i c.begin_of-begin.result c.get.result.now c.self.view_is c.requires
    (begins_there (record { texts = c.self.inside.texts; attrs = c.self.inside.attrs; structs = groups (length c.self.inside.texts) c.self.inside.kinds c.self.inside.structs }) c.args.self.now c.self.inside.ends.items c.args.i c.begin_of-begin.result
    c.self.view_is c.self.invariant.1 c.requires (c.begin_of-begin.ensures ∙ ap (λ (ends : List ℕ). get_or (0 ∷ ends) c.args.i 0) c.as_slice.ensures.value))
    c.get.ensures

pub overflow_add-result : goal.overflow_add-result
overflow_add-result c =
    omega (arith, end_is (goal.at.overflow_add-result c).After-get, place_fits c.args.self.now (c.args.i + 1) (subst AreTables c.self.view_is c.self.invariant.0))

pub returns-clause-within : goal.returns-clause-within
returns-clause-within c = omega (arith, end_is (goal.at.returns-clause-within c).After-get, within_all c.args.self.now (c.args.i + 1))
