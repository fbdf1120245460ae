-- The last list has the instances of the kind among those so far.
use Rattle.std.proofs.Common.{◌≡◌, [], ◌∷◌, ◌++◌, take}
use Rattle.std.specs.List.{filter}
use Rattle.mt_segment_spec.specs.Tables.{is_of_kind}
use Rattle.mt_vertical_tables.proofs.outline.add_kind.Given as goal

abbrev pub invariant-loop-span : goal.invariant-loop-span
invariant-loop-span l = l.all ≡ l.fn.all ++ filter (is_of_kind l.kind) (take l.span-index l.structs) ∷ []
