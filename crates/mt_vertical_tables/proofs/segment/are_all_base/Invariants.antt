-- The attributes so far are base attributes.
use Rattle.std.proofs.Common.{◌≡◌, None, take}
use Rattle.std.specs.List.{All}
use Rattle.mt_vertical_tables.proofs.segment.are_all_base.Given as goal

abbrev pub invariant-loop-attr : goal.invariant-loop-attr
invariant-loop-attr l = All (λ attr. attr.base ≡ None) (take l.attr-index l.attrs)
