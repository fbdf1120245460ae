-- The numbers of the tables of an attribute.
use Rattle.std.specs.Prelude.{ℕ, List, Option, None, Some}
use Rattle.mt_segment.specs.declared.table.Numbers.{Numbers}
use Rattle.mt_segment.specs.declared.table.Numbers.TheVariants.{Base, Mapped}

-- the base of the attribute
abbrev pub base_in : Numbers → Option ℕ
base_in (Base column) = None
base_in (Mapped base table) = Some base

-- the numbers as a list
abbrev pub numbers_in : Numbers → List ℕ
numbers_in (Base column) = column
numbers_in (Mapped base table) = table
