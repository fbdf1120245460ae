-- How many names a relation has.
use Rattle.std.specs.Prelude.{ℕ}
use Rattle.mt_text_spec.specs.Queries.{RelationKind, Plain, Dual, Symmetric, Trinary, Unary}

-- a dual relation has two names, and each other one
abbrev pub name_count : RelationKind → ℕ
name_count Plain = 1
name_count Dual = 2
name_count Symmetric = 1
name_count Trinary = 1
name_count Unary = 1
