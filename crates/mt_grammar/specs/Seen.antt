-- What contracts see of the kind of a relation.
use Rattle.mt_text_spec.specs.Queries as q
use Rattle.mt_grammar.specs.declared.kind.RelationKind.{RelationKind}
use Rattle.mt_grammar.specs.declared.kind.RelationKind.TheVariants as rust

-- the kind that is told
abbrev pub kind_seen : RelationKind → q.RelationKind
kind_seen rust.Plain = q.Plain
kind_seen rust.Dual = q.Dual
kind_seen rust.Symmetric = q.Symmetric
kind_seen rust.Trinary = q.Trinary
kind_seen rust.Unary = q.Unary
