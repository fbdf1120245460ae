-- What the parts of a query that were read stand for, and what is answered.
use Rattle.std.specs.Prelude.{◌≡◌, ◌+◌, map, Result, Ok, Err}
use Rattle.mt_text_spec.specs.Queries as q
use Rattle.mt_cql.specs.declared.query.FilterKind.{FilterKind}
use Rattle.mt_cql.specs.declared.query.Filter.{Filter, out-Filter}
use Rattle.mt_cql.specs.declared.query.Query.{Query}
use Rattle.mt_cql.specs.declared.query.Cause.{Cause}
use Rattle.mt_cql.specs.declared.query.Cause.TheVariants as cause
use Rattle.mt_cql.specs.declared.query.QueryError.{QueryError}
use Rattle.mt_cql.specs.declared.query.QueryError.TheVariants as error
use Rattle.mt_cql.specs.declared.parts.Label.{Label}
use Rattle.mt_cql.specs.declared.parts.Label.TheVariants as labels
use Rattle.mt_cql.specs.declared.parts.OperandPart.{OperandPart}
use Rattle.mt_cql.specs.declared.parts.FiltersPart.{FiltersPart}
use Rattle.mt_cql.specs.declared.parts.CondsPart.{CondsPart}
use Rattle.mt_query_spec.specs.Trees as tree
use Rattle.mt_query_spec.specs.Meaning as meaning
use Rattle.mt_query_spec.specs.Verdicts as v
use Rattle.mt_cql.specs.declared.parts.TestPart.{TestPart}
use Rattle.mt_cql.specs.declared.parts.Faults.{Faults}
use Rattle.mt_cql.specs.declared.parts.Part.{Part}
use Rattle.mt_query_laws.specs.Parts as p
use Rattle.mt_cql.specs.Shape.{test_shape, shape, kind_shape, filters_shape}

-- the cause that a cause of the program stands for
abbrev pub cause_seen : Cause → v.Cause
cause_seen cause.Token = v.NoQuery
cause_seen cause.String = v.NoStringEnd
cause_seen cause.Char = v.NoTokenBegins
cause_seen cause.Range = v.Range
cause_seen cause.Label = v.BadLabel

-- what the program answers is what is said of a text, unless memory runs out
abbrev pub Said : Result Query QueryError → Result q.Query v.Refusal → Type 0
Said (Ok query) said = said ≡ Ok query
Said (Err (error.Syntax at cause)) said = said ≡ Err (v.Syntax at (cause_seen cause))
Said (Err (error.Unknown at)) said = said ≡ Err (v.Unknown at)
Said (Err error.TooLarge) said = said ≡ Err v.TooLarge
Said (Err error.NoMemory) said = Unit {0}

-- ## What was read

abbrev pub test_part_seen : TestPart → p.TestPart
test_part_seen part = record { test = test_shape part.test; unknown = part.unknown; nodes = part.nodes }

-- what is at fault in two parts, one before the other
abbrev pub joined : Faults → Faults → Faults
joined left right = record {
  label = meaning.least_of left.label right.label;
  range = meaning.least_of left.range right.range;
  unknown = meaning.first_of left.unknown right.unknown;
  nodes = p.capped (left.nodes + right.nodes);
  size = p.capped (left.size + right.size);
}

abbrev pub part_seen : Part → p.Part
part_seen part = record {
  expr = shape part.expr;
  labels = part.labels;
  label = part.faults.label;
  range = part.faults.range;
  unknown = part.faults.unknown;
  nodes = part.faults.nodes;
  size = part.faults.size;
}

abbrev pub label_seen : Label → tree.Label
label_seen labels.NoLabel = tree.NoLabel
label_seen (labels.Labelled at number) = tree.Labelled at number

abbrev pub filter_seen : Filter → meaning.FilterOf
filter_seen filter = record { kind = kind_shape (out-Filter filter).kind; head = shape (out-Filter filter).head; filters = filters_shape (out-Filter filter).filters }

abbrev pub operand_seen : OperandPart → p.OperandPart
operand_seen part = record {
  head = shape part.head;
  filters = filters_shape part.filters;
  label = part.faults.label;
  range = part.faults.range;
  unknown = part.faults.unknown;
  nodes = part.faults.nodes;
  size = part.faults.size;
}

abbrev pub filters_seen : FiltersPart → p.FiltersPart
filters_seen part = record {
  filters = map filter_seen part.filters;
  label = part.faults.label;
  range = part.faults.range;
  unknown = part.faults.unknown;
  nodes = part.faults.nodes;
  size = part.faults.size;
}

abbrev pub conds_seen : CondsPart → p.CondsPart
conds_seen part = record { conds = part.conds; label = part.label; unknown = part.unknown; nodes = part.nodes }

abbrev pub op_seen : FilterKind → q.FilterKind
op_seen kind = kind_shape kind
