-- What the parser promises.
use Rattle.std.specs.Prelude.{ℕ, List, Result, Ok, Err}
use Rattle.mt_text_spec.specs.Registries.{Registry}
use Rattle.mt_query_spec.specs.Verdicts as v
use Rattle.mt_cql.specs.declared.query.Query.{Query}
use Rattle.mt_cql.specs.declared.query.QueryError.{QueryError}
use Rattle.mt_cql.specs.declared.query.QueryError.TheVariants as error
use Rattle.mt_cql.specs.Read.{cause_seen}

-- The answer is what the text means under the registry, and a text means one thing alone. Only running out of memory says nothing of the text.
abbrev pub Answered : Registry → (default : ℕ) → (text : List ℕ) → Result Query QueryError → Type 0
Answered registry default text (Ok query) = v.Means registry default text (Ok query)
Answered registry default text (Err (error.Syntax at cause)) = v.Means registry default text (Err (v.Syntax at (cause_seen cause)))
Answered registry default text (Err (error.Unknown at)) = v.Means registry default text (Err (v.Unknown at))
Answered registry default text (Err error.TooLarge) = v.Means registry default text (Err v.TooLarge)
Answered registry default text (Err error.NoMemory) = Unit {0}
