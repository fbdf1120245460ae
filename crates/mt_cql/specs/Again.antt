-- What is read of a printed query.
use Rattle.std.specs.Prelude.{◌≡◌, Result, Ok, Err}
use Rattle.mt_text_spec.specs.Queries as q
use Rattle.mt_cql.specs.declared.query.Query.{Query}
use Rattle.mt_cql.specs.declared.query.QueryError.{QueryError}
use Rattle.mt_cql.specs.declared.query.QueryError.TheVariants as error

-- the answer is this query, or out of memory
abbrev pub IsAgain : q.Query → Result Query QueryError → Type 0
IsAgain query (Ok again) = again ≡ query
IsAgain query (Err e) = e ≡ error.NoMemory
