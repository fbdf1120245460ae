-- What is read of a text that means a query.
use Rattle.std.proofs.Common.{◌≡◌, ℕ, List, Result, Ok, Err, refl}
use Rattle.mt_text_spec.specs.Registries.{Registry}
use Rattle.mt_text_spec.specs.Queries as q
use Rattle.mt_query_spec.specs.Verdicts as v
use Rattle.mt_cql.specs.declared.query.Query.{Query}
use Rattle.mt_cql.specs.declared.query.QueryError.{QueryError}
use Rattle.mt_cql.specs.declared.query.QueryError.TheVariants as error
use Rattle.mt_cql.specs.Read.{cause_seen}
use Rattle.mt_cql.specs.Answered.{Answered}
use Rattle.mt_cql.specs.Again.{IsAgain}

-- no text means two things
abbrev OneMeaning : Type 0
OneMeaning = (registry : Registry) (default : ℕ) (text : List ℕ) (said other : Result q.Query v.Refusal) → v.Means registry default text said → v.Means registry default text other → said ≡ other

module _ (one : OneMeaning) where
  -- the parser answers with the query that a text means, or is out of memory
  pub is_again : (registry : Registry) (default : ℕ) (text : List ℕ) (query : q.Query) (again : Result Query QueryError) →
      v.Means registry default text (Ok query) → Answered registry default text again → IsAgain query again
  is_again registry default text query (Ok read) m a = let e : Ok read ≡ Ok query = one registry default text _ _ a m in cc
  is_again registry default text query (Err (error.Syntax at cause)) m a = let e : Err (v.Syntax at (cause_seen cause)) ≡ Ok query = one registry default text _ _ a m in cc
  is_again registry default text query (Err (error.Unknown at)) m a = let e : Err (v.Unknown at) ≡ Ok query = one registry default text _ _ a m in cc
  is_again registry default text query (Err error.TooLarge) m a = let e : Err v.TooLarge ≡ Ok query = one registry default text _ _ a m in cc
  is_again registry default text query (Err error.NoMemory) m a = refl
