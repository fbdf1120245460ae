-- What is computed of a text is what the parser promises of it.
use Rattle.std.specs.Prelude.{IfOk}
use Rattle.std.proofs.Common.{ℕ, ◌≡◌, false, List, length, Result, Ok, Err, refl, ◌∙◌, subst}
use Rattle.mt_text_spec.specs.Registries.{Registry}
use Rattle.mt_query_spec.specs.Tokens.{tokens_of}
use Rattle.mt_text_spec.specs.Queries as q
use Rattle.mt_query_spec.specs.Verdicts.{is_too_long, Means}
use Rattle.mt_query_spec.specs.Valid.{ValidQuery}
use Rattle.mt_cql.specs.declared.query.Query.{Query}
use Rattle.mt_cql.specs.declared.query.QueryError.{QueryError}
use Rattle.mt_cql.specs.declared.query.QueryError.TheVariants.{Syntax, Unknown, TooLarge, NoMemory}
use Rattle.mt_cql.specs.Answered.{Answered}
use Rattle.mt_cql.specs.Read.{Said}
use Rattle.mt_query_laws.specs.Reading.{Answer, answer, read}

module _ (registry : Registry) (default : ℕ) (text : List ℕ) (answer_means : Means registry default text (answer registry default text)) where
  answer_is : is_too_long text ≡ false → answer registry default text ≡ read registry default (tokens_of text) (length text)
  unfolding answer
  answer_is short = rw short refl

  meant : (said : Answer) → is_too_long text ≡ false → read registry default (tokens_of text) (length text) ≡ said → Means registry default text said
  meant said short h = subst (λ x. Means registry default text x) (answer_is short ∙ h) answer_means

  pub answered : (result : Result Query QueryError) → is_too_long text ≡ false → Said result (read registry default (tokens_of text) (length text)) → Answered registry default text result
  answered (Ok query) short h = meant _ short h
  answered (Err (Syntax at cause)) short h = meant _ short h
  answered (Err (Unknown at)) short h = meant _ short h
  answered (Err TooLarge) short h = meant _ short h
  answered (Err NoMemory) short h = tt

-- what is read is valid, where each query is that the text means
pub valid_if_read : (registry : Registry) (default : ℕ) (text : List ℕ) → ((query : q.Query) → Means registry default text (Ok query) → ValidQuery registry query)
    → (result : Result Query QueryError) → Answered registry default text result → IfOk result (λ query. ValidQuery registry query)
valid_if_read registry default text law (Ok query) h = law query h
valid_if_read registry default text law (Err e) h = tt
