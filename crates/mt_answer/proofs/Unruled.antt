-- What is told where bytes are no grammar.
use Rattle.std.proofs.Common.{ℕ, List, refl}
use Rattle.mt_text_spec.specs.Registries.{Registry}
use Rattle.mt_session_spec.specs.Ruling.{BadLine, Unrelated}
use Rattle.mt_query_spec.specs.Verdicts as verdict
use Rattle.mt_cql.specs.Read.{cause_seen}
use Rattle.mt_cql.specs.declared.query.QueryError.TheVariants as query
use Rattle.mt_grammar_spec.specs.GrammarFile.{NoQuery}
use Rattle.mt_grammar.specs.Errors.{IsRefusal, line_cause_seen}
use Rattle.mt_grammar.specs.declared.error.GrammarError.{GrammarError}
use Rattle.mt_grammar.specs.declared.error.GrammarError.TheVariants as grammar
use Rattle.mt_answer.specs.Declines.{IsUnruled}
use Rattle.mt_answer.specs.Errors.{unruled_by}

pub unruled : (error : GrammarError) (registry : Registry) (bytes : List ℕ) → IsRefusal registry bytes error → IsUnruled registry bytes (unruled_by error)
unruled (grammar.Line line cause) registry bytes fault = BadLine bytes line (line_cause_seen cause) refl fault
unruled (grammar.Query line query.TooLarge) registry bytes fault = BadLine bytes line (NoQuery verdict.TooLarge) refl fault
unruled (grammar.Query line (query.Syntax at cause)) registry bytes fault = BadLine bytes line (NoQuery (verdict.Syntax at (cause_seen cause))) refl fault
unruled (grammar.Query line (query.Unknown at)) registry bytes fault = BadLine bytes line (NoQuery (verdict.Unknown at)) refl fault
unruled (grammar.Query line query.NoMemory) registry bytes fault = tt
unruled grammar.NoRelation registry bytes lacks = Unrelated bytes refl lacks
unruled grammar.NoMemory registry bytes fault = tt
