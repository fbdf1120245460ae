-- Why a question that has a query is not answered, and why a grammar is refused.
use Rattle.std.specs.Prelude.{ℕ, ◌≡◌, ◌⊎◌, List, ◌++◌, Option}
use Rattle.mt_text_spec.specs.Registries.{Registry}
use Rattle.mt_text_spec.specs.Queries.{Grammar}
use Rattle.mt_match_spec.specs.Values.{Images}
use Rattle.mt_corpus_spec.specs.Images.{Corpus, AreImagesBy}
use Rattle.mt_session_spec.specs.Scenes.{Scene}
use Rattle.mt_session_spec.specs.Refusals.{refusal_line, pattern_refused_line, no_memory_line}
use Rattle.mt_session_spec.specs.Checks.{Check, FirstStands}
use Rattle.mt_session_spec.specs.Asking.{IsNoQuery, query_checks, ExceptsQuery}
use Rattle.mt_session_spec.specs.Reporting.{report_checks, ExceptsReport}
use Rattle.mt_session_spec.specs.Ruling.{IsNoGrammar}
use Rattle.mt_answer.specs.declared.declined.Declined.{Declined}
use Rattle.mt_answer.specs.declared.declined.Declined.TheVariants.{Refused, PatternRefused, NoMemory}
use Rattle.mt_answer.specs.Refusals.{refusal_of}
use Rattle.mt_answer.specs.Replies.{seen, gained_of}

-- the line that tells why
abbrev pub declined_line : Declined → List ℕ
declined_line (Refused refusal) = refusal_line (refusal_of refusal)
declined_line (PatternRefused number) = pattern_refused_line number
declined_line NoMemory = no_memory_line

-- The text is no query under the registry, for the cause that is told, or memory ran out.
abbrev pub IsUnread : Registry → List ℕ → Declined → Type 0
IsUnread registry cql (Refused refusal) = (scene : Scene) → scene.registry ≡ registry → IsNoQuery scene cql (refusal_of refusal)
IsUnread registry cql (PatternRefused number) = ⊥
IsUnread registry cql NoMemory = Unit {0}

-- A refusal is that of the first of these checks that stands, or one that may come in its place; so is the line on a pattern that the shop refused.
abbrev pub IsDeclined : List Check → (Excepts : List ℕ → Type 0) → Declined → Type 0
IsDeclined checks Excepts (Refused refusal) = FirstStands checks (refusal_of refusal) ⊎ Excepts (refusal_line (refusal_of refusal))
IsDeclined checks Excepts (PatternRefused number) = Excepts (pattern_refused_line number)
IsDeclined checks Excepts NoMemory = Unit {0}

-- A query is declined so wherever this corpus is held, whatever the images that agree with those taken. Meanwhile the shop came to have refused the new texts.
pub record DeclinesQuery (corpus : Corpus) (cql : List ℕ) (old new : List (List ℕ)) (declined : Declined) : Type 0 where
  pub refused : List (List ℕ)
  pub more : new ≡ old ++ refused
  pub stands : (images : Images) (grammar : Option Grammar) → AreImagesBy images corpus.taken →
      IsDeclined (query_checks (seen images corpus grammar) cql) (ExceptsQuery (seen images corpus grammar) cql (gained_of refused)) declined

-- the same of a report, of which the attribute is looked up before the query is read
pub record DeclinesReport (corpus : Corpus) (attr cql : List ℕ) (old new : List (List ℕ)) (declined : Declined) : Type 0 where
  pub refused : List (List ℕ)
  pub more : new ≡ old ++ refused
  pub stands : (images : Images) (grammar : Option Grammar) → AreImagesBy images corpus.taken →
      IsDeclined (report_checks (seen images corpus grammar) attr cql) (ExceptsReport (seen images corpus grammar) attr cql (gained_of refused)) declined

-- The bytes are no grammar under the registry, for the cause that is told, or memory ran out.
abbrev pub IsUnruled : Registry → List ℕ → Declined → Type 0
IsUnruled registry bytes (Refused refusal) = IsNoGrammar registry (λ given. given ≡ bytes) (refusal_of refusal)
IsUnruled registry bytes (PatternRefused number) = ⊥
IsUnruled registry bytes NoMemory = Unit {0}
