-- Which checks of a query pass.
use Rattle.std.proofs.Common.{◌≡◌, ℕ, List, Result, Ok, Err, sym, subst}
use Rattle.std.specs.List.{All}
use Rattle.mt_text_spec.specs.Registries.{Registry}
use Rattle.mt_text_spec.specs.Queries.{Query}
use Rattle.mt_query_spec.specs.Contents.{patterns}
use Rattle.mt_query_spec.specs.Verdicts.{Means, TooLarge, Syntax, Unknown}
use Rattle.mt_query_spec.specs.Verdicts as verdict
use Rattle.mt_match_spec.specs.Kept.{Over}
use Rattle.mt_session_spec.specs.Scenes.{Scene}
use Rattle.mt_session_spec.specs.Checks.{Passes, NoneStands}
use Rattle.mt_session_spec.specs.Patterns.{IsWhole}
use Rattle.mt_session_spec.specs.Asking.{Reads, IsNoQuery, Great, Faulty, Undeclared, HasBadPattern, Bad, HasTooManyRows, Many, query_checks}
use Rattle.mt_answer.proofs.Patterns.{none_bad}

-- no text means two things
abbrev pub OneMeaning : Type 0
OneMeaning = (registry : Registry) (default : ℕ) (text : List ℕ) (said other : Result Query verdict.Refusal) → Means registry default text said → Means registry default text other → said ≡ other

abbrev Same : Result Query verdict.Refusal → Result Query verdict.Refusal → Type 0
Same said other = said ≡ other

apart : (query : Query) (why : verdict.Refusal) → Same (Ok query) (Err why) → ⊥
apart query why e = cc

same_query : (query other : Query) → Same (Ok query) (Ok other) → query ≡ other
same_query query other e = cc

-- the text is a query
pub read_passes : OneMeaning → (scene : Scene) (cql : List ℕ) (query : Query) → Reads scene cql (Ok query) → Passes (IsNoQuery scene cql)
read_passes one scene cql query read refusal (Great e) = apart query TooLarge (one scene.registry 0 cql (Ok query) (Err TooLarge) read e)
read_passes one scene cql query read refusal (Faulty at cause e) = apart query (Syntax at cause) (one scene.registry 0 cql (Ok query) (Err (Syntax at cause)) read e)
read_passes one scene cql query read refusal (Undeclared at e) = apart query (Unknown at) (one scene.registry 0 cql (Ok query) (Err (Unknown at)) read e)

-- its patterns are such
pub patterns_pass : OneMeaning → (scene : Scene) (cql : List ℕ) (query : Query) → Reads scene cql (Ok query) → All IsWhole (patterns query) → Passes (HasBadPattern scene cql)
patterns_pass one scene cql query read whole refusal (Bad other k again bad) =
    let same : query ≡ other = same_query query other (one scene.registry 0 cql (Ok query) (Ok other) read again) in
    none_bad (patterns other) k (subst (λ (q : Query). All IsWhole (patterns q)) same whole) bad

-- it has not too many rows
pub rows_pass : OneMeaning → (scene : Scene) (cql : List ℕ) (query : Query) → Reads scene cql (Ok query) → (¬ Over scene.images scene.registry scene.corpus query) → Passes (HasTooManyRows scene cql)
rows_pass one scene cql query read few refusal (Many other again over) =
    let same : query ≡ other = same_query query other (one scene.registry 0 cql (Ok query) (Ok other) read again) in
    few (subst (λ (q : Query). Over scene.images scene.registry scene.corpus q) (sym same) over)

-- all pass
pub all_pass : OneMeaning → (scene : Scene) (cql : List ℕ) (query : Query) → Reads scene cql (Ok query) → All IsWhole (patterns query) → (¬ Over scene.images scene.registry scene.corpus query) →
    NoneStands (query_checks scene cql)
all_pass one scene cql query read whole few = (read_passes one scene cql query read, (patterns_pass one scene cql query read whole, (rows_pass one scene cql query read few, tt)))
