-- What is told where a question that has a query is not answered.
use Rattle.std.proofs.Common.{◌≡◌, ℕ, ◌⊎◌, inl, inr, List, [], ◌∷◌, Option, Ok, Err, refl, sym, subst, ◌∙◌, append-nil, arith}
use Rattle.std.specs.List.{All, Contains}
use Rattle.mt_text_spec.specs.Registries.{Registry}
use Rattle.mt_text_spec.specs.Queries.{Query, Grammar}
use Rattle.mt_query_spec.specs.Contents.{patterns}
use Rattle.mt_query_spec.specs.Verdicts.{Means, Cause, TooLarge, Syntax, Unknown}
use Rattle.mt_pattern_spec.specs.Patterns.{wrapped}
use Rattle.mt_match_spec.specs.Values.{Images}
use Rattle.mt_match_spec.specs.Kept.{Over}
use Rattle.mt_eval_spec.specs.Asked.{query_patterns}
use Rattle.mt_corpus_spec.specs.Groups.{corpus_of}
use Rattle.mt_corpus_spec.specs.Images.{Corpus, AreImagesBy}
use Rattle.mt_session_spec.specs.Scenes.{Scene}
use Rattle.mt_session_spec.specs.Gains.{Gained}
use Rattle.mt_session_spec.specs.Refusals.{QueryTooLarge, BadQuery, UnknownName, no_memory_line, pattern_refused_line, refusal_line}
use Rattle.mt_session_spec.specs.Answers.{Answer, Refused}
use Rattle.mt_session_spec.specs.Meaning.{Question}
use Rattle.mt_session_spec.specs.Asking.{IsNoQuery, Great, Faulty, Undeclared, name_at, Bad, Many, Deep, Refused as RefusedPattern, query_checks, ExceptsQuery}
use Rattle.mt_session_spec.specs.Steps.{AskStepBy, AskDeclined, AskStarved, AskExcepted}
use Rattle.mt_pattern.specs.Shops.{RefusedOne}
use Rattle.mt_prepare.specs.Built as built
use Rattle.mt_prepare.specs.declared.patterns.PatternError.TheVariants as pattern
use Rattle.mt_search.specs.Refused.{RefusesBy}
use Rattle.mt_search.specs.declared.error.RowsError.{RowsError}
use Rattle.mt_search.specs.declared.error.RowsError.TheVariants as error
use Rattle.mt_answer.specs.declared.reply.Reply.{Reply}
use Rattle.mt_answer.specs.declared.declined.Declined.{Declined}
use Rattle.mt_answer.specs.declared.declined.Declined.TheVariants as d
use Rattle.mt_answer.specs.Refusals.{refusal_of}
use Rattle.mt_answer.specs.Replies.{Given, seen, gained_of}
use Rattle.mt_answer.specs.Declines.{IsUnread, IsDeclined, DeclinesQuery, declined_line}
use Rattle.mt_answer.specs.Errors.{declined_by}
use Rattle.mt_answer.proofs.Asks.{Asked}
use Rattle.mt_answer.proofs.Patterns.{wholes_of, stops_of, bad_or_deep}
use Rattle.mt_answer.proofs.Checks.{OneMeaning, read_passes, patterns_pass}
use Rattle.mt_answer.proofs.Same.{patterns_same}

-- ## The text

-- the text is no query
pub unread_declines : (corpus : Corpus) (cql : List ℕ) (old : List (List ℕ)) (declined : Declined) → IsUnread corpus.registry cql declined → DeclinesQuery corpus cql old old declined
unread_declines corpus cql old (d.Refused refusal) u = record {
  refused = [];
  more = sym (append-nil old);
  stands = λ images grammar agree. inl (inl (u (seen images corpus grammar) refl));
}
unread_declines corpus cql old (d.PatternRefused number) u = absurd u
unread_declines corpus cql old d.NoMemory u = record { refused = []; more = sym (append-nil old); stands = λ images grammar agree. tt }

-- it is too great
pub great : (registry : Registry) (cql : List ℕ) → Means registry 0 cql (Err TooLarge) → (scene : Scene) → scene.registry ≡ registry → IsNoQuery scene cql QueryTooLarge
great registry cql means scene same = Great (subst (λ (r : Registry). Means r 0 cql (Err TooLarge)) (sym same) means)

-- it is at fault at a place
pub faulty : (registry : Registry) (cql : List ℕ) (place : ℕ) (cause : Cause) → Means registry 0 cql (Err (Syntax place cause)) → (scene : Scene) → scene.registry ≡ registry →
    IsNoQuery scene cql (BadQuery place cause)
faulty registry cql place cause means scene same = Faulty place cause (subst (λ (r : Registry). Means r 0 cql (Err (Syntax place cause))) (sym same) means)

-- it names what is not declared
pub unknown : (registry : Registry) (cql : List ℕ) (place : ℕ) (name : List ℕ) → name ≡ name_at cql place → Means registry 0 cql (Err (Unknown place)) → (scene : Scene) →
    scene.registry ≡ registry → IsNoQuery scene cql (UnknownName name)
unknown registry cql place name is means scene same = rw is (Undeclared place (subst (λ (r : Registry). Means r 0 cql (Err (Unknown place))) (sym same) means))

-- ## The patterns and the rows

at_front : (text : List ℕ) → Contains (text ∷ []) text
at_front text = (0, omega arith, refl)

-- the shop refused a pattern
refused_declines : (corpus : Corpus) (cql : List ℕ) (query : Query) (old new : List (List ℕ)) (k : ℕ) → Means corpus.registry 0 cql (Ok query) →
    built.IsRefusedAt 1 (patterns query) old new k → DeclinesQuery corpus cql old new (d.PatternRefused k)
refused_declines corpus cql query old new k read stop = by stop.refused
  where
    told : (gained : List (List ℕ)) → Contains gained stop.text ⊎ Contains gained (wrapped stop.text) → (images : Images) (grammar : Option Grammar) →
        IsDeclined (query_checks (seen images corpus grammar) cql) (ExceptsQuery (seen images corpus grammar) cql (gained_of gained)) (d.PatternRefused k)
    told gained among images grammar = RefusedPattern query k read (record { text = stop.text; stops = stops_of (patterns query) k stop.text stop.stops; among = among })

    by : RefusedOne old stop.text new → DeclinesQuery corpus cql old new (d.PatternRefused k)
    by (inl e) = record { refused = stop.text ∷ []; more = e; stands = λ images grammar agree. told (stop.text ∷ []) (inl (at_front stop.text)) images grammar }
    by (inr (alone, e)) = record { refused = wrapped stop.text ∷ []; more = e; stands = λ images grammar agree. told (wrapped stop.text ∷ []) (inr (at_front (wrapped stop.text))) images grammar }

-- a pattern is none, or nests too deep
bad_declines : OneMeaning → (corpus : Corpus) (cql : List ℕ) (query : Query) (old new : List (List ℕ)) (k : ℕ) → Means corpus.registry 0 cql (Ok query) →
    built.IsNoPatternAt 1 (patterns query) k → new ≡ old → DeclinesQuery corpus cql old new (declined_by (error.Pattern (pattern.Syntax k)))
bad_declines one corpus cql query old new k read stop kept = record {
  refused = [];
  more = kept ∙ sym (append-nil old);
  stands = λ images grammar agree. elim (bad_or_deep (patterns query) k stop.text (stops_of (patterns query) k stop.text stop.stops) stop.none) [
    | inl bad ↦ inl (inr (read_passes one (seen images corpus grammar) cql query read, inl (Bad query k read bad)))
    | inr deep ↦ inr (Deep query k read deep)
  ];
}

-- there are too many rows
many_declines : OneMeaning → (corpus : Corpus) (cql : List ℕ) (query : Query) (old new : List (List ℕ)) → Means corpus.registry 0 cql (Ok query) → All built.IsWhole (patterns query) → new ≡ old →
    ((images : Images) → AreImagesBy images corpus.taken → Over images corpus.registry (corpus_of corpus.groups) query) → DeclinesQuery corpus cql old new (declined_by error.TooManyRows)
many_declines one corpus cql query old new read whole kept over = record {
  refused = [];
  more = kept ∙ sym (append-nil old);
  stands = λ images grammar agree.
      let scene = seen images corpus grammar in
      inl (inr (read_passes one scene cql query read, inr (patterns_pass one scene cql query read (wholes_of (patterns query) whole), inl (Many query read (over images agree)))));
}

starved_declines : (corpus : Corpus) (cql : List ℕ) (old new : List (List ℕ)) → new ≡ old → DeclinesQuery corpus cql old new d.NoMemory
starved_declines corpus cql old new kept = record { refused = []; more = kept ∙ sym (append-nil old); stands = λ images grammar agree. tt }

rows_declined : OneMeaning → (corpus : Corpus) (cql : List ℕ) (query : Query) (old new : List (List ℕ)) (why : RowsError) → Means corpus.registry 0 cql (Ok query) →
    RefusesBy (patterns query) old new why → ((images : Images) → AreImagesBy images corpus.taken → why ≡ error.TooManyRows → Over images corpus.registry (corpus_of corpus.groups) query) →
    DeclinesQuery corpus cql old new (declined_by why)
rows_declined one corpus cql query old new (error.Pattern (pattern.Syntax k)) read (stop, kept) over = bad_declines one corpus cql query old new k read stop kept
rows_declined one corpus cql query old new (error.Pattern (pattern.Refused k)) read stop over = refused_declines corpus cql query old new k read stop
rows_declined one corpus cql query old new (error.Pattern pattern.NoMemory) read kept over = starved_declines corpus cql old new kept
rows_declined one corpus cql query old new error.TooManyRows read (kept, whole) over = many_declines one corpus cql query old new read whole kept (λ images agree. over images agree refl)
rows_declined one corpus cql query old new error.NoMemory read kept over = starved_declines corpus cql old new kept

-- no rows were found
pub rows_decline : OneMeaning → (corpus : Corpus) (cql : List ℕ) (query : Query) (old new : List (List ℕ)) (why : RowsError) → Means corpus.registry 0 cql (Ok query) →
    RefusesBy (query_patterns query) old new why → ((images : Images) → AreImagesBy images corpus.taken → why ≡ error.TooManyRows → Over images corpus.registry (corpus_of corpus.groups) query) →
    DeclinesQuery corpus cql old new (declined_by why)
rows_decline one corpus cql query old new why read refuses over =
    rows_declined one corpus cql query old new why read (subst (λ (texts : List (List ℕ)). RefusesBy texts old new why) (patterns_same query) refuses) over

-- ## What is told

told : (asked : Question) (gained : Gained) (declined : Declined) (answer : Answer) → IsDeclined asked.checks (asked.Excepts gained) declined →
    (answer ≡ Refused (declined_line declined)) ⊎ (answer ≡ Refused no_memory_line) → AskStepBy asked gained answer
told asked gained declined answer stands (inr e) = rw e AskStarved
told asked gained (d.Refused refusal) answer (inl first) (inl e) = rw e (AskDeclined (refusal_of refusal) first)
told asked gained (d.Refused refusal) answer (inr in_place) (inl e) = rw e (AskExcepted (refusal_line (refusal_of refusal)) in_place)
told asked gained (d.PatternRefused number) answer in_place (inl e) = rw e (AskExcepted (pattern_refused_line number) in_place)
told asked gained d.NoMemory answer stands (inl e) = rw e AskStarved

pub tells : (asked : Question) (gained : Gained) (declined : Declined) (reply : Reply) → IsDeclined asked.checks (asked.Excepts gained) declined → Given (Refused (declined_line declined)) reply →
    Asked asked gained reply
tells asked gained declined reply stands g = record { answer = g.answer; says = g.says; holds = told asked gained declined g.answer stands g.holds }
