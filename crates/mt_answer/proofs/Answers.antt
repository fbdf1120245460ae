-- What the replies to `count` and `query` mean.
use Rattle.std.proofs.Common.{◌≡◌, ℕ, List, [], ◌∷◌, ◌++◌, get_or, Option, Result, Ok, Err, refl, sym, subst, append-nil, codes, ◌∙◌}
use Rattle.std.specs.Prelude.{IfOk, OnErr}
use Rattle.std.specs.List.{All, Contains}
use Rattle.std.specs.Fmt.{decimal}
use Rattle.std.proofs.lemmas.List.Elements.{All-contains_itself}
use Rattle.mt_text_spec.specs.Lines.{closed}
use Rattle.mt_text_spec.specs.Orders.{span_cmp}
use Rattle.mt_text_spec.specs.Queries.{Query as QueryOf}
use Rattle.mt_text_spec.specs.Registries.{Registry}
use Rattle.mt_text_spec.specs.Texts.{Text, Row, Span}
use Rattle.mt_match_spec.specs.Values.{Images}
use Rattle.mt_match_spec.specs.Rows.{ListsAll}
use Rattle.mt_match_spec.specs.Kept.{Kept, IsSpan, Spans}
use Rattle.mt_rows.specs.Rows.{IsSpanIn}
use Rattle.mt_rows.specs.Laws.{lists_alike}
use Rattle.mt_corpus_spec.specs.Groups.{corpus_of}
use Rattle.mt_corpus_spec.specs.Images.{Corpus, AreImagesBy}
use Rattle.mt_totals.specs.Totals.{HasSpanTotal}
use Rattle.mt_report_spec.specs.Held.{LiesIn}
use Rattle.mt_report_spec.specs.Lines.{query_lines}
use Rattle.mt_counts.specs.Counted.{Counted}
use Rattle.mt_script_spec.specs.Commands.{Ask, Count, Query}
use Rattle.mt_session_spec.specs.Answers.{Refused, Lines as LinesAnswer}
use Rattle.mt_session_spec.specs.Counting.{counting, number_line}
use Rattle.mt_session_spec.specs.Querying.{querying}
use Rattle.mt_session_spec.specs.Steps.{AskAnswered}
use Rattle.mt_answer.specs.declared.reply.Reply.{Reply}
use Rattle.mt_answer.specs.declared.reply.Reply.TheVariants.{Lines, NoMemory}
use Rattle.mt_answer.specs.declared.declined.Declined.{Declined}
use Rattle.mt_answer.specs.Declines.{DeclinesQuery, declined_line}
use Rattle.mt_answer.specs.Replies.{SaysLines, Given, AnswersAsk, seen, gained_of}
use Rattle.mt_answer.specs.Rows.{HasRows, HasTotal, HasImages, IsConcordance}
use Rattle.mt_answer.proofs.Asks.{starved, unasked}
use Rattle.mt_query_spec.specs.Contents.{patterns}
use Rattle.mt_eval_spec.specs.Asked.{query_patterns}
use Rattle.mt_prepare.specs.Built as built
use Rattle.mt_query_spec.specs.Verdicts.{Means}
use Rattle.mt_match_spec.specs.Kept.{Over}
use Rattle.mt_answer.proofs.Checks.{OneMeaning, all_pass}
use Rattle.mt_answer.proofs.Patterns.{wholes_of}
use Rattle.mt_answer.proofs.Same.{patterns_same}
use Rattle.mt_answer.proofs.Declines.{tells}

-- ## Rows

pub has_rows : OneMeaning → (corpus : Corpus) (cql : List ℕ) (query : QueryOf) (rows : List Row) → Means corpus.registry 0 cql (Ok query) → All built.IsWhole (query_patterns query) →
    ((images : Images) → AreImagesBy images corpus.taken → Kept images corpus.registry (corpus_of corpus.groups) query rows) →
    ((images : Images) → AreImagesBy images corpus.taken → ¬ Over images corpus.registry (corpus_of corpus.groups) query) → HasRows corpus cql rows
has_rows one corpus cql query rows read whole kept few = record {
  query = query;
  read = read;
  passes = λ images grammar agree. all_pass one (seen images corpus grammar) cql query read
      (wholes_of (patterns query) (subst (λ (texts : List (List ℕ)). All built.IsWhole texts) (patterns_same query) whole)) (few images agree);
  kept = kept;
}

-- the same of how many spans there are
pub has_total : OneMeaning → (corpus : Corpus) (cql : List ℕ) (query : QueryOf) (total : ℕ) → Means corpus.registry 0 cql (Ok query) → All built.IsWhole (query_patterns query) →
    ((images : Images) → AreImagesBy images corpus.taken → HasSpanTotal images corpus.registry (corpus_of corpus.groups) query total) →
    ((images : Images) → AreImagesBy images corpus.taken → ¬ Over images corpus.registry (corpus_of corpus.groups) query) → HasTotal corpus cql total
has_total one corpus cql query total read whole counted few = record {
  query = query;
  read = read;
  passes = λ images grammar agree. all_pass one (seen images corpus grammar) cql query read
      (wholes_of (patterns query) (subst (λ (texts : List (List ℕ)). All built.IsWhole texts) (patterns_same query) whole)) (few images agree);
  counted = counted;
}

-- ## Spans

-- the spans of the rows that a query keeps are its spans
pub spans_of : (images : Images) (registry : Registry) (corpus : List Text) (query : QueryOf) (rows : List Row) (spans : List Span) → Kept images registry corpus query rows →
    ListsAll span_cmp (IsSpanIn rows) spans → Spans images registry corpus query spans
spans_of images registry corpus query rows spans kept all = lists_alike span_cmp (IsSpanIn rows) (IsSpan images registry corpus query) spans
    (λ span h. record { labels = h.labels; keeps = kept.only (record { span = span; labels = h.labels }) h.contains })
    (λ span h. record { labels = h.labels; contains = kept.each (record { span = span; labels = h.labels }) h.keeps }) all

lies : (images : Images) (registry : Registry) (corpus : List Text) (query : QueryOf) (rows : List Row) → Kept images registry corpus query rows → (row : Row) → Contains rows row → LiesIn corpus row.span
lies images registry corpus query rows kept row c =
    let is_row = (kept.only row c).is_row in
    record { text = is_row.text; there = is_row.there; some = is_row.some; inside = is_row.inside }

-- the rows of a query lie in the corpus
pub rows_lie : (corpus : Corpus) (cql : List ℕ) (rows : List Row) → HasImages corpus → HasRows corpus cql rows → All (λ row. LiesIn (corpus_of corpus.groups) row.span) rows
rows_lie corpus cql rows some has = λ k d l.
    lies some.images corpus.registry (corpus_of corpus.groups) has.query rows (has.kept some.images some.agree) (get_or rows k d) (All-contains_itself rows k d l)

-- and so do their spans
pub spans_lie : (corpus : List Text) (rows : List Row) (spans : List Span) → All (λ row. LiesIn corpus row.span) rows → ListsAll span_cmp (IsSpanIn rows) spans → All (LiesIn corpus) spans
spans_lie corpus rows spans inside all = λ k d l.
    let h = all.only (get_or spans k d) (All-contains_itself spans k d l) in
    let row : Row = record { span = get_or spans k d; labels = h.labels } in
    let (j, m, e) = h.contains in
    subst (λ (r : Row). LiesIn corpus r.span) e (inside j row m)

-- ## `count`

pub counts : (corpus : Corpus) (counted : Option Counted) (cql : List ℕ) (total : ℕ) (line : List ℕ) (old : List (List ℕ)) → HasTotal corpus cql total → line ≡ closed (codes "=" ++ 32 ∷ decimal total) →
    AnswersAsk corpus counted (Count cql) old old (Lines line)
counts corpus counted cql total line old has e = record {
  refused = [];
  more = sym (append-nil old);
  answers = λ images grammar agree are.
      let spans = has.counted images agree in
      record {
        answer = LinesAnswer (number_line total ∷ []);
        says = SaysLines line (number_line total ∷ []) (e ∙ sym (append-nil _));
        holds = AskAnswered (number_line total ∷ []) (has.passes images grammar agree) (record {
          query = has.query;
          read = has.read;
          spans = spans.spans;
          are = spans.are;
          says = rw spans.counted refl;
        });
      };
}

-- ## `query`

pub lists : (corpus : Corpus) (counted : Option Counted) (cql : List ℕ) (rows : List Row) (bytes : List ℕ) (old : List (List ℕ)) → HasRows corpus cql rows →
    ((images : Images) → AreImagesBy images corpus.taken → IsConcordance images corpus rows bytes) → AnswersAsk corpus counted (Query cql) old old (Lines bytes)
lists corpus counted cql rows bytes old has concordance = record {
  refused = [];
  more = sym (append-nil old);
  answers = λ images grammar agree are.
      let told = concordance images agree in
      let lines = query_lines images corpus.registry (corpus_of corpus.groups) told.spans in
      record {
        answer = LinesAnswer lines;
        says = SaysLines bytes lines told.lines;
        holds = AskAnswered lines (has.passes images grammar agree) (record {
          query = has.query;
          read = has.read;
          spans = told.spans;
          are = spans_of images corpus.registry (corpus_of corpus.groups) has.query rows told.spans (has.kept images agree) told.all;
          says = refl;
        });
      };
}

-- ## Either of two

-- of a result, a reply is its value's lines, or tells that memory ran out
told : {E : Type 0} (corpus : Corpus) (counted : Option Counted) (asked : Ask) (old : List (List ℕ)) (made : Result (List ℕ) E) (reply : Reply) → IfOk made (λ bytes. AnswersAsk corpus counted asked old old (Lines bytes)) →
    AnswersAsk corpus counted asked old old NoMemory → IfOk made (λ bytes. reply ≡ Lines bytes) → OnErr made (reply ≡ NoMemory) → AnswersAsk corpus counted asked old old reply
told corpus counted asked old (Ok bytes) reply answers starves is none = rw is answers
told corpus counted asked old (Err e) reply answers starves is none = rw none starves

-- ## No answer

pub count_declines : (corpus : Corpus) (counted : Option Counted) (cql : List ℕ) (old new : List (List ℕ)) (declined : Declined) (reply : Reply) → DeclinesQuery corpus cql old new declined →
    Given (Refused (declined_line declined)) reply → AnswersAsk corpus counted (Count cql) old new reply
count_declines corpus counted cql old new declined reply declines g = record {
  refused = declines.refused;
  more = declines.more;
  answers = λ images grammar agree are.
      let scene = seen images corpus grammar in
      tells (counting scene cql) (gained_of declines.refused) declined reply (declines.stands images grammar agree) g;
}

pub query_declines : (corpus : Corpus) (counted : Option Counted) (cql : List ℕ) (old new : List (List ℕ)) (declined : Declined) (reply : Reply) → DeclinesQuery corpus cql old new declined →
    Given (Refused (declined_line declined)) reply → AnswersAsk corpus counted (Query cql) old new reply
query_declines corpus counted cql old new declined reply declines g = record {
  refused = declines.refused;
  more = declines.more;
  answers = λ images grammar agree are.
      let scene = seen images corpus grammar in
      tells (querying scene cql) (gained_of declines.refused) declined reply (declines.stands images grammar agree) g;
}

pub count_starves : (corpus : Corpus) (counted : Option Counted) (cql : List ℕ) (old : List (List ℕ)) → AnswersAsk corpus counted (Count cql) old old NoMemory
count_starves corpus counted cql old = unasked corpus counted (Count cql) old NoMemory (λ images grammar. starved (counting (seen images corpus grammar) cql) (gained_of []))

pub query_starves : (corpus : Corpus) (counted : Option Counted) (cql : List ℕ) (old : List (List ℕ)) → AnswersAsk corpus counted (Query cql) old old NoMemory
query_starves corpus counted cql old = unasked corpus counted (Query cql) old NoMemory (λ images grammar. starved (querying (seen images corpus grammar) cql) (gained_of []))

-- ## The replies

if_ok : {X E : Type 0} (P Q : X → Type 0) → ((x : X) → P x → Q x) → (made : Result X E) → IfOk made P → IfOk made Q
if_ok P Q to (Ok x) p = to x p
if_ok P Q to (Err e) p = tt

pub count_told : {E : Type 0} (corpus : Corpus) (counted : Option Counted) (cql : List ℕ) (total : ℕ) (old new : List (List ℕ)) (made : Result (List ℕ) E) (reply : Reply) → new ≡ old → HasTotal corpus cql total →
    IfOk made (λ line. line ≡ closed (codes "=" ++ 32 ∷ decimal total)) → IfOk made (λ bytes. reply ≡ Lines bytes) → OnErr made (reply ≡ NoMemory) → AnswersAsk corpus counted (Count cql) old new reply
count_told corpus counted cql total old new made reply kept has line is none = rw kept (told corpus counted (Count cql) old made reply
    (if_ok (λ bytes. bytes ≡ closed (codes "=" ++ 32 ∷ decimal total)) (λ bytes. AnswersAsk corpus counted (Count cql) old old (Lines bytes)) (λ bytes e. counts corpus counted cql total bytes old has e) made line)
    (count_starves corpus counted cql old) is none)

pub query_told : {E : Type 0} (corpus : Corpus) (counted : Option Counted) (cql : List ℕ) (rows : List Row) (old new : List (List ℕ)) (made : Result (List ℕ) E) (reply : Reply) → new ≡ old → HasRows corpus cql rows →
    ((images : Images) → AreImagesBy images corpus.taken → IfOk made (IsConcordance images corpus rows)) → IfOk made (λ bytes. reply ≡ Lines bytes) → OnErr made (reply ≡ NoMemory) →
    AnswersAsk corpus counted (Query cql) old new reply
query_told corpus counted cql rows old new (Ok bytes) reply kept has concordance is none = rw (kept, is) (lists corpus counted cql rows bytes old has concordance)
query_told corpus counted cql rows old new (Err e) reply kept has concordance is none = rw (kept, none) (query_starves corpus counted cql old)
