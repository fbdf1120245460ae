-- What the replies to `freq` and `colloc` mean.
use Rattle.std.proofs.Common.{◌≡◌, ℕ, ℤ, ◌<◌, List, [], ◌∷◌, ◌++◌, length, get_or, true, Result, Ok, Err, inl, inr, Option, Some, None, refl, sym, ◌∙◌, ap, subst, append-nil, arith}
use Rattle.std.specs.Prelude.{IfOk, OnErr, slice_get}
use Rattle.std.specs.List.{All, Contains, flat_map}
use Rattle.std.proofs.lemmas.List.Elements.{All-contains_itself, All-weaker}
use Rattle.std.proofs.lemmas.Option.{slice_get_within, get_or_from_slice_get}
use Rattle.mt_text_spec.specs.Lines.{closed}
use Rattle.mt_text_spec.specs.Registries.{Registry, Attr, attr_names}
use Rattle.mt_text_spec.specs.Orders.{span_cmp}
use Rattle.mt_text_spec.specs.Texts.{Text, Row, Span}
use Rattle.mt_text_spec.specs.Queries.{Query}
use Rattle.mt_match_spec.specs.Values.{Images}
use Rattle.mt_match_spec.specs.Rows.{ListsAll}
use Rattle.mt_match_spec.specs.Kept.{Over, Spans}
use Rattle.mt_match_laws.specs.Laws.{HaveRows}
use Rattle.mt_rows.specs.Rows.{IsSpanIn}
use Rattle.mt_rows.specs.Laws.{lists_alike}
use Rattle.mt_segment_spec.specs.Tables.{Tables, AreTablesUnder}
use Rattle.mt_corpus_spec.specs.Groups.{corpus_of}
use Rattle.mt_corpus_spec.specs.Images.{Corpus, AreImagesBy}
use Rattle.mt_report_spec.specs.Held.{LiesIn}
use Rattle.mt_report_spec.specs.Counts.{FrequencyText, CollocationText, Collocate, IsCollocate, collocate_cmp, spans_with}
use Rattle.mt_report_spec.specs.Near.{window}
use Rattle.mt_counts.specs.Counted.{Counted}
use Rattle.mt_script_spec.specs.Commands.{Freq, Colloc}
use Rattle.mt_session_spec.specs.Scenes.{Scene}
use Rattle.mt_session_spec.specs.Refusals.{UnknownName, TooManyRows}
use Rattle.mt_session_spec.specs.Checks.{When, Passes, NoneStands}
use Rattle.mt_session_spec.specs.Answers.{Refused, Lines as LinesAnswer}
use Rattle.mt_session_spec.specs.Asking.{Reads, Many, query_checks, ExceptsQuery}
use Rattle.mt_session_spec.specs.Reporting.{IsDeclared, report_checks, ExceptsReport, listing_frequencies, listing_collocates}
use Rattle.mt_session_spec.specs.Steps.{AskAnswered}
use Rattle.mt_answer.specs.declared.reply.Reply.{Reply}
use Rattle.mt_answer.specs.declared.reply.Reply.TheVariants.{Lines, NoMemory}
use Rattle.mt_answer.specs.declared.refusal.Refusal.{Refusal as RustRefusal}
use Rattle.mt_answer.specs.declared.declined.Declined.{Declined}
use Rattle.mt_answer.specs.declared.declined.Declined.TheVariants as d
use Rattle.mt_answer.specs.Refusals.{refusal_of}
use Rattle.mt_answer.specs.Declines.{IsDeclined, DeclinesQuery, DeclinesReport, declined_line}
use Rattle.mt_answer.specs.Replies.{SaysLines, Given, AnswersAsk, seen, gained_of}
use Rattle.mt_answer.specs.Rows.{HasRows, HasImages}
use Rattle.mt_answer.specs.Reports.{HasReport, IsReportOver, IsFrequencyList, IsCollocationList}
use Rattle.mt_answer.proofs.Asks.{starved, unasked}
use Rattle.mt_answer.proofs.Answers.{spans_of}
use Rattle.mt_answer.proofs.Declines.{tells}
use Rattle.mt_answer.proofs.Few.{few_spans}

-- ## The attribute

declared : (names : List (List ℕ)) (number : ℕ) (name : List ℕ) → slice_get names number ≡ Some name → Contains names name
declared names number name e = (number, slice_get_within names number name e, get_or_from_slice_get names number name name e)

-- there are as many names as attributes
as_many : (attrs : List Attr) → length (attr_names attrs) ≡ length attrs
as_many [] = refl
as_many (attr ∷ attrs) = let e = as_many attrs in omega (arith, e)

pass_attr : (scene : Scene) (attr : List ℕ) → IsDeclared scene attr → Passes (When (¬ IsDeclared scene attr) (UnknownName attr))
pass_attr scene attr there refusal w = w.there there

-- the attribute is not declared
pub undeclared : (corpus : Corpus) (attr cql : List ℕ) (old : List (List ℕ)) (refusal : RustRefusal) → refusal_of refusal ≡ UnknownName attr → (¬ Contains (attr_names corpus.registry.attrs) attr) →
    DeclinesReport corpus attr cql old old (d.Refused refusal)
undeclared corpus attr cql old refusal is none = record {
  refused = [];
  more = sym (append-nil old);
  stands = λ images grammar agree. inl (inl (record { is = is; there = none }));
}

-- ## The query

behind : (scene : Scene) (attr cql : List ℕ) (gained : List (List ℕ)) (declined : Declined) → IsDeclared scene attr →
    IsDeclined (query_checks scene cql) (ExceptsQuery scene cql (gained_of gained)) declined → IsDeclined (report_checks scene attr cql) (ExceptsReport scene attr cql (gained_of gained)) declined
behind scene attr cql gained (d.Refused refusal) there (inl first) = inl (inr (pass_attr scene attr there, first))
behind scene attr cql gained (d.Refused refusal) there (inr in_place) = inr (record { declared = there; excepts = in_place })
behind scene attr cql gained (d.PatternRefused number) there in_place = record { declared = there; excepts = in_place }
behind scene attr cql gained d.NoMemory there stands = tt

-- the query is declined, and the attribute is declared
pub query_declined : (corpus : Corpus) (attr cql : List ℕ) (number : ℕ) (old new : List (List ℕ)) (declined : Declined) → slice_get (attr_names corpus.registry.attrs) number ≡ Some attr →
    DeclinesQuery corpus cql old new declined → DeclinesReport corpus attr cql old new declined
query_declined corpus attr cql number old new why named declines = record {
  refused = declines.refused;
  more = declines.more;
  stands = λ images grammar agree.
      behind (seen images corpus grammar) attr cql declines.refused why (declared (attr_names corpus.registry.attrs) number attr named) (declines.stands images grammar agree);
}

-- there was no memory for the spans
pub spans_starve : (corpus : Corpus) (attr cql : List ℕ) (old new : List (List ℕ)) → new ≡ old → DeclinesReport corpus attr cql old new d.NoMemory
spans_starve corpus attr cql old new kept = record { refused = []; more = rw kept (sym (append-nil old)); stands = λ images grammar agree. tt }

not_over : (scene : Scene) (cql : List ℕ) (query : Query) → Reads scene cql (Ok query) → NoneStands (query_checks scene cql) → ¬ Over scene.images scene.registry scene.corpus query
not_over scene cql query has passes over = passes.1.1.0 TooManyRows (Many query has over)

-- the attribute is declared, the query keeps these rows, and these are their spans
pub has_report : HaveRows → (corpus : Corpus) (attr cql : List ℕ) (number : ℕ) (rows : List Row) (spans : List Span) → HasImages corpus → slice_get (attr_names corpus.registry.attrs) number ≡ Some attr →
    HasRows corpus cql rows → ListsAll span_cmp (IsSpanIn rows) spans → HasReport corpus attr cql number spans
has_report have corpus attr cql number rows spans some named has all = record {
  named = named;
  query = has.query;
  read = has.read;
  passes = λ images grammar agree. (pass_attr (seen images corpus grammar) attr (declared (attr_names corpus.registry.attrs) number attr named), has.passes images grammar agree);
  are = λ images agree. spans_of images corpus.registry (corpus_of corpus.groups) has.query rows spans (has.kept images agree) all;
  few = few_spans have some.images corpus.registry (corpus_of corpus.groups) has.query spans
      (spans_of some.images corpus.registry (corpus_of corpus.groups) has.query rows spans (has.kept some.images some.agree) all)
      (not_over (seen some.images corpus None) cql has.query has.read (has.passes some.images None some.agree));
}

-- ## Of what the lists are made

span_lies : (images : Images) (registry : Registry) (corpus : List Text) (query : Query) (spans : List Span) → Spans images registry corpus query spans → All (LiesIn corpus) spans
span_lies images registry corpus query spans are = λ k d l.
    let is_row = (are.only (get_or spans k d) (All-contains_itself spans k d l)).keeps.is_row in
    record { text = is_row.text; there = is_row.there; some = is_row.some; inside = is_row.inside }

pub report_over : (corpus : Corpus) (attr cql : List ℕ) (number : ℕ) (spans : List Span) → HasImages corpus → HasReport corpus attr cql number spans → IsReportOver corpus number spans
report_over corpus attr cql number spans some has = record {
  declared =
      let within = slice_get_within (attr_names corpus.registry.attrs) number attr has.named in
      let e = as_many corpus.registry.attrs in
      omega (arith, within, e);
  lie = span_lies some.images corpus.registry (corpus_of corpus.groups) has.query spans (has.are some.images some.agree);
  few = has.few;
}

-- each segment has tables of the attribute
pub have_tables : (registry : Registry) (number : ℕ) (segments : List Tables) → number < length registry.attrs → All (AreTablesUnder registry) segments →
    All (λ (tables : Tables). number < length tables.attrs) segments
have_tables registry number segments low all = All-weaker (AreTablesUnder registry) (λ (tables : Tables). number < length tables.attrs)
    (λ tables are. let e = are.by.are.attr_count in omega (arith, e, low)) segments all

-- ## Lines

-- what is appended to no lines is the list
pub frequency_listed : (images : Images) (corpus : Corpus) (spans told : List Span) (number : ℕ) (offset given : ℤ) (before bytes : List ℕ) → told ≡ spans → given ≡ offset → before ≡ [] →
    (lines : List (List ℕ)) × FrequencyText images corpus.registry (corpus_of corpus.groups) told number given lines × (bytes ≡ before ++ flat_map closed lines) →
    IsFrequencyList images corpus spans number offset bytes
frequency_listed images corpus spans told number offset given before bytes same is none (lines, text, appended) = record {
  lines = lines;
  are = subst (λ (all : List Span). FrequencyText images corpus.registry (corpus_of corpus.groups) all number offset lines) same
      (subst (λ (distance : ℤ). FrequencyText images corpus.registry (corpus_of corpus.groups) told number distance lines) is text);
  bytes_are = appended ∙ ap (λ (front : List ℕ). front ++ flat_map closed lines) none;
}

-- the windows of collocates are all that is asked of both ends
with_window : (images : Images) (registry : Registry) (corpus : List Text) (spans : List Span) (attr : ℕ) (first last other : ℤ) (least : ℕ) (one : Collocate) → window first last ≡ window first other →
    IsCollocate images registry corpus spans attr first last least one → IsCollocate images registry corpus spans attr first other least one
with_window images registry corpus spans attr first last other least one same is = record {
  count = is.count ∙ ap (λ (places : List ℤ). spans_with images registry corpus (record { attr = attr; distances = places; behind_last = true }) spans one.value) same;
  some = is.some;
  enough = is.enough;
  tokens_are = is.tokens_are;
  scored = is.scored;
}

text_with : (images : Images) (registry : Registry) (corpus : List Text) (spans : List Span) (attr : ℕ) (first last other : ℤ) (least : ℕ) (lines : List (List ℕ)) → window first last ≡ window first other →
    CollocationText images registry corpus spans attr first last least lines → CollocationText images registry corpus spans attr first other least lines
text_with images registry corpus spans attr first last other least lines same text = record {
  all = text.all;
  are = lists_alike (collocate_cmp (length spans)) (IsCollocate images registry corpus spans attr first last least) (IsCollocate images registry corpus spans attr first other least) text.all
      (λ one is. with_window images registry corpus spans attr first last other least one same is)
      (λ one is. with_window images registry corpus spans attr first other last least one (sym same) is) text.are;
  says = text.says;
}

pub collocates_listed : (images : Images) (corpus : Corpus) (spans told : List Span) (number : ℕ) (first given_first last end given_end : ℤ) (least : ℕ) (before bytes : List ℕ) → told ≡ spans →
    given_first ≡ first → given_end ≡ end → window first end ≡ window first last → before ≡ [] →
    (lines : List (List ℕ)) × CollocationText images corpus.registry (corpus_of corpus.groups) told number given_first given_end least lines × (bytes ≡ before ++ flat_map closed lines) →
    IsCollocationList images corpus spans number first last least bytes
collocates_listed images corpus spans told number first given_first last end given_end least before bytes same is_first is_end window_is none (lines, text, appended) = record {
  lines = lines;
  are = text_with images corpus.registry (corpus_of corpus.groups) spans number first end last least lines window_is
      (subst (λ (all : List Span). CollocationText images corpus.registry (corpus_of corpus.groups) all number first end least lines) same
      (subst (λ (from : ℤ). CollocationText images corpus.registry (corpus_of corpus.groups) told number from end least lines) is_first
      (subst (λ (to : ℤ). CollocationText images corpus.registry (corpus_of corpus.groups) told number given_first to least lines) is_end text)));
  bytes_are = appended ∙ ap (λ (front : List ℕ). front ++ flat_map closed lines) none;
}

freq_lists : (corpus : Corpus) (counted : Option Counted) (attr cql : List ℕ) (offset : ℤ) (number : ℕ) (spans : List Span) (bytes : List ℕ) (old : List (List ℕ)) → HasReport corpus attr cql number spans →
    ((images : Images) → AreImagesBy images corpus.taken → IsFrequencyList images corpus spans number offset bytes) → AnswersAsk corpus counted (Freq attr offset cql) old old (Lines bytes)
freq_lists corpus counted attr cql offset number spans bytes old has list = record {
  refused = [];
  more = sym (append-nil old);
  answers = λ images grammar agree are.
      let told = list images agree in
      record {
        answer = LinesAnswer told.lines;
        says = SaysLines bytes told.lines told.bytes_are;
        holds = AskAnswered told.lines (has.passes images grammar agree) (record {
          query = has.query;
          read = has.read;
          spans = spans;
          are = has.are images agree;
          number = number;
          named = has.named;
          says = told.are;
        });
      };
}

colloc_lists : (corpus : Corpus) (counted : Option Counted) (attr cql : List ℕ) (first last : ℤ) (least number : ℕ) (spans : List Span) (bytes : List ℕ) (old : List (List ℕ)) → HasReport corpus attr cql number spans →
    ((images : Images) → AreImagesBy images corpus.taken → IsCollocationList images corpus spans number first last least bytes) → AnswersAsk corpus counted (Colloc attr first last least cql) old old (Lines bytes)
colloc_lists corpus counted attr cql first last least number spans bytes old has list = record {
  refused = [];
  more = sym (append-nil old);
  answers = λ images grammar agree are.
      let told = list images agree in
      record {
        answer = LinesAnswer told.lines;
        says = SaysLines bytes told.lines told.bytes_are;
        holds = AskAnswered told.lines (has.passes images grammar agree) (record {
          query = has.query;
          read = has.read;
          spans = spans;
          are = has.are images agree;
          number = number;
          named = has.named;
          says = told.are;
        });
      };
}

-- ## No answer

pub freq_declines : (corpus : Corpus) (counted : Option Counted) (attr cql : List ℕ) (offset : ℤ) (old new : List (List ℕ)) (declined : Declined) (reply : Reply) → DeclinesReport corpus attr cql old new declined →
    Given (Refused (declined_line declined)) reply → AnswersAsk corpus counted (Freq attr offset cql) old new reply
freq_declines corpus counted attr cql offset old new why reply declines g = record {
  refused = declines.refused;
  more = declines.more;
  answers = λ images grammar agree are. tells (listing_frequencies (seen images corpus grammar) attr offset cql) (gained_of declines.refused) why reply (declines.stands images grammar agree) g;
}

pub colloc_declines : (corpus : Corpus) (counted : Option Counted) (attr cql : List ℕ) (first last : ℤ) (least : ℕ) (old new : List (List ℕ)) (declined : Declined) (reply : Reply) →
    DeclinesReport corpus attr cql old new declined → Given (Refused (declined_line declined)) reply → AnswersAsk corpus counted (Colloc attr first last least cql) old new reply
colloc_declines corpus counted attr cql first last least old new why reply declines g = record {
  refused = declines.refused;
  more = declines.more;
  answers = λ images grammar agree are.
      tells (listing_collocates (seen images corpus grammar) attr first last least cql) (gained_of declines.refused) why reply (declines.stands images grammar agree) g;
}

freq_starves : (corpus : Corpus) (counted : Option Counted) (attr cql : List ℕ) (offset : ℤ) (old : List (List ℕ)) → AnswersAsk corpus counted (Freq attr offset cql) old old NoMemory
freq_starves corpus counted attr cql offset old =
    unasked corpus counted (Freq attr offset cql) old NoMemory (λ images grammar. starved (listing_frequencies (seen images corpus grammar) attr offset cql) (gained_of []))

colloc_starves : (corpus : Corpus) (counted : Option Counted) (attr cql : List ℕ) (first last : ℤ) (least : ℕ) (old : List (List ℕ)) → AnswersAsk corpus counted (Colloc attr first last least cql) old old NoMemory
colloc_starves corpus counted attr cql first last least old =
    unasked corpus counted (Colloc attr first last least cql) old NoMemory (λ images grammar. starved (listing_collocates (seen images corpus grammar) attr first last least cql) (gained_of []))

-- ## The replies

pub freq_told : {E : Type 0} (corpus : Corpus) (counted : Option Counted) (attr cql : List ℕ) (offset : ℤ) (number : ℕ) (spans : List Span) (old new : List (List ℕ)) (made : Result (List ℕ) E) (reply : Reply) → new ≡ old →
    HasReport corpus attr cql number spans → ((images : Images) → AreImagesBy images corpus.taken → IfOk made (IsFrequencyList images corpus spans number offset)) →
    IfOk made (λ bytes. reply ≡ Lines bytes) → OnErr made (reply ≡ NoMemory) → AnswersAsk corpus counted (Freq attr offset cql) old new reply
freq_told corpus counted attr cql offset number spans old new (Ok bytes) reply kept has list is none = rw (kept, is) (freq_lists corpus counted attr cql offset number spans bytes old has list)
freq_told corpus counted attr cql offset number spans old new (Err e) reply kept has list is none = rw (kept, none) (freq_starves corpus counted attr cql offset old)

pub colloc_told : {E : Type 0} (corpus : Corpus) (counted : Option Counted) (attr cql : List ℕ) (first last : ℤ) (least number : ℕ) (spans : List Span) (old new : List (List ℕ)) (made : Result (List ℕ) E) (reply : Reply) → new ≡ old →
    HasReport corpus attr cql number spans → ((images : Images) → AreImagesBy images corpus.taken → IfOk made (IsCollocationList images corpus spans number first last least)) →
    IfOk made (λ bytes. reply ≡ Lines bytes) → OnErr made (reply ≡ NoMemory) → AnswersAsk corpus counted (Colloc attr first last least cql) old new reply
colloc_told corpus counted attr cql first last least number spans old new (Ok bytes) reply kept has list is none =
    rw (kept, is) (colloc_lists corpus counted attr cql first last least number spans bytes old has list)
colloc_told corpus counted attr cql first last least number spans old new (Err e) reply kept has list is none = rw (kept, none) (colloc_starves corpus counted attr cql first last least old)
