-- What the replies to `sketch` and `thes` mean.
use Rattle.std.proofs.Common.{◌≡◌, ℕ, List, [], Option, Some, None, Result, Ok, Err, inl, refl, sym, append-nil}
use Rattle.std.specs.Prelude.{IfOk, OnErr}
use Rattle.std.specs.List.{flat_map}
use Rattle.mt_text_spec.specs.Lines.{closed}
use Rattle.mt_text_spec.specs.Registries.{Registry}
use Rattle.mt_text_spec.specs.Texts.{Text}
use Rattle.mt_text_spec.specs.Queries.{Grammar}
use Rattle.mt_match_spec.specs.Values.{Images}
use Rattle.mt_corpus_spec.specs.Groups.{corpus_of}
use Rattle.mt_corpus_spec.specs.Images.{Corpus}
use Rattle.mt_counts.specs.Counted.{Counted}
use Rattle.mt_triples.specs.CountsOf.{AreCountsOf}
use Rattle.mt_word_sketch_spec.specs.Sketches as sketches
use Rattle.mt_word_sketch_spec.specs.Thesaurus as thesaurus
use Rattle.mt_script_spec.specs.Commands.{Sketch, Thes}
use Rattle.mt_session_spec.specs.Scenes.{Scene}
use Rattle.mt_session_spec.specs.Refusals.{NoGrammar, refusal_line}
use Rattle.mt_session_spec.specs.Checks.{FirstStands, NoneStands}
use Rattle.mt_session_spec.specs.Answers.{Refused, Lines as LinesAnswer}
use Rattle.mt_session_spec.specs.Meaning.{Question, ExceptsNone}
use Rattle.mt_session_spec.specs.Sketching.{grammar_checks, ByGrammar, sketching, finding_alike}
use Rattle.mt_session_spec.specs.Steps.{AskAnswered}
use Rattle.mt_sketch.specs.Told.{IsSketchReply}
use Rattle.mt_thesaurus.specs.Told.{IsThesaurusReply}
use Rattle.mt_answer.specs.declared.reply.Reply.{Reply}
use Rattle.mt_answer.specs.declared.reply.Reply.TheVariants.{Lines, NoMemory}
use Rattle.mt_answer.specs.Replies.{SaysLines, Given, AnswersAsk, AreCountsBy, seen, gained_of}
use Rattle.mt_answer.proofs.Asks.{Asked, declined, starved, unasked}

-- ## Questions that ask what the grammar counts

-- what is said of a grammar over texts
abbrev pub Saying : Type 1
Saying = Images → Registry → Grammar → List Text → List (List ℕ) → Type 0

-- the question of which these are the lines
abbrev pub by_grammar : Saying → Scene → Question
by_grammar Says scene = record {
  checks = grammar_checks scene;
  Answers = λ lines. ByGrammar scene (λ grammar. Says scene.images scene.registry grammar scene.corpus lines);
  Excepts = ExceptsNone;
}

-- the bytes are such lines
abbrev pub AreBytesOf : Saying → Images → Registry → Grammar → List Text → List ℕ → Type 0
AreBytesOf Says images registry grammar texts bytes = (lines : List (List ℕ)) × Says images registry grammar texts lines × (bytes ≡ flat_map closed lines)

none_and_some : (held : Option Grammar) (grammar : Grammar) → held ≡ Some grammar → held ≡ None → ⊥
none_and_some held grammar some none = cc

none_stands : (scene : Scene) (grammar : Grammar) → scene.grammar ≡ Some grammar → NoneStands (grammar_checks scene)
none_stands scene grammar some = (λ refusal w. none_and_some scene.grammar grammar some w.there, tt)

stands : (images : Images) (corpus : Corpus) (grammar : Option Grammar) → AreCountsBy images corpus grammar None → FirstStands (grammar_checks (seen images corpus grammar)) NoGrammar
stands images corpus None are = inl (record { is = refl; there = refl })
stands images corpus (Some grammar) are = absurd are

-- where nothing is counted, no grammar is held
refused : (Says : Saying) (images : Images) (corpus : Corpus) (grammar : Option Grammar) (reply : Reply) → AreCountsBy images corpus grammar None → Given (Refused (refusal_line NoGrammar)) reply →
    Asked (by_grammar Says (seen images corpus grammar)) (gained_of []) reply
refused Says images corpus grammar reply are g = declined (by_grammar Says (seen images corpus grammar)) (gained_of []) NoGrammar reply (stands images corpus grammar are) g

-- what is counted is what the grammar counts
listed : (Says : Saying) (images : Images) (corpus : Corpus) (grammar : Option Grammar) (counted : Counted) (bytes : List ℕ) → AreCountsBy images corpus grammar (Some counted) →
    ((given : Grammar) → AreCountsOf images corpus.registry given (corpus_of corpus.groups) counted → AreBytesOf Says images corpus.registry given (corpus_of corpus.groups) bytes) →
    Asked (by_grammar Says (seen images corpus grammar)) (gained_of []) (Lines bytes)
listed Says images corpus None counted bytes are by = absurd are
listed Says images corpus (Some grammar) counted bytes are by =
    let (lines, says, closes) = by grammar are in
    record {
      answer = LinesAnswer lines;
      says = SaysLines bytes lines closes;
      holds = AskAnswered lines (none_stands (seen images corpus (Some grammar)) grammar refl) (record { grammar = grammar; held = refl; says = says });
    }

-- ## `sketch`

abbrev sketch_says : (lemma : List ℕ) (least most : ℕ) → Saying
sketch_says lemma least most = λ images registry grammar texts lines. sketches.Sketch images registry grammar texts lemma least most lines

-- these are the lines of a sketch over any texts of which the counts are
abbrev pub TellsSketch : Counted → (lemma : List ℕ) (least most : ℕ) → List ℕ → Type 0
TellsSketch counted lemma least most bytes = (images : Images) (registry : Registry) (grammar : Grammar) (texts : List Text) → AreCountsOf images registry grammar texts counted →
    IsSketchReply images registry grammar texts lemma least most bytes

pub sketch_refused : (corpus : Corpus) (least most : ℕ) (lemma : List ℕ) (old : List (List ℕ)) (reply : Reply) → Given (Refused (refusal_line NoGrammar)) reply →
    AnswersAsk corpus None (Sketch least most lemma) old old reply
sketch_refused corpus least most lemma old reply g = record {
  refused = [];
  more = sym (append-nil old);
  answers = λ images grammar agree are. refused (sketch_says lemma least most) images corpus grammar reply are g;
}

sketch_listed : (corpus : Corpus) (counted : Counted) (least most : ℕ) (lemma bytes : List ℕ) (old : List (List ℕ)) → TellsSketch counted lemma least most bytes →
    AnswersAsk corpus (Some counted) (Sketch least most lemma) old old (Lines bytes)
sketch_listed corpus counted least most lemma bytes old tells = record {
  refused = [];
  more = sym (append-nil old);
  answers = λ images grammar agree are. listed (sketch_says lemma least most) images corpus grammar counted bytes are
      (λ given counts. let reply = tells images corpus.registry given (corpus_of corpus.groups) counts in (reply.lines, reply.are, reply.bytes_are));
}

sketch_starves : (corpus : Corpus) (counted : Option Counted) (least most : ℕ) (lemma : List ℕ) (old : List (List ℕ)) → AnswersAsk corpus counted (Sketch least most lemma) old old NoMemory
sketch_starves corpus counted least most lemma old =
    unasked corpus counted (Sketch least most lemma) old NoMemory (λ images grammar. starved (sketching (seen images corpus grammar) least most lemma) (gained_of []))

pub sketch_told : {E : Type 0} (corpus : Corpus) (counted : Counted) (least most : ℕ) (lemma : List ℕ) (old : List (List ℕ)) (made : Result (List ℕ) E) (reply : Reply) →
    ((images : Images) (registry : Registry) (grammar : Grammar) (texts : List Text) → AreCountsOf images registry grammar texts counted →
    IfOk made (IsSketchReply images registry grammar texts lemma least most)) →
    IfOk made (λ bytes. reply ≡ Lines bytes) → OnErr made (reply ≡ NoMemory) → AnswersAsk corpus (Some counted) (Sketch least most lemma) old old reply
sketch_told corpus counted least most lemma old (Ok bytes) reply tells is none = rw is (sketch_listed corpus counted least most lemma bytes old tells)
sketch_told corpus counted least most lemma old (Err e) reply tells is none = rw none (sketch_starves corpus (Some counted) least most lemma old)

-- ## `thes`

abbrev thesaurus_says : (lemma : List ℕ) (most : ℕ) → Saying
thesaurus_says lemma most = λ images registry grammar texts lines. thesaurus.Thesaurus images registry grammar texts lemma most lines

-- these are the lines of a thesaurus over any texts of which the counts are
abbrev pub TellsThesaurus : Counted → (lemma : List ℕ) (most : ℕ) → List ℕ → Type 0
TellsThesaurus counted lemma most bytes = (images : Images) (registry : Registry) (grammar : Grammar) (texts : List Text) → AreCountsOf images registry grammar texts counted →
    IsThesaurusReply images registry grammar texts lemma most bytes

pub thesaurus_refused : (corpus : Corpus) (most : ℕ) (lemma : List ℕ) (old : List (List ℕ)) (reply : Reply) → Given (Refused (refusal_line NoGrammar)) reply →
    AnswersAsk corpus None (Thes most lemma) old old reply
thesaurus_refused corpus most lemma old reply g = record {
  refused = [];
  more = sym (append-nil old);
  answers = λ images grammar agree are. refused (thesaurus_says lemma most) images corpus grammar reply are g;
}

thesaurus_listed : (corpus : Corpus) (counted : Counted) (most : ℕ) (lemma bytes : List ℕ) (old : List (List ℕ)) → TellsThesaurus counted lemma most bytes →
    AnswersAsk corpus (Some counted) (Thes most lemma) old old (Lines bytes)
thesaurus_listed corpus counted most lemma bytes old tells = record {
  refused = [];
  more = sym (append-nil old);
  answers = λ images grammar agree are. listed (thesaurus_says lemma most) images corpus grammar counted bytes are
      (λ given counts. let reply = tells images corpus.registry given (corpus_of corpus.groups) counts in (reply.lines, reply.are, reply.bytes_are));
}

thesaurus_starves : (corpus : Corpus) (counted : Option Counted) (most : ℕ) (lemma : List ℕ) (old : List (List ℕ)) → AnswersAsk corpus counted (Thes most lemma) old old NoMemory
thesaurus_starves corpus counted most lemma old =
    unasked corpus counted (Thes most lemma) old NoMemory (λ images grammar. starved (finding_alike (seen images corpus grammar) most lemma) (gained_of []))

pub thesaurus_told : {E : Type 0} (corpus : Corpus) (counted : Counted) (most : ℕ) (lemma : List ℕ) (old : List (List ℕ)) (made : Result (List ℕ) E) (reply : Reply) →
    ((images : Images) (registry : Registry) (grammar : Grammar) (texts : List Text) → AreCountsOf images registry grammar texts counted →
    IfOk made (IsThesaurusReply images registry grammar texts lemma most)) →
    IfOk made (λ bytes. reply ≡ Lines bytes) → OnErr made (reply ≡ NoMemory) → AnswersAsk corpus (Some counted) (Thes most lemma) old old reply
thesaurus_told corpus counted most lemma old (Ok bytes) reply tells is none = rw is (thesaurus_listed corpus counted most lemma bytes old tells)
thesaurus_told corpus counted most lemma old (Err e) reply tells is none = rw none (thesaurus_starves corpus (Some counted) most lemma old)
