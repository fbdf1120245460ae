-- What the replies to `grammar` and `rules` mean.
use Rattle.std.proofs.Common.{◌≡◌, inl, inr, ℕ, Bool, Option, Some, List, [], ◌∷◌, ◌++◌, refl, sym, ◌∙◌, ap, subst, codes, append-nil}
use Rattle.std.specs.Fmt.{decimal}
use Rattle.mt_text_spec.specs.Lines.{closed}
use Rattle.mt_text_spec.specs.Queries.{Grammar}
use Rattle.mt_shelf_spec.specs.Files.{Files}
use Rattle.mt_corpus_spec.specs.Images.{Corpus, AreImagesBy}
use Rattle.mt_grammar_spec.specs.GrammarFile.{FirstGrammarFault}
use Rattle.mt_grammar_spec.specs.ReadGrammar.{ReadsGrammar, LacksRelation, relation_count}
use Rattle.mt_script_spec.specs.Commands.{Rules, Grammar as GrammarCommand}
use Rattle.mt_session_spec.specs.World.{Held, World, with_grammar}
use Rattle.mt_session_spec.specs.Settings.{Setting, images_of}
use Rattle.mt_session_spec.specs.Gains.{Gained}
use Rattle.mt_session_spec.specs.Refusals.{Refusal, NoSuchFile, FileTooLong, TooManyRows, refusal_line, failure_line, no_memory_line}
use Rattle.mt_session_spec.specs.Checks.{When, FirstStands, NoneStands}
use Rattle.mt_session_spec.specs.Answers as answers
use Rattle.mt_session_spec.specs.Files.{IsFile, file_checks}
use Rattle.mt_session_spec.specs.Meaning.{Meaning, Exception, LoadsNone, LoadsBehind, Starved, Blocked}
use Rattle.mt_session_spec.specs.Ruling.{GivesGrammar, IsNoGrammar, BadLine, Unrelated, HasBadRule, Bad, HasTooManyInSome, rule_checks, ExceptsRules, Plainly, Deep, Unbuilt, ruling, ruling_by_file}
use Rattle.mt_session_spec.specs.Laws.{HeldIsValid}
use Rattle.mt_session_spec.specs.Steps.{StepBy, FineBy, Meant, Excepted, Declined, Accepted}
use Rattle.mt_session_spec.specs.Runs.{Outside}
use Rattle.mt_answer.specs.declared.reply.Reply.{Reply}
use Rattle.mt_answer.specs.declared.reply.Reply.TheVariants.{Lines, NoMemory}
use Rattle.mt_answer.specs.declared.declined.Declined.{Declined as RustDeclined}
use Rattle.mt_answer.specs.declared.declined.Declined.TheVariants as declined
use Rattle.mt_answer.specs.Refusals.{refusal_of}
use Rattle.mt_answer.specs.Declines.{IsDeclined, declined_line}
use Rattle.mt_answer.specs.Replies.{SaysLines, Given as IsGiven, gained_of}
use Rattle.mt_rules.specs.Ruled.{Ruled, AreOver}
use Rattle.mt_rules.specs.Reading.{IsHeldIn, AreGiven, Body, ReadsRules, DeclinesRules}
use Rattle.mt_shell.specs.declared.fetch.Fetched.{Fetched}
use Rattle.mt_shell.specs.declared.fetch.Fetched.TheVariants as fetched
use Rattle.mt_shell.specs.Fetches.{Finds, gained_of as gained_at, failures}
use Rattle.mt_shell.specs.Sights.{Sees}
use Rattle.mt_shell.specs.Outsides.{gains, beside}
use Rattle.mt_shell.specs.Serves.{Kept, Serves, kept}
use Rattle.mt_shell.specs.Holding.{IsSound, grammar_of, corpus_in}
use Rattle.mt_shell.specs.Ruling.{TakesGrammar}
use Rattle.mt_shell.specs.Answers.{AnswersBeside, Stepped, over}
use Rattle.mt_shell.proofs.Meanings.{steps, starved, given, declined as refused_by, kept_from, no_cause, first_behind, none_both}
use Rattle.mt_shell.proofs.Shelves.{same_bytes, not_absent, file_is_there, at_file}

-- nothing more was refused
same_refused : (before : List (List ℕ)) → before ≡ before ++ []
same_refused before = sym (append-nil before)

-- ## `rules`

is_held : (state : Kept) (files : Files) → IsHeldIn (over state.held files) (corpus_in state)
is_held state files = record { registry = refl; groups = refl }

given_alone : (bytes : List ℕ) → AreGiven (λ given. given ≡ bytes) bytes
given_alone bytes = record { there = refl; only = λ other e. e }

pub count_said : (count : ℕ) (ruled : Ruled) (line : List ℕ) → line ≡ closed (codes "ok" ++ 32 ∷ decimal count) → count ≡ relation_count ruled.grammar.relations → line ≡ closed (codes "ok" ++ 32 ∷ decimal (relation_count ruled.grammar.relations))
count_said count ruled line e n = e ∙ ap (λ (k : ℕ). closed (codes "ok" ++ 32 ∷ decimal k)) n

pub rules_set : (setting : Setting) (state : Kept) (new : Held) (ruled : Ruled) (bytes line : List ℕ) (before : List (List ℕ)) → AreImagesBy (images_of setting) state.taken → ReadsRules (corpus_in state) bytes ruled →
    new ≡ with_grammar state.held ruled.grammar → line ≡ closed (codes "ok" ++ 32 ∷ decimal (relation_count ruled.grammar.relations)) → AnswersBeside setting state.held (Rules bytes) (Lines line) new before before
rules_set setting state new ruled bytes line before agree reads m e = record {
  refused = [];
  more = same_refused before;
  answers = λ files.
      let world = over state.held files in
      let said : List (List ℕ) = (codes "ok " ++ decimal (relation_count ruled.grammar.relations)) ∷ [] in
      record {
        answer = answers.Lines said;
        says = SaysLines line said (e ∙ sym (append-nil (closed (codes "ok " ++ decimal (relation_count ruled.grammar.relations)))));
        holds = Meant (over new files) (answers.Lines said) (Accepted (over new files) (answers.Lines said) (reads.passes setting world (Body bytes) (is_held state files) agree (given_alone bytes)) (record {
          grammar = ruled.grammar;
          gives = record { bytes = bytes; given = refl; read = reads.read };
          changed = ap (λ (h : Held). over h files) m;
          says = refl;
        }));
      };
}

no_rules_read : (setting : Setting) (held : Held) (bytes : List ℕ) (files : Files) (gained : Gained) → (ruling setting (over held files) bytes).Excepts gained (over held files) (answers.Refused no_memory_line)
no_rules_read setting held bytes files gained = Plainly (answers.Refused no_memory_line) Starved

pub rules_starved : (setting : Setting) (held new : Held) (bytes : List ℕ) (before : List (List ℕ)) → new ≡ held → AnswersBeside setting held (Rules bytes) NoMemory new before before
rules_starved setting held new bytes before m = rw m (record {
  refused = [];
  more = same_refused before;
  answers = λ files. starved (ruling setting (over held files) bytes) (over held files) (gained_of []) (no_rules_read setting held bytes files (gained_of []));
})

-- a meaning whose checks decline, or in place of which this may come
declines : (meant : Meaning) (world : World) (gained : Gained) (why : RustDeclined) → IsDeclined meant.checks (λ line. meant.Excepts gained world (answers.Refused line)) why → meant.Excepts gained world (answers.Refused no_memory_line) →
    StepBy meant world gained world (answers.Refused (declined_line why))
declines meant world gained (declined.Refused refusal) (inl f) s = Meant world (answers.Refused (refusal_line (refusal_of refusal))) (Declined (refusal_of refusal) f)
declines meant world gained (declined.Refused refusal) (inr x) s = Excepted world (answers.Refused (refusal_line (refusal_of refusal))) x
declines meant world gained (declined.PatternRefused number) x s = Excepted world (answers.Refused (declined_line (declined.PatternRefused number))) x
declines meant world gained declined.NoMemory x s = Excepted world (answers.Refused no_memory_line) s

pub rules_declined : (setting : Setting) (state : Kept) (bytes : List ℕ) (why : RustDeclined) (reply : Reply) (before after : List (List ℕ)) → AreImagesBy (images_of setting) state.taken → DeclinesRules (corpus_in state) bytes before after why →
    IsGiven (answers.Refused (declined_line why)) reply → AnswersBeside setting state.held (Rules bytes) reply state.held before after
rules_declined setting state bytes why reply before after agree d g = record {
  refused = d.refused;
  more = d.more;
  answers = λ files.
      let world = over state.held files in
      let starving = no_rules_read setting state.held bytes files (gained_of d.refused) in
      given (ruling setting world bytes) world (gained_of d.refused) (answers.Refused (declined_line why)) reply
      (declines (ruling setting world bytes) world (gained_of d.refused) why (d.stands setting world (Body bytes) (is_held state files) agree (given_alone bytes)) starving) starving g;
}

-- ## The bytes of a file mean what the same bytes do behind `rules`

module _ (setting : Setting) (world : World) (file bytes : List ℕ) (f : IsFile world.files file bytes) where
  abbrev Here : List ℕ → Type 0
  Here = λ given. given ≡ bytes

  abbrev There : List ℕ → Type 0
  There = IsFile world.files file

  only : (other : List ℕ) → There other → other ≡ bytes
  only other g = same_bytes world.files file other bytes g.found f.found

  gives : (grammar : Grammar) → GivesGrammar world.held.registry Here grammar → GivesGrammar world.held.registry There grammar
  gives grammar g = record { bytes = bytes; given = f; read = subst (λ (b : List ℕ). ReadsGrammar world.held.registry b grammar) g.given g.read }

  gives_back : (grammar : Grammar) → GivesGrammar world.held.registry There grammar → GivesGrammar world.held.registry Here grammar
  gives_back grammar g = record { bytes = g.bytes; given = only g.bytes g.given; read = g.read }

  no_grammar : (refusal : Refusal) → IsNoGrammar world.held.registry Here refusal → IsNoGrammar world.held.registry There refusal
  no_grammar refusal (BadLine read line cause same fault) = BadLine bytes line cause f (subst (λ (b : List ℕ). FirstGrammarFault world.held.registry b line cause) same fault)
  no_grammar refusal (Unrelated read same lacks) = Unrelated bytes f (subst (λ (b : List ℕ). LacksRelation world.held.registry b) same lacks)

  no_grammar_back : (refusal : Refusal) → IsNoGrammar world.held.registry There refusal → IsNoGrammar world.held.registry Here refusal
  no_grammar_back refusal (BadLine read line cause g fault) = BadLine read line cause (only read g) fault
  no_grammar_back refusal (Unrelated read g lacks) = Unrelated read (only read g) lacks

  bad_rule : (refusal : Refusal) → HasBadRule world.held.registry Here refusal → HasBadRule world.held.registry There refusal
  bad_rule refusal (Bad grammar k g bad) = Bad grammar k (gives grammar g) bad

  bad_rule_back : (refusal : Refusal) → HasBadRule world.held.registry There refusal → HasBadRule world.held.registry Here refusal
  bad_rule_back refusal (Bad grammar k g bad) = Bad grammar k (gives_back grammar g) bad

  too_many : (refusal : Refusal) → When (HasTooManyInSome setting world Here) TooManyRows refusal → When (HasTooManyInSome setting world There) TooManyRows refusal
  too_many refusal w = record { is = w.is; there = record { grammar = w.there.grammar; gives = gives w.there.grammar w.there.gives; text = w.there.text; there = w.there.there; many = w.there.many } }

  too_many_back : (refusal : Refusal) → When (HasTooManyInSome setting world There) TooManyRows refusal → When (HasTooManyInSome setting world Here) TooManyRows refusal
  too_many_back refusal w = record { is = w.is; there = record { grammar = w.there.grammar; gives = gives_back w.there.grammar w.there.gives; text = w.there.text; there = w.there.there; many = w.there.many } }

  first_there : (refusal : Refusal) → FirstStands (rule_checks setting world Here) refusal → FirstStands (rule_checks setting world There) refusal
  first_there refusal (inl n) = inl (no_grammar refusal n)
  first_there refusal (inr (read, inl b)) = inr ((λ r n. read r (no_grammar_back r n)), inl (bad_rule refusal b))
  first_there refusal (inr (read, inr (good, inl t))) = inr ((λ r n. read r (no_grammar_back r n)), inr ((λ r b. good r (bad_rule_back r b)), inl (too_many refusal t)))
  first_there refusal (inr (read, inr (good, inr (few, none)))) = absurd none

  none_there : NoneStands (rule_checks setting world Here) → NoneStands (rule_checks setting world There)
  none_there none = ((λ r n. none.0 r (no_grammar_back r n)), ((λ r b. none.1.0 r (bad_rule_back r b)), ((λ r t. none.1.1.0 r (too_many_back r t)), tt)))

  plain_there : (gained : Gained) (new : World) (answer : answers.Answer) → Exception world LoadsNone gained new answer → Exception world (LoadsBehind [] file) gained new answer
  plain_there gained new answer Starved = Starved
  plain_there gained new answer (Blocked other loads failed) = absurd loads

  excepts_there : (gained : Gained) (new : World) (answer : answers.Answer) → ExceptsRules world LoadsNone Here gained new answer → ExceptsRules world (LoadsBehind [] file) There gained new answer
  excepts_there gained new answer (Plainly said e) = Plainly said (plain_there gained new said e)
  excepts_there gained new answer (Deep grammar k g d) = Deep grammar k (gives grammar g) d
  excepts_there gained new answer (Unbuilt grammar k g r) = Unbuilt grammar k (gives grammar g) r

  checks_behind : NoneStands (file_checks world.files file)
  checks_behind = file_is_there world.files file bytes f

  fine_there : (new : World) (answer : answers.Answer) → FineBy (ruling setting world bytes) world new answer → FineBy (ruling_by_file setting world file) world new answer
  fine_there new answer (Declined refusal s) = Declined refusal (first_behind (file_checks world.files file) (rule_checks setting world There) refusal checks_behind (first_there refusal s))
  fine_there new answer (Accepted other said none a) = Accepted other said (none_both (file_checks world.files file) (rule_checks setting world There) checks_behind (none_there none))
      (record { grammar = a.grammar; gives = gives a.grammar a.gives; changed = a.changed; says = a.says })

  step_there : (gained : Gained) (new : World) (answer : answers.Answer) → StepBy (ruling setting world bytes) world gained new answer → StepBy (ruling_by_file setting world file) world gained new answer
  step_there gained new answer (Meant other said m) = Meant other said (fine_there other said m)
  step_there gained new answer (Excepted other said e) = Excepted other said (excepts_there gained other said e)

-- ## `grammar`

pub grammar_read : (setting : Setting) (held new : Held) (file bytes : List ℕ) (reply : Reply) (before after : List (List ℕ)) → AnswersBeside setting held (Rules bytes) reply new before after → TakesGrammar setting held file (fetched.Whole bytes) reply new before after
grammar_read setting held new file bytes reply before after s = record {
  refused = s.refused;
  more = s.more;
  answers = λ files f.
      let r = s.answers files in
      record { answer = r.answer; says = r.says; holds = step_there setting (over held files) file bytes f (gained_of s.refused) (over new files) r.answer r.holds };
}

starving : (setting : Setting) (held : Held) (file : List ℕ) (files : Files) (gained : Gained) → (ruling_by_file setting (over held files) file).Excepts gained (over held files) (answers.Refused no_memory_line)
starving setting held file files gained = Plainly (answers.Refused no_memory_line) Starved

pub grammar_absent : (setting : Setting) (held : Held) (file : List ℕ) (reply : Reply) (before : List (List ℕ)) → IsGiven (answers.Refused (refusal_line (NoSuchFile file))) reply → TakesGrammar setting held file fetched.Absent reply held before before
grammar_absent setting held file reply before g = record {
  refused = [];
  more = same_refused before;
  answers = λ files a. refused_by (ruling_by_file setting (over held files) file) (over held files) (gained_of []) (NoSuchFile file) reply (inl (record { is = refl; there = a })) (starving setting held file files (gained_of [])) g;
}

pub grammar_too_long : (setting : Setting) (held : Held) (file : List ℕ) (reply : Reply) (before : List (List ℕ)) → IsGiven (answers.Refused (refusal_line (FileTooLong file))) reply → TakesGrammar setting held file fetched.TooLong reply held before before
grammar_too_long setting held file reply before g = record {
  refused = [];
  more = same_refused before;
  answers = λ files t. refused_by (ruling_by_file setting (over held files) file) (over held files) (gained_of []) (FileTooLong file) reply (inr (no_cause (not_absent files file t.bytes t.found), inl (record { is = refl; there = t })))
      (starving setting held file files (gained_of [])) g;
}

pub grammar_failed : (setting : Setting) (held : Held) (file : List ℕ) (reply : Reply) (before : List (List ℕ)) → IsGiven (answers.Refused (failure_line file)) reply → TakesGrammar setting held file fetched.Failed reply held before before
grammar_failed setting held file reply before g = record {
  refused = [];
  more = same_refused before;
  answers = λ files f.
      let gained : Gained = record { failed = file ∷ []; refused = [] } in
      kept_from (ruling_by_file setting (over held files) file) (over held files) gained file reply (Plainly (answers.Refused (failure_line file)) (Blocked file (record { is = refl; reached = tt }) (at_file file)))
      (starving setting held file files gained) g;
}

pub grammar_starved : (setting : Setting) (held : Held) (file : List ℕ) (before : List (List ℕ)) → TakesGrammar setting held file fetched.NoMemory NoMemory held before before
grammar_starved setting held file before = record {
  refused = [];
  more = same_refused before;
  answers = λ files f. starved (ruling_by_file setting (over held files) file) (over held files) (gained_of []) (starving setting held file files (gained_of []));
}

-- over a shelf and beside a shop
gains_both : (start end : Outside) (file : List ℕ) (found : Fetched) (before after refused : List (List ℕ)) → end ≡ gains start (gained_at file found) → after ≡ before ++ refused →
    beside end after ≡ gains (beside start before) (record { failed = failures file found; refused = refused })
gains_both start end file found before after refused e m = rw (e, m) refl

pub steps_by_file : (setting : Setting) (held new : Held) (file : List ℕ) (found : Fetched) (reply : Reply) (start end : Outside) (before after : List (List ℕ)) → Sees start.files (λ files. Finds files file found) → end ≡ gains start (gained_at file found) →
    TakesGrammar setting held file found reply new before after → Stepped setting held (GrammarCommand file) reply new (beside start before) (beside end after)
steps_by_file setting held new file found reply start end before after s e t =
    steps setting held new (GrammarCommand file) reply (record { failed = failures file found; refused = t.refused }) s.value (beside start before) (beside end after) s.agrees
    (gains_both start end file found before after t.refused e t.more) (t.answers s.value s.holds)

-- ## What is held

module _ (accepted : Bool) (old : Option Ruled) (ruled : Ruled) (corpus : Corpus) where
  pub sound_ruled : HeldIsValid → AreOver corpus ruled → IsSound accepted old corpus → IsSound accepted (Some ruled) corpus
  sound_ruled laws o s = record { held = laws.grammar (kept accepted (grammar_of old) corpus).held ruled.grammar s.held o.valid; over = o }

  pub grammar_held : (state : Kept) → kept accepted (grammar_of old) corpus ≡ state → (kept accepted (Some ruled.grammar) corpus).held ≡ with_grammar state.held ruled.grammar
  grammar_held state v = ap (λ (k : Kept). with_grammar k.held ruled.grammar) v

  pub serves_ruled : (setting : Setting) (mappers : List (List ℕ × (List ℕ → List ℕ))) (state : Kept) → kept accepted (grammar_of old) corpus ≡ state → Serves setting mappers state → Serves setting mappers (kept accepted (Some ruled.grammar) corpus)
  serves_ruled setting mappers state v s =
      let t : Serves setting mappers (kept accepted (grammar_of old) corpus) = subst (λ (k : Kept). Serves setting mappers k) (sym v) s in
      record { all = t.all; only = t.only; there = t.there; agree = t.agree; taken = t.taken }
