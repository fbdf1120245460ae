-- No command has two meanings.
use Rattle.std.proofs.Common.{◌≡◌, inl, inr, ℕ, suc, ◌<◌, List, [], ◌∷◌, ◌++◌, length, Some, Ok, Err, arith, refl, sym, ◌∙◌, ap, subst, codes}
use Rattle.std.specs.Prelude.{slice_get}
use Rattle.std.specs.List.{All}
use Rattle.std.specs.Fmt.{decimal}
use Rattle.std.proofs.lemmas.Bool.{cases_lt}
use Rattle.std.proofs.lemmas.Option.{slice_get_within, get_or_from_slice_get}
use Rattle.mt_text_spec.specs.Registries.{Registry, ValidRegistry, AreDistinct, attr_names}
use Rattle.mt_text_spec.specs.Texts.{Text, Span}
use Rattle.mt_text_spec.specs.Queries.{Query, Grammar}
use Rattle.mt_query_spec.specs.Verdicts as verdict
use Rattle.mt_query_spec.specs.Contents.{patterns}
use Rattle.mt_match_spec.specs.Kept.{Spans}
use Rattle.mt_match_laws.specs.Laws.{SpansAreOne}
use Rattle.mt_report_laws.specs.Laws.{FrequenciesAreOne, CollocatesAreOne}
use Rattle.mt_grammar_spec.specs.ReadGrammar.{relation_count}
use Rattle.mt_grammar_laws.specs.Laws as grammar
use Rattle.mt_word_sketch_spec.specs.Sketches.{Sketch}
use Rattle.mt_word_sketch_spec.specs.Thesaurus.{Thesaurus}
use Rattle.mt_word_sketch_laws.specs.Laws.{OneSketch, OneThesaurus}
use Rattle.mt_rule_spec.specs.Rules.{grammar_patterns}
use Rattle.mt_report_spec.specs.Lines.{query_lines}
use Rattle.mt_report_spec.specs.Counts.{FrequencyText, CollocationText}
use Rattle.mt_shelf_spec.specs.Files.{Files}
use Rattle.mt_vertical.specs.TextLaws as text
use Rattle.mt_registry.specs.RegistryLaws as registry
use Rattle.mt_script_spec.specs.Commands as command
use Rattle.mt_script_spec.specs.Commands.{Ask, Command}
use Rattle.mt_generate_spec.specs.Verticals.{generated_vertical}
use Rattle.mt_session_spec.specs.World.{World, Held, ValidHeld, with_text, with_grammar, corpus_of}
use Rattle.mt_session_spec.specs.Scenes.{Scene, scene_of}
use Rattle.mt_session_spec.specs.Patterns.{IsWhole, IsFirstBad}
use Rattle.mt_session_spec.specs.Settings.{Setting, mapper_names}
use Rattle.mt_session_spec.specs.Refusals.{NameTaken, NoSuchFile, FileTooLong, RegistryLate, BadCommand, CorpusFull, BadVertical, BadRegistry, BadQuery, UnknownName, BadPattern, TooManyRows, NoSuchText, NoGrammar, BadGrammar}
use Rattle.mt_session_spec.specs.Checks.{IsSingle, AreSingle}
use Rattle.mt_session_spec.specs.Files.{IsFile, file_checks}
use Rattle.mt_session_spec.specs.Meaning.{asking, unbuilt, Question}
use Rattle.mt_session_spec.specs.Registering.{registering, with_registry, SetsRegistry, IsNoRegistry, BadLine as BadRegistryLine, Baseless}
use Rattle.mt_session_spec.specs.Adding.{texting, adding, AddsText, IsNoText, BadLine, text_checks}
use Rattle.mt_session_spec.specs.Asking.{Reads, IsNoQuery, Great, Faulty, Undeclared, HasBadPattern, Bad, HasTooManyRows, Many, query_checks, name_at}
use Rattle.mt_session_spec.specs.Counting.{Counts, number_line}
use Rattle.mt_session_spec.specs.Querying.{ListsSpans}
use Rattle.mt_session_spec.specs.Reporting.{Reports, report_checks}
use Rattle.mt_session_spec.specs.Ruling.{GivesGrammar, IsNoGrammar, BadLine as BadGrammarLine, Unrelated, HasBadRule, Bad as BadRule, SetsGrammar, rule_checks, ruling, ruling_by_file}
use Rattle.mt_session_spec.specs.Sketching.{ByGrammar, sketching, finding_alike}
use Rattle.mt_session_spec.specs.Removing.{removing, RemovesText}
use Rattle.mt_session_spec.specs.Meanings.{meaning, question}
use Rattle.mt_session_spec.specs.Answers.{Answer, Lines}
use Rattle.mt_session_laws.specs.Lawful.{HasOne, OneQuery}
use Rattle.mt_session_laws.proofs.Checks.{single_when}
use Rattle.mt_session_laws.proofs.Worlds.{one_named}

-- what the readers' laws say
pub record Readings : Type 0 where
  pub one_text : text.OneText
  pub no_text_with_fault : text.NoTextWithFault
  pub one_fault : text.OneFault
  pub one_registry : registry.OneRegistry
  pub one_registry_fault : registry.OneFault
  pub apart : registry.AreApart
  pub one_query : OneQuery
  pub one_spans : SpansAreOne
  pub one_frequencies : FrequenciesAreOne
  pub one_collocates : CollocatesAreOne
  pub one_grammar : grammar.OneGrammar
  pub one_grammar_fault : grammar.OneFault
  pub grammars_apart : grammar.AreApart
  pub one_sketch : OneSketch
  pub one_thesaurus : OneThesaurus

-- ## Files

pub same_bytes : (files : Files) (name a b : List ℕ) → IsFile files name a → IsFile files name b → a ≡ b
same_bytes files name a b f g = let h : Some a ≡ Some b = sym f.found ∙ g.found in cc

single_files : (files : Files) (name : List ℕ) → AreSingle (file_checks files name)
single_files files name = (single_when (NoSuchFile name), (single_when (FileTooLong name), tt))

-- ## `registry`

one_no_registry : (laws : Readings) (setting : Setting) (world : World) (file : List ℕ) → IsSingle (IsNoRegistry setting world file)
one_no_registry laws setting world file a b (BadRegistryLine x line cause f h) (BadRegistryLine y number other g k) =
    let same = same_bytes world.files file x y f g in
    let one = laws.one_registry_fault (mapper_names setting) y line number cause other (rw same at h) k in
    ap (λ n. BadRegistry n cause) one.0 ∙ ap (λ c. BadRegistry number c) one.1
one_no_registry laws setting world file a b (BadRegistryLine x line cause f h) (Baseless y g k) =
    absurd (laws.apart.baseless_or_faulty (mapper_names setting) y line cause k (rw (same_bytes world.files file x y f g) at h))
one_no_registry laws setting world file a b (Baseless x f h) (BadRegistryLine y line cause g k) =
    absurd (laws.apart.baseless_or_faulty (mapper_names setting) y line cause (rw (same_bytes world.files file x y f g) at h) k)
one_no_registry laws setting world file a b (Baseless x f h) (Baseless y g k) = refl

sets_one : (laws : Readings) (setting : Setting) (world : World) (file : List ℕ) (new other : World) (answer another : Answer) → SetsRegistry setting world file new answer →
    SetsRegistry setting world file other another → (new ≡ other) × (answer ≡ another)
sets_one laws setting world file new other answer another s t =
    let same = same_bytes world.files file s.bytes t.bytes s.found t.found in
    let one : s.registry ≡ t.registry = laws.one_registry (mapper_names setting) t.bytes s.registry t.registry (rw same at s.read) t.read in
    (s.changed ∙ ap (λ r. record world { held = with_registry world.held r }) one ∙ sym t.changed, s.says ∙ sym t.says)

registry_one : (laws : Readings) (setting : Setting) (world : World) (file : List ℕ) → HasOne (registering setting world file)
registry_one laws setting world file = record {
  checks = (single_when RegistryLate, (single_when (NoSuchFile file), (single_when (FileTooLong file), (one_no_registry laws setting world file, tt))));
  one = sets_one laws setting world file;
}

-- ## `text` and `add`

-- the bytes are one
abbrev pub AreOne : (List ℕ → Type 0) → Type 0
AreOne Given = (a b : List ℕ) → Given a → Given b → a ≡ b

one_no_text : (laws : Readings) (registry : Registry) (Given : List ℕ → Type 0) → ValidRegistry registry → AreOne Given → IsSingle (IsNoText registry Given)
one_no_text laws registry Given valid one a b (BadLine x line cause f h) (BadLine y number other g k) =
    let same = laws.one_fault registry y line number cause other valid (rw (one x y f g) at h) k in
    ap (λ n. BadVertical n cause) same.0 ∙ ap (λ c. BadVertical number c) same.1

single_texts : (laws : Readings) (setting : Setting) (held : Held) (name : List ℕ) (Given : List ℕ → Type 0) → ValidRegistry held.registry → AreOne Given → AreSingle (text_checks setting held name Given)
single_texts laws setting held name Given valid one = (one_no_text laws held.registry Given valid one, (single_when CorpusFull, (single_when TooManyRows, tt)))

adds_one : (laws : Readings) (world : World) (name : List ℕ) (Given : List ℕ → Type 0) → ValidRegistry world.held.registry → AreOne Given → (new other : World) (answer another : Answer) →
    AddsText world name Given new answer → AddsText world name Given other another → (new ≡ other) × (answer ≡ another)
adds_one laws world name Given valid one new other answer another s t =
    let bytes = one s.bytes t.bytes s.given t.given in
    let same : s.text ≡ t.text = laws.one_text world.held.registry name t.bytes s.text t.text valid (rw bytes at s.read) t.read in (
      s.changed ∙ ap (λ x. record world { held = with_text world.held x }) same ∙ sym t.changed,
      s.says ∙ ap (λ (x : Text). Lines ((codes "ok " ++ decimal (length x.tokens)) ∷ [])) same ∙ sym t.says,
    )

text_one : (laws : Readings) (setting : Setting) (world : World) (name body : List ℕ) → ValidRegistry world.held.registry → HasOne (texting setting world name body)
text_one laws setting world name body valid =
    let one : AreOne (λ bytes. bytes ≡ body) = λ a b f g. f ∙ sym g in
    record {
      checks = (single_when (NameTaken name), single_texts laws setting world.held name (λ bytes. bytes ≡ body) valid one);
      one = adds_one laws world name (λ bytes. bytes ≡ body) valid one;
    }

add_one : (laws : Readings) (setting : Setting) (world : World) (name file : List ℕ) → ValidRegistry world.held.registry → HasOne (adding setting world name file)
add_one laws setting world name file valid =
    let one : AreOne (IsFile world.files file) = same_bytes world.files file in
    record {
      checks = (single_when (NameTaken name), (single_when (NoSuchFile file), (single_when (FileTooLong file), single_texts laws setting world.held name (IsFile world.files file) valid one)));
      one = adds_one laws world name (IsFile world.files file) valid one;
    }

-- ## Questions

same_query : (laws : Readings) (scene : Scene) (cql : List ℕ) (a b : Query) → Reads scene cql (Ok a) → Reads scene cql (Ok b) → a ≡ b
same_query laws scene cql a b r s = let e = laws.one_query scene.registry 0 cql (Ok a) (Ok b) r s in cc

same_refusal : (laws : Readings) (scene : Scene) (cql : List ℕ) (a b : verdict.Refusal) → Reads scene cql (Err a) → Reads scene cql (Err b) → a ≡ b
same_refusal laws scene cql a b r s = let e = laws.one_query scene.registry 0 cql (Err a) (Err b) r s in cc

great_faulty : (at : ℕ) (cause : verdict.Cause) → verdict.TooLarge ≡ verdict.Syntax at cause → ⊥
great_faulty at cause e = cc

great_unknown : (at : ℕ) → verdict.TooLarge ≡ verdict.Unknown at → ⊥
great_unknown at e = cc

faulty_unknown : (at place : ℕ) (cause : verdict.Cause) → verdict.Syntax at cause ≡ verdict.Unknown place → ⊥
faulty_unknown at place cause e = cc

same_fault : (at place : ℕ) (cause other : verdict.Cause) → verdict.Syntax at cause ≡ verdict.Syntax place other → BadQuery at cause ≡ BadQuery place other
same_fault at place cause other e = cc

same_place : (at place : ℕ) → verdict.Unknown at ≡ verdict.Unknown place → at ≡ place
same_place at place e = cc

one_no_query : (laws : Readings) (scene : Scene) (cql : List ℕ) → IsSingle (IsNoQuery scene cql)
one_no_query laws scene cql a b (Great r) (Great s) = refl
one_no_query laws scene cql a b (Great r) (Faulty at cause s) = absurd (great_faulty at cause (same_refusal laws scene cql _ _ r s))
one_no_query laws scene cql a b (Great r) (Undeclared at s) = absurd (great_unknown at (same_refusal laws scene cql _ _ r s))
one_no_query laws scene cql a b (Faulty at cause r) (Great s) = absurd (great_faulty at cause (same_refusal laws scene cql _ _ s r))
one_no_query laws scene cql a b (Faulty at cause r) (Faulty place other s) = same_fault at place cause other (same_refusal laws scene cql _ _ r s)
one_no_query laws scene cql a b (Faulty at cause r) (Undeclared place s) = absurd (faulty_unknown at place cause (same_refusal laws scene cql _ _ r s))
one_no_query laws scene cql a b (Undeclared at r) (Great s) = absurd (great_unknown at (same_refusal laws scene cql _ _ s r))
one_no_query laws scene cql a b (Undeclared at r) (Faulty place cause s) = absurd (faulty_unknown place at cause (same_refusal laws scene cql _ _ s r))
one_no_query laws scene cql a b (Undeclared at r) (Undeclared place s) = ap (λ n. UnknownName (name_at cql n)) (same_place at place (same_refusal laws scene cql _ _ r s))

-- the first text that is no pattern of whole values stands at one place
stops_at_one : (before : List (List ℕ)) (text : List ℕ) (behind others : List (List ℕ)) (other : List ℕ) (more : List (List ℕ)) → before ++ text ∷ behind ≡ others ++ other ∷ more →
    All IsWhole before → All IsWhole others → (IsWhole text → ⊥) → (IsWhole other → ⊥) → length before ≡ length others
stops_at_one [] text behind [] other more e p q n m = refl
stops_at_one [] text behind (x ∷ others) other more e p q n m = let same : x ≡ text = cc in absurd (n (subst IsWhole same (q 0 x (omega arith))))
stops_at_one (x ∷ before) text behind [] other more e p q n m = let same : x ≡ other = cc in absurd (m (subst IsWhole same (p 0 x (omega arith))))
stops_at_one (x ∷ before) text behind (y ∷ others) other more e p q n m =
    let rest : before ++ text ∷ behind ≡ others ++ other ∷ more = cc in
    let here : All IsWhole before = λ k d low. p (suc k) d (omega arith) in
    let there : All IsWhole others = λ k d low. q (suc k) d (omega arith) in
    ap suc (stops_at_one before text behind others other more rest here there n m)

first_bad_one : (texts : List (List ℕ)) (k n : ℕ) → IsFirstBad texts k → IsFirstBad texts n → k ≡ n
first_bad_one texts k n a b =
    a.stops.number ∙ ap suc (stops_at_one a.stops.before a.text a.stops.behind b.stops.before b.text b.stops.behind (sym a.stops.split ∙ b.stops.split) a.stops.patterns b.stops.patterns a.none b.none)
    ∙ sym b.stops.number

one_bad_pattern : (laws : Readings) (scene : Scene) (cql : List ℕ) → IsSingle (HasBadPattern scene cql)
one_bad_pattern laws scene cql a b (Bad query k r f) (Bad other n s g) =
    let same = same_query laws scene cql query other r s in
    ap BadPattern (first_bad_one (patterns other) k n (subst (λ (q : Query). IsFirstBad (patterns q) k) same f) g)

one_too_many : (scene : Scene) (cql : List ℕ) → IsSingle (HasTooManyRows scene cql)
one_too_many scene cql a b (Many query r o) (Many other s p) = refl

single_query : (laws : Readings) (scene : Scene) (cql : List ℕ) → AreSingle (query_checks scene cql)
single_query laws scene cql = (one_no_query laws scene cql, (one_bad_pattern laws scene cql, (one_too_many scene cql, tt)))

same_spans : (laws : Readings) (scene : Scene) (cql : List ℕ) (a b : Query) (spans others : List Span) → Reads scene cql (Ok a) → Reads scene cql (Ok b) →
    Spans scene.images scene.registry scene.corpus a spans → Spans scene.images scene.registry scene.corpus b others → spans ≡ others
same_spans laws scene cql a b spans others r s p q =
    laws.one_spans scene.images scene.registry scene.corpus b spans others (subst (λ (x : Query). Spans scene.images scene.registry scene.corpus x spans) (same_query laws scene cql a b r s) p) q

counts_one : (laws : Readings) (scene : Scene) (cql : List ℕ) → (lines others : List (List ℕ)) → Counts scene cql lines → Counts scene cql others → lines ≡ others
counts_one laws scene cql lines others c d =
    c.says ∙ ap (λ (spans : List Span). number_line (length spans) ∷ []) (same_spans laws scene cql c.query d.query c.spans d.spans c.read d.read c.are d.are) ∙ sym d.says

queries_one : (laws : Readings) (scene : Scene) (cql : List ℕ) → (lines others : List (List ℕ)) → ListsSpans scene cql lines → ListsSpans scene cql others → lines ≡ others
queries_one laws scene cql lines others c d =
    c.says ∙ ap (query_lines scene.images scene.registry scene.corpus) (same_spans laws scene cql c.query d.query c.spans d.spans c.read d.read c.are d.are) ∙ sym d.says

-- ## Reports

before_not : (names : List (List ℕ)) → AreDistinct names → (name : List ℕ) (i j : ℕ) → slice_get names i ≡ Some name → slice_get names j ≡ Some name → i < j → ⊥
before_not names distinct name i j a b low =
    distinct i j name low (slice_get_within names j name b) (get_or_from_slice_get names i name name a ∙ sym (get_or_from_slice_get names j name name b))

-- of names that differ one number has this one
same_number : (names : List (List ℕ)) → AreDistinct names → (name : List ℕ) (i j : ℕ) → slice_get names i ≡ Some name → slice_get names j ≡ Some name → i ≡ j
same_number names distinct name i j a b = elim (cases_lt i j) [
  | inl low ↦ absurd (before_not names distinct name i j a b low)
  | inr high ↦ elim (cases_lt j i) [
    | inl low ↦ absurd (before_not names distinct name j i b a low)
    | inr low ↦ omega (arith, high, low)
  ]
]

single_report : (laws : Readings) (scene : Scene) (attr cql : List ℕ) → AreSingle (report_checks scene attr cql)
single_report laws scene attr cql = (single_when (UnknownName attr), single_query laws scene cql)

-- where the spans and the number of the attribute say one thing only, so does the report
reports_one : (laws : Readings) (scene : Scene) (attr cql : List ℕ) (Says : (lines : List (List ℕ)) (spans : List Span) (number : ℕ) → Type 0) → ValidRegistry scene.registry →
    ((spans : List Span) (number : ℕ) (lines others : List (List ℕ)) → Says lines spans number → Says others spans number → lines ≡ others) → (lines others : List (List ℕ)) →
    Reports scene attr cql (Says lines) → Reports scene attr cql (Says others) → lines ≡ others
reports_one laws scene attr cql Says valid one lines others r s =
    let spans : r.spans ≡ s.spans = same_spans laws scene cql r.query s.query r.spans s.spans r.read s.read r.are s.are in
    let number : r.number ≡ s.number = same_number (attr_names scene.registry.attrs) valid.distinct attr r.number s.number r.named s.named in
    one s.spans s.number lines others (subst (λ (n : ℕ). Says lines s.spans n) number (subst (λ (x : List Span). Says lines x r.number) spans r.says)) s.says

-- a question has one answer at most
record AsksOne (asked : Question) : Type 0 where
  pub checks : AreSingle asked.checks
  pub one : (lines others : List (List ℕ)) → asked.Answers lines → asked.Answers others → lines ≡ others

-- where the grammar that is held says one thing only, so does the question
by_grammar_one : (scene : Scene) (Says : Grammar → List (List ℕ) → Type 0) → ((g : Grammar) (lines others : List (List ℕ)) → Says g lines → Says g others → lines ≡ others) → (lines others : List (List ℕ)) →
    ByGrammar scene (λ g. Says g lines) → ByGrammar scene (λ g. Says g others) → lines ≡ others
by_grammar_one scene Says one lines others s t =
    let held : Some s.grammar ≡ Some t.grammar = sym s.held ∙ t.held in
    let same : s.grammar ≡ t.grammar = cc in
    one t.grammar lines others (subst (λ (g : Grammar). Says g lines) same s.says) t.says

sketch_one : (laws : Readings) (scene : Scene) (least most : ℕ) (lemma : List ℕ) → AsksOne (sketching scene least most lemma)
sketch_one laws scene least most lemma = record {
  checks = (single_when NoGrammar, tt);
  one = by_grammar_one scene (λ g lines. Sketch scene.images scene.registry g scene.corpus lemma least most lines)
      (λ g lines others. laws.one_sketch scene.images scene.registry g scene.corpus lemma least most lines others);
}

alike_one : (laws : Readings) (scene : Scene) (most : ℕ) (lemma : List ℕ) → AsksOne (finding_alike scene most lemma)
alike_one laws scene most lemma = record {
  checks = (single_when NoGrammar, tt);
  one = by_grammar_one scene (λ g lines. Thesaurus scene.images scene.registry g scene.corpus lemma most lines)
      (λ g lines others. laws.one_thesaurus scene.images scene.registry g scene.corpus lemma most lines others);
}

question_one : (laws : Readings) (scene : Scene) (ask : Ask) → ValidRegistry scene.registry → AsksOne (question scene ask)
question_one laws scene (command.Count cql) valid = record { checks = single_query laws scene cql; one = counts_one laws scene cql }
question_one laws scene (command.Query cql) valid = record { checks = single_query laws scene cql; one = queries_one laws scene cql }
question_one laws scene (command.Freq attr offset cql) valid = record {
  checks = single_report laws scene attr cql;
  one = reports_one laws scene attr cql (λ lines spans number. FrequencyText scene.images scene.registry scene.corpus spans number offset lines) valid
      (λ spans number. laws.one_frequencies scene.images scene.registry scene.corpus spans number offset);
}
question_one laws scene (command.Colloc attr first last least cql) valid = record {
  checks = single_report laws scene attr cql;
  one = reports_one laws scene attr cql (λ lines spans number. CollocationText scene.images scene.registry scene.corpus spans number first last least lines) valid
      (λ spans number. laws.one_collocates scene.images scene.registry scene.corpus spans number first last least);
}
question_one laws scene (command.Sketch least most lemma) valid = sketch_one laws scene least most lemma
question_one laws scene (command.Thes most lemma) valid = alike_one laws scene most lemma

ask_one : (asked : Question) (world : World) → AsksOne asked → HasOne (asking asked world)
ask_one asked world a = record {
  checks = a.checks;
  one = λ new other answer another s t. (s.same ∙ sym t.same, s.says ∙ ap Lines (a.one s.lines t.lines s.answered t.answered) ∙ sym t.says);
}

-- ## `grammar` and `rules`

pub same_grammar : grammar.OneGrammar → (registry : Registry) (Given : List ℕ → Type 0) → AreOne Given → (a b : Grammar) → GivesGrammar registry Given a → GivesGrammar registry Given b → a ≡ b
same_grammar law registry Given one a b f g = law registry g.bytes a b (rw (one f.bytes g.bytes f.given g.given) at f.read) g.read

one_no_grammar : (laws : Readings) (registry : Registry) (Given : List ℕ → Type 0) → AreOne Given → IsSingle (IsNoGrammar registry Given)
one_no_grammar laws registry Given one a b (BadGrammarLine x line cause f h) (BadGrammarLine y number other g k) =
    let same = laws.one_grammar_fault registry y line number cause other (rw (one x y f g) at h) k in
    ap (λ n. BadGrammar n cause) same.0 ∙ ap (λ c. BadGrammar number c) same.1
one_no_grammar laws registry Given one a b (BadGrammarLine x line cause f h) (Unrelated y g k) =
    absurd (laws.grammars_apart.empty_or_faulty registry y line cause k (rw (one x y f g) at h))
one_no_grammar laws registry Given one a b (Unrelated x f h) (BadGrammarLine y line cause g k) =
    absurd (laws.grammars_apart.empty_or_faulty registry y line cause (rw (one x y f g) at h) k)
one_no_grammar laws registry Given one a b (Unrelated x f h) (Unrelated y g k) = refl

one_bad_rule : (laws : Readings) (registry : Registry) (Given : List ℕ → Type 0) → AreOne Given → IsSingle (HasBadRule registry Given)
one_bad_rule laws registry Given one a b (BadRule rules k r f) (BadRule other n s g) =
    let same = same_grammar laws.one_grammar registry Given one rules other r s in
    ap BadPattern (first_bad_one (grammar_patterns other) k n (subst (λ (q : Grammar). IsFirstBad (grammar_patterns q) k) same f) g)

single_rules : (laws : Readings) (setting : Setting) (world : World) (Given : List ℕ → Type 0) → AreOne Given → AreSingle (rule_checks setting world Given)
single_rules laws setting world Given one = (one_no_grammar laws world.held.registry Given one, (one_bad_rule laws world.held.registry Given one, (single_when TooManyRows, tt)))

rules_set_one : (laws : Readings) (world : World) (Given : List ℕ → Type 0) → AreOne Given → (new other : World) (answer another : Answer) → SetsGrammar world Given new answer → SetsGrammar world Given other another →
    (new ≡ other) × (answer ≡ another)
rules_set_one laws world Given one new other answer another s t =
    let same = same_grammar laws.one_grammar world.held.registry Given one s.grammar t.grammar s.gives t.gives in (
      s.changed ∙ ap (λ (g : Grammar). record world { held = with_grammar world.held g }) same ∙ sym t.changed,
      s.says ∙ ap (λ (g : Grammar). Lines ((codes "ok " ++ decimal (relation_count g.relations)) ∷ [])) same ∙ sym t.says,
    )

rules_one : (laws : Readings) (setting : Setting) (world : World) (body : List ℕ) → HasOne (ruling setting world body)
rules_one laws setting world body =
    let one : AreOne (λ bytes. bytes ≡ body) = λ a b f g. f ∙ sym g in
    record { checks = single_rules laws setting world (λ bytes. bytes ≡ body) one; one = rules_set_one laws world (λ bytes. bytes ≡ body) one }

grammar_one : (laws : Readings) (setting : Setting) (world : World) (file : List ℕ) → HasOne (ruling_by_file setting world file)
grammar_one laws setting world file =
    let one : AreOne (IsFile world.files file) = same_bytes world.files file in
    record {
      checks = (single_when (NoSuchFile file), (single_when (FileTooLong file), single_rules laws setting world (IsFile world.files file) one));
      one = rules_set_one laws world (IsFile world.files file) one;
    }

-- ## `remove`

removes_one : (world : World) (name : List ℕ) → ValidHeld world.held → (new other : World) (answer another : Answer) → RemovesText world name new answer → RemovesText world name other another →
    (new ≡ other) × (answer ≡ another)
removes_one world name valid new other answer another s t =
    let same = one_named (corpus_of world.held.groups) valid.groups.distinct s.text t.text s.there t.there (s.named ∙ sym t.named) in
    (s.changed ∙ sym t.changed, s.says ∙ ap (λ (x : Text). Lines ((codes "ok " ++ decimal (length x.tokens)) ∷ [])) same ∙ sym t.says)

remove_one : (world : World) (name : List ℕ) → ValidHeld world.held → HasOne (removing world name)
remove_one world name valid = record { checks = (single_when (NoSuchText name), tt); one = removes_one world name valid }

-- ## All commands

unbuilt_one : (world : World) → HasOne (unbuilt world)
unbuilt_one world = record { checks = (single_when BadCommand, tt); one = λ new other answer another s t. absurd s }

pub has_one : (laws : Readings) (setting : Setting) (world : World) (given : Command) → ValidHeld world.held → HasOne (meaning setting world given)
has_one laws setting world (command.Registry file) valid = registry_one laws setting world file
has_one laws setting world (command.Text name body) valid = text_one laws setting world name body valid.registry
has_one laws setting world (command.Add name file) valid = add_one laws setting world name file valid.registry
has_one laws setting world (command.Generate name seed tokens) valid = text_one laws setting world name (generated_vertical name seed tokens) valid.registry
has_one laws setting world (command.Asks ask) valid = ask_one (question (scene_of setting world.held) ask) world (question_one laws (scene_of setting world.held) ask valid.registry)
has_one laws setting world (command.Grammar file) valid = grammar_one laws setting world file
has_one laws setting world (command.Rules body) valid = rules_one laws setting world body
has_one laws setting world (command.Merge first last) valid = unbuilt_one world
has_one laws setting world (command.Batch asked merge) valid = unbuilt_one world
has_one laws setting world command.Segments valid = record { checks = tt; one = λ new other answer another s t. (s.same ∙ sym t.same, s.says ∙ sym t.says) }
has_one laws setting world (command.Save name) valid = unbuilt_one world
has_one laws setting world (command.Load name) valid = unbuilt_one world
has_one laws setting world command.Quit valid = record { checks = tt; one = λ new other answer another s t. (s.same ∙ sym t.same, s.says ∙ sym t.says) }
has_one laws setting world (command.Remove name) valid = remove_one world name valid
has_one laws setting world (command.Subcorpus name cql) valid = unbuilt_one world
has_one laws setting world (command.Subcount name cql) valid = unbuilt_one world
has_one laws setting world (command.Keywords name attr rarity most) valid = unbuilt_one world
has_one laws setting world (command.Partner name kind) valid = unbuilt_one world
