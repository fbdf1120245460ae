-- No command is without a meaning.
use Rattle.std.proofs.Common.{◌≡◌, ◌⊎◌, ℕ, ℤ, ◌<◌, ◌≤◌, inl, inr, List, length, Option, None, Some, Result, Ok, Err, refl, ◌∙◌, ap}
use Rattle.std.specs.Prelude.{slice_get}
use Rattle.std.proofs.lemmas.Bool.{cases_lt}
use Rattle.std.proofs.lemmas.Option.{slice_get-get_or}
use Rattle.mt_text_spec.specs.Registries.{attr_names}
use Rattle.mt_text_spec.specs.Queries.{Query, Grammar}
use Rattle.mt_query_spec.specs.Verdicts as verdict
use Rattle.mt_match_laws.specs.Laws.{HaveSpans}
use Rattle.mt_report_laws.specs.Laws.{HaveFrequencies, HaveCollocates}
use Rattle.mt_grammar_laws.specs.Laws.{SomeAnswer}
use Rattle.mt_word_sketch_laws.specs.Laws.{HaveSketches, HaveThesauri}
use Rattle.mt_shelf_spec.specs.Files.{Files}
use Rattle.mt_script_spec.specs.Commands as command
use Rattle.mt_script_spec.specs.Commands.{Ask, Command}
use Rattle.mt_generate_spec.specs.Verticals.{generated_vertical}
use Rattle.mt_session_spec.specs.World.{World, Holds}
use Rattle.mt_session_spec.specs.Settings.{Setting, mapper_names}
use Rattle.mt_session_spec.specs.Scenes.{Scene, scene_of}
use Rattle.mt_session_spec.specs.Checks.{NoneStands}
use Rattle.mt_session_spec.specs.Files.{IsAbsent, IsTooLong, IsFile, file_bytes_limit}
use Rattle.mt_session_spec.specs.Meaning.{asking, unbuilt, Question}
use Rattle.mt_session_spec.specs.Registering.{registering, BadLine as BadRegistryLine, Baseless}
use Rattle.mt_session_spec.specs.Adding.{adding, AddsText, BadLine, text_checks}
use Rattle.mt_session_spec.specs.Asking.{Reads, Great, Faulty, Undeclared, query_checks}
use Rattle.mt_session_spec.specs.Counting.{Counts}
use Rattle.mt_session_spec.specs.Querying.{ListsSpans}
use Rattle.mt_session_spec.specs.Reporting.{IsDeclared, report_checks, listing_frequencies, listing_collocates}
use Rattle.mt_session_spec.specs.Ruling.{BadLine as BadGrammarLine, Unrelated, SetsGrammar, rule_checks, ruling_by_file}
use Rattle.mt_session_spec.specs.Sketching.{grammar_checks, sketching, finding_alike}
use Rattle.mt_session_spec.specs.Removing.{removing}
use Rattle.mt_session_spec.specs.Meanings.{meaning, question}
use Rattle.mt_session_spec.specs.Answers.{Answer, Lines}
use Rattle.mt_session_laws.specs.Lawful.{HasSome, SomeQuery}
use Rattle.mt_session_laws.proofs.Never.{either}
use Rattle.mt_session_laws.proofs.Texts.{some_text}
use Rattle.mt_session_laws.proofs.Registries.{some_judged}

-- ## Files

-- a file that is there and not too long
pub file_there : (files : Files) (name : List ℕ) → (IsAbsent files name → ⊥) → (IsTooLong files name → ⊥) → (bytes : List ℕ) × IsFile files name bytes
file_there files name there short = by (files name) refl
  where
    small : (bytes : List ℕ) → files name ≡ Some bytes → (file_bytes_limit < length bytes) ⊎ (length bytes ≤ file_bytes_limit) → (bytes : List ℕ) × IsFile files name bytes
    small bytes e (inl long) = absurd (short (record { bytes = bytes; found = e; long = long }))
    small bytes e (inr low) = (bytes, record { found = e; short = low })

    by : (o : Option (List ℕ)) → files name ≡ o → (bytes : List ℕ) × IsFile files name bytes
    by None e = absurd (there e)
    by (Some bytes) e = small bytes e (cases_lt file_bytes_limit (length bytes))

-- ## Commands

registry_some : (setting : Setting) (world : World) (file : List ℕ) → HasSome (registering setting world file)
registry_some setting world file none k =
    let there = file_there world.files file (λ a. none.1.0 _ (record { is = refl; there = a })) (λ t. none.1.1.0 _ (record { is = refl; there = t })) in
    let good = none.1.1.1.0 in
    some_judged (mapper_names setting) there.0 (λ d. elim d [
      | inl read ↦ k _ _ (record { bytes = there.0; found = there.1; registry = read.0; read = read.1; changed = refl; says = refl })
      | inr other ↦ elim other [
        | inl fault ↦ good _ (BadRegistryLine there.0 fault.0 fault.1 there.1 fault.2)
        | inr lacks ↦ good _ (Baseless there.0 there.1 lacks)
      ]
    ])

text_some : (setting : Setting) (world : World) (name bytes : List ℕ) (Given : List ℕ → Type 0) → Given bytes → NoneStands (text_checks setting world.held name Given) →
    ((new : World) (answer : Answer) → AddsText world name Given new answer → ⊥) → ⊥
text_some setting world name bytes Given given none k = some_text world.held.registry name bytes (λ d. elim d [
  | inl read ↦ k _ _ (record { bytes = bytes; given = given; text = read.0; read = read.1; changed = refl; says = refl })
  | inr fault ↦ none.0 _ (BadLine bytes fault.0 fault.1 given fault.2)
])

add_some : (setting : Setting) (world : World) (name file : List ℕ) → HasSome (adding setting world name file)
add_some setting world name file none k =
    let there = file_there world.files file (λ a. none.1.0 _ (record { is = refl; there = a })) (λ t. none.1.1.0 _ (record { is = refl; there = t })) in
    text_some setting world name there.0 (IsFile world.files file) there.1 none.1.1.1 k

rules_some : SomeAnswer → (setting : Setting) (world : World) (bytes : List ℕ) (Given : List ℕ → Type 0) → Given bytes → NoneStands (rule_checks setting world Given) →
    ((new : World) (answer : Answer) → SetsGrammar world Given new answer → ⊥) → ⊥
rules_some some setting world bytes Given given none k =
    some world.held.registry bytes (λ grammar read. k _ _ (record { grammar = grammar; gives = record { bytes = bytes; given = given; read = read }; changed = refl; says = refl }))
    (λ lacks. none.0 _ (Unrelated bytes given lacks)) (λ number cause fault. none.0 _ (BadGrammarLine bytes number cause given fault))

grammar_some : SomeAnswer → (setting : Setting) (world : World) (file : List ℕ) → HasSome (ruling_by_file setting world file)
grammar_some some setting world file none k =
    let there = file_there world.files file (λ a. none.0 _ (record { is = refl; there = a })) (λ t. none.1.0 _ (record { is = refl; there = t })) in
    rules_some some setting world there.0 (IsFile world.files file) there.1 none.1.1 k

-- ## Questions

-- what the laws of queries, of grammars and of sketches say
pub record QueryReadings : Type 0 where
  pub some_query : SomeQuery
  pub have_spans : HaveSpans
  pub have_frequencies : HaveFrequencies
  pub have_collocates : HaveCollocates
  pub some_grammar : SomeAnswer
  pub have_sketches : HaveSketches
  pub have_thesauri : HaveThesauri

-- a text that no check of its reading refuses is a query
asked_query : (laws : QueryReadings) (scene : Scene) (cql : List ℕ) → NoneStands (query_checks scene cql) → (query : Query) × Reads scene cql (Ok query)
asked_query laws scene cql none = by (laws.some_query scene.registry 0 cql).0 (laws.some_query scene.registry 0 cql).1
  where
    by : (said : Result Query verdict.Refusal) → Reads scene cql said → (query : Query) × Reads scene cql (Ok query)
    by (Ok query) read = (query, read)
    by (Err verdict.TooLarge) read = absurd (none.0 _ (Great read))
    by (Err (verdict.Syntax at cause)) read = absurd (none.0 _ (Faulty at cause read))
    by (Err (verdict.Unknown at)) read = absurd (none.0 _ (Undeclared at read))

count_some : (laws : QueryReadings) (scene : Scene) (cql : List ℕ) → NoneStands (query_checks scene cql) → ((lines : List (List ℕ)) → Counts scene cql lines → ⊥) → ⊥
count_some laws scene cql none k =
    let asked = asked_query laws scene cql none in
    let found = laws.have_spans scene.images scene.registry scene.corpus asked.0 in
    k _ (record { query = asked.0; read = asked.1; spans = found.0; are = found.1; says = refl })

query_some : (laws : QueryReadings) (scene : Scene) (cql : List ℕ) → NoneStands (query_checks scene cql) → ((lines : List (List ℕ)) → ListsSpans scene cql lines → ⊥) → ⊥
query_some laws scene cql none k =
    let asked = asked_query laws scene cql none in
    let found = laws.have_spans scene.images scene.registry scene.corpus asked.0 in
    k _ (record { query = asked.0; read = asked.1; spans = found.0; are = found.1; says = refl })

-- an attribute that is declared has a number
number_some : (scene : Scene) (attr : List ℕ) → (((number : ℕ) × (slice_get (attr_names scene.registry.attrs) number ≡ Some attr)) → ⊥) → IsDeclared scene attr → ⊥
number_some scene attr k there = k (there.0, slice_get-get_or (attr_names scene.registry.attrs) there.0 attr there.1 ∙ ap Some there.2)

-- a name that no check of a report refuses is declared
attr_some : (scene : Scene) (attr cql : List ℕ) → NoneStands (report_checks scene attr cql) → (((number : ℕ) × (slice_get (attr_names scene.registry.attrs) number ≡ Some attr)) → ⊥) → ⊥
attr_some scene attr cql none k = none.0 _ (record { is = refl; there = number_some scene attr k })

frequencies_some : (laws : QueryReadings) (scene : Scene) (attr : List ℕ) (offset : ℤ) (cql : List ℕ) → NoneStands (report_checks scene attr cql) →
    ((lines : List (List ℕ)) → (listing_frequencies scene attr offset cql).Answers lines → ⊥) → ⊥
frequencies_some laws scene attr offset cql none k = attr_some scene attr cql none (λ at.
    let asked = asked_query laws scene cql none.1 in
    let found = laws.have_spans scene.images scene.registry scene.corpus asked.0 in
    let made = laws.have_frequencies scene.images scene.registry scene.corpus found.0 at.0 offset in
    k made.0 (record { query = asked.0; read = asked.1; spans = found.0; are = found.1; number = at.0; named = at.1; says = made.1 }))

collocates_some : (laws : QueryReadings) (scene : Scene) (attr : List ℕ) (first last : ℤ) (least : ℕ) (cql : List ℕ) → NoneStands (report_checks scene attr cql) →
    ((lines : List (List ℕ)) → (listing_collocates scene attr first last least cql).Answers lines → ⊥) → ⊥
collocates_some laws scene attr first last least cql none k = attr_some scene attr cql none (λ at.
    let asked = asked_query laws scene cql none.1 in
    let found = laws.have_spans scene.images scene.registry scene.corpus asked.0 in
    let made = laws.have_collocates scene.images scene.registry scene.corpus found.0 at.0 first last least in
    k made.0 (record { query = asked.0; read = asked.1; spans = found.0; are = found.1; number = at.0; named = at.1; says = made.1 }))

ask_some : (asked : Question) (world : World) → (NoneStands asked.checks → ((lines : List (List ℕ)) → asked.Answers lines → ⊥) → ⊥) → HasSome (asking asked world)
ask_some asked world some none k = some none (λ lines a. k world (Lines lines) (record { lines = lines; answered = a; same = refl; says = refl }))

-- the grammar that is held, where no check refuses that there is none
held_grammar : (scene : Scene) → NoneStands (grammar_checks scene) → (grammar : Grammar) × (scene.grammar ≡ Some grammar)
held_grammar scene none = by scene.grammar refl
  where
    by : (o : Option Grammar) → scene.grammar ≡ o → (grammar : Grammar) × (scene.grammar ≡ Some grammar)
    by None e = absurd (none.0 _ (record { is = refl; there = e }))
    by (Some grammar) e = (grammar, e)

sketch_some : (laws : QueryReadings) (scene : Scene) (least most : ℕ) (lemma : List ℕ) → NoneStands (grammar_checks scene) → ((lines : List (List ℕ)) → (sketching scene least most lemma).Answers lines → ⊥) → ⊥
sketch_some laws scene least most lemma none k =
    let held = held_grammar scene none in
    let made = laws.have_sketches scene.images scene.registry held.0 scene.corpus lemma least most in
    k made.0 (record { grammar = held.0; held = held.1; says = made.1 })

alike_some : (laws : QueryReadings) (scene : Scene) (most : ℕ) (lemma : List ℕ) → NoneStands (grammar_checks scene) → ((lines : List (List ℕ)) → (finding_alike scene most lemma).Answers lines → ⊥) → ⊥
alike_some laws scene most lemma none k =
    let held = held_grammar scene none in
    let made = laws.have_thesauri scene.images scene.registry held.0 scene.corpus lemma most in
    k made.0 (record { grammar = held.0; held = held.1; says = made.1 })

question_some : (laws : QueryReadings) (scene : Scene) (ask : Ask) → NoneStands (question scene ask).checks → ((lines : List (List ℕ)) → (question scene ask).Answers lines → ⊥) → ⊥
question_some laws scene (command.Count cql) = count_some laws scene cql
question_some laws scene (command.Query cql) = query_some laws scene cql
question_some laws scene (command.Freq attr offset cql) = frequencies_some laws scene attr offset cql
question_some laws scene (command.Colloc attr first last least cql) = collocates_some laws scene attr first last least cql
question_some laws scene (command.Sketch least most lemma) = sketch_some laws scene least most lemma
question_some laws scene (command.Thes most lemma) = alike_some laws scene most lemma

-- ## All commands

unbuilt_some : (world : World) → HasSome (unbuilt world)
unbuilt_some world none k = none.0 _ (record { is = refl; there = tt })

remove_some : (world : World) (name : List ℕ) → HasSome (removing world name)
remove_some world name none k = either (Holds world.held name) (λ d. elim d [
  | inl there ↦ k _ _ (record { text = there.1; there = (there.0, there.2, there.3); named = there.4; changed = refl; says = refl })
  | inr free ↦ none.0 _ (record { is = refl; there = free })
])

pub has_some : (laws : QueryReadings) (setting : Setting) (world : World) (given : Command) → HasSome (meaning setting world given)
has_some laws setting world (command.Registry file) = registry_some setting world file
has_some laws setting world (command.Text name body) = λ none k. text_some setting world name body (λ bytes. bytes ≡ body) refl none.1 k
has_some laws setting world (command.Add name file) = add_some setting world name file
has_some laws setting world (command.Generate name seed tokens) = λ none k.
    text_some setting world name (generated_vertical name seed tokens) (λ bytes. bytes ≡ generated_vertical name seed tokens) refl none.1 k
has_some laws setting world (command.Asks ask) = ask_some (question (scene_of setting world.held) ask) world (question_some laws (scene_of setting world.held) ask)
has_some laws setting world (command.Grammar file) = grammar_some laws.some_grammar setting world file
has_some laws setting world (command.Rules body) = λ none k. rules_some laws.some_grammar setting world body (λ bytes. bytes ≡ body) refl none k
has_some laws setting world (command.Merge first last) = unbuilt_some world
has_some laws setting world (command.Batch asked merge) = unbuilt_some world
has_some laws setting world command.Segments = λ none k. k world _ (record { same = refl; says = refl })
has_some laws setting world (command.Save name) = unbuilt_some world
has_some laws setting world (command.Load name) = unbuilt_some world
has_some laws setting world command.Quit = λ none k. k world _ (record { same = refl; says = refl })
has_some laws setting world (command.Remove name) = remove_some world name
has_some laws setting world (command.Subcorpus name cql) = unbuilt_some world
has_some laws setting world (command.Subcount name cql) = unbuilt_some world
has_some laws setting world (command.Keywords name attr rarity most) = unbuilt_some world
has_some laws setting world (command.Partner name kind) = unbuilt_some world
