-- Each command leaves a valid world, changes nothing where it is refused, and tells of failures that were gained.
use Rattle.std.proofs.Common.{◌≡◌, ℕ, ◌<◌, ◌≤◌, inl, inr, List, [], ◌∷◌, Ok, arith, refl, sym, ap, subst}
use Rattle.std.specs.List.{count_by}
use Rattle.std.specs.Str.{bytes_eq}
use Rattle.mt_text_spec.specs.Words.{IsName}
use Rattle.mt_text_spec.specs.Queries.{Query}
use Rattle.mt_query_spec.specs.Contents.{patterns}
use Rattle.mt_vertical.specs.TextLaws.{ValidTexts}
use Rattle.mt_registry.specs.RegistryLaws.{ValidRegistries}
use Rattle.mt_grammar_laws.specs.Laws.{ReadGrammarIsValid}
use Rattle.mt_rule_spec.specs.Rules.{grammar_patterns}
use Rattle.mt_script_spec.specs.Commands as command
use Rattle.mt_script_spec.specs.Commands.{Ask, Command}
use Rattle.mt_script_spec.specs.Script as script
use Rattle.mt_generate_spec.specs.Verticals.{generated_vertical}
use Rattle.mt_session_spec.specs.World.{World, Held, ValidHeld, Holds, with_text, without_text, with_grammar}
use Rattle.mt_session_spec.specs.Settings.{Setting, mapper_names}
use Rattle.mt_session_spec.specs.Scenes.{Scene, scene_of}
use Rattle.mt_session_spec.specs.Patterns.{IsAmong, IsDeep}
use Rattle.mt_session_spec.specs.Asking.{Reads, ExceptsQuery, Deep, Refused as RefusedPattern}
use Rattle.mt_session_spec.specs.Gains.{Gained, none_gained}
use Rattle.mt_session_spec.specs.Refusals.{failure_line, no_memory_line, refusal_line, pattern_refused_line, BadPattern}
use Rattle.mt_session_spec.specs.Checks.{NoneStands}
use Rattle.mt_session_spec.specs.Meaning.{Meaning, Question, LoadsNone, LoadsBehind, Exception, Starved, Blocked, ExceptsQuestion, QuestionStarved, QuestionExcepted, asking, unbuilt}
use Rattle.mt_session_spec.specs.Registering.{registering, registry_front, with_registry}
use Rattle.mt_session_spec.specs.Adding.{texting, adding, AddsText, text_checks, name_checks}
use Rattle.mt_session_spec.specs.Generating.{generating}
use Rattle.mt_session_spec.specs.Files.{IsFile}
use Rattle.mt_session_spec.specs.Ruling.{SetsGrammar, ExceptsRules, Plainly, Deep as DeepRule, Unbuilt, ruling, ruling_by_file}
use Rattle.mt_session_spec.specs.Listing.{listing}
use Rattle.mt_session_spec.specs.Quitting.{quitting}
use Rattle.mt_session_spec.specs.Removing.{removing}
use Rattle.mt_session_spec.specs.Replies.{AsksDeep, AsksFor, AskHas, PatternsOfQuery, PatternsOfRules}
use Rattle.mt_session_spec.specs.Meanings.{meaning, question}
use Rattle.mt_session_spec.specs.Answers.{Answer, Refused, Lines, Last}
use Rattle.mt_session_spec.specs.Steps.{IsSaid}
use Rattle.mt_session_spec.specs.Laws.{told_failures}
use Rattle.mt_session_laws.specs.Lawful.{KeepsValid, IsFair, TellsGained}
use Rattle.mt_session_laws.proofs.Worlds.{text_valid, registry_valid, without_valid, grammar_valid}
use Rattle.mt_session_laws.proofs.Said.{text_name, add_name, generate_name}
use Rattle.mt_session_laws.proofs.Failures.{no_failure, no_want, no_refused, none_told, one_untold, one_told}

-- what the readers' laws say
pub record Validities : Type 0 where
  pub texts : ValidTexts
  pub registries : ValidRegistries
  pub grammars : ReadGrammarIsValid

-- ## Exceptions of commands that store nothing

exception_same : (world : World) (Loads : List ℕ → Type 0) (gained : Gained) (new : World) (answer : Answer) → Exception world Loads gained new answer → new.held ≡ world.held
exception_same world Loads gained new answer Starved = refl
exception_same world Loads gained new answer (Blocked file loads there) = refl

exception_starved : (world : World) (Loads : List ℕ → Type 0) (new : World) (answer : Answer) → Exception world Loads none_gained new answer → answer ≡ Refused no_memory_line
exception_starved world Loads new answer Starved = refl
exception_starved world Loads new answer (Blocked file loads there) = absurd (let low : there.0 < 0 = there.1 in omega arith)

exception_told : (world : World) (Loads : List ℕ → Type 0) (gained : Gained) (new : World) (answer : Answer) (file : List ℕ) → Exception world Loads gained new answer →
    told_failures file (answer ∷ []) ≤ count_by (λ name. bytes_eq name file) gained.failed
exception_told world Loads gained new answer file Starved = let none = one_untold no_memory_line file (no_want file) in omega (arith, none)
exception_told world Loads gained new answer file (Blocked other loads there) = one_told other file gained there

same_valid : (old new : Held) → new ≡ old → ValidHeld old → ValidHeld new
same_valid old new e valid = subst ValidHeld (sym e) valid

-- a command that is fair and keeps the world valid where what it accepts does
plain_keeps : (world : World) (Loads : List ℕ → Type 0) → ValidHeld world.held → (gained : Gained) (new : World) (answer : Answer) → Exception world Loads gained new answer → ValidHeld new.held
plain_keeps world Loads valid gained new answer e = same_valid world.held new.held (exception_same world Loads gained new answer e) valid

-- ## What is accepted

unbuilt_keeps : (world : World) → ValidHeld world.held → KeepsValid (unbuilt world)
unbuilt_keeps world valid = record { accepted = λ none new answer a. absurd a; excepted = plain_keeps world LoadsNone valid }

text_keeps : (laws : Validities) (setting : Setting) (world : World) (name : List ℕ) (Given : List ℕ → Type 0) → ValidHeld world.held → IsName name → (Holds world.held name → ⊥) → NoneStands (text_checks setting world.held name Given) →
    (new : World) (answer : Answer) → AddsText world name Given new answer → ValidHeld new.held
text_keeps laws setting world name Given valid named free none new answer a =
    let one = laws.texts world.held.registry name a.bytes a.text named a.read in
    same_valid (with_text world.held a.text) new.held (ap (λ (w : World). w.held) a.changed)
    (text_valid world.held a.text valid one (subst (λ n. Holds world.held n → ⊥) (sym (a.read).named) free) (λ full. none.1.0 _ (record { is = refl; there = record { bytes = a.bytes; given = a.given; text = a.text; read = a.read; full = full } })))

registry_keeps : (laws : Validities) (setting : Setting) (world : World) (file : List ℕ) → ValidHeld world.held → KeepsValid (registering setting world file)
registry_keeps laws setting world file valid = record {
  accepted = λ none new answer a.
      same_valid (with_registry world.held a.registry) new.held (ap (λ (w : World). w.held) a.changed)
      (registry_valid world.held a.registry (laws.registries (mapper_names setting) a.bytes a.registry a.read));
  excepted = plain_keeps world (LoadsBehind (registry_front world) file) valid;
}

texting_keeps : (laws : Validities) (setting : Setting) (world : World) (name body : List ℕ) → ValidHeld world.held → IsName name → KeepsValid (texting setting world name body)
texting_keeps laws setting world name body valid named = record {
  accepted = λ none. text_keeps laws setting world name (λ bytes. bytes ≡ body) valid named (λ h. none.0 _ (record { is = refl; there = h })) none.1;
  excepted = plain_keeps world LoadsNone valid;
}

adding_keeps : (laws : Validities) (setting : Setting) (world : World) (name file : List ℕ) → ValidHeld world.held → IsName name → KeepsValid (adding setting world name file)
adding_keeps laws setting world name file valid named = record {
  accepted = λ none. text_keeps laws setting world name (IsFile world.files file) valid named (λ h. none.0 _ (record { is = refl; there = h })) none.1.1.1;
  excepted = plain_keeps world (LoadsBehind (name_checks world.held name) file) valid;
}

rules_same : (world : World) (Loads Given : List ℕ → Type 0) (gained : Gained) (new : World) (answer : Answer) → ExceptsRules world Loads Given gained new answer → new.held ≡ world.held
rules_same world Loads Given gained new answer (Plainly a e) = exception_same world Loads gained new a e
rules_same world Loads Given gained new answer (DeepRule grammar k gives deep) = refl
rules_same world Loads Given gained new answer (Unbuilt grammar k gives refused) = refl

rules_keep : (laws : Validities) (world : World) (Given : List ℕ → Type 0) → ValidHeld world.held → (new : World) (answer : Answer) → SetsGrammar world Given new answer → ValidHeld new.held
rules_keep laws world Given valid new answer a =
    same_valid (with_grammar world.held a.grammar) new.held (ap (λ (w : World). w.held) a.changed)
    (grammar_valid world.held a.grammar valid (laws.grammars world.held.registry a.gives.bytes a.grammar valid.registry a.gives.read))

-- a command that sets a grammar
ruling_keeps : (laws : Validities) (world : World) (meant : Meaning) (Loads Given : List ℕ → Type 0) → meant.Accepts ≡ SetsGrammar world Given → meant.Excepts ≡ ExceptsRules world Loads Given → ValidHeld world.held →
    KeepsValid meant
ruling_keeps laws world meant Loads Given a e valid = record {
  accepted = λ none new answer x. rules_keep laws world Given valid new answer (rw a at x);
  excepted = λ gained new answer x. same_valid world.held new.held (rules_same world Loads Given gained new answer (rw e at x)) valid;
}

question_same : (asked : Question) (world : World) (gained : Gained) (new : World) (answer : Answer) → ExceptsQuestion asked world gained new answer → new ≡ world
question_same asked world gained new answer QuestionStarved = refl
question_same asked world gained new answer (QuestionExcepted line e) = refl

asking_keeps : (asked : Question) (world : World) → ValidHeld world.held → KeepsValid (asking asked world)
asking_keeps asked world valid = record {
  accepted = λ none new answer a. same_valid world.held new.held (ap (λ (w : World). w.held) a.same) valid;
  excepted = λ gained new answer e. same_valid world.held new.held (ap (λ (w : World). w.held) (question_same asked world gained new answer e)) valid;
}

pub keeps_valid : (laws : Validities) (setting : Setting) (world : World) (given : Command) → ValidHeld world.held → IsSaid given → KeepsValid (meaning setting world given)
keeps_valid laws setting world (command.Registry file) valid said = registry_keeps laws setting world file valid
keeps_valid laws setting world (command.Text name body) valid said = texting_keeps laws setting world name body valid (text_name name body said)
keeps_valid laws setting world (command.Add name file) valid said = adding_keeps laws setting world name file valid (add_name name file said)
keeps_valid laws setting world (command.Generate name seed tokens) valid said =
    texting_keeps laws setting world name (generated_vertical name seed tokens) valid (generate_name name seed tokens said)
keeps_valid laws setting world (command.Asks ask) valid said = asking_keeps (question (scene_of setting world.held) ask) world valid
keeps_valid laws setting world (command.Grammar file) valid said = ruling_keeps laws world (ruling_by_file setting world file) (LoadsBehind [] file) (IsFile world.files file) refl refl valid
keeps_valid laws setting world (command.Rules body) valid said = ruling_keeps laws world (ruling setting world body) LoadsNone (λ bytes. bytes ≡ body) refl refl valid
keeps_valid laws setting world (command.Merge first last) valid said = unbuilt_keeps world valid
keeps_valid laws setting world (command.Batch asked merge) valid said = unbuilt_keeps world valid
keeps_valid laws setting world command.Segments valid said =
    record { accepted = λ none new answer a. same_valid world.held new.held (ap (λ (w : World). w.held) a.same) valid; excepted = plain_keeps world LoadsNone valid }
keeps_valid laws setting world (command.Save name) valid said = unbuilt_keeps world valid
keeps_valid laws setting world (command.Load name) valid said = unbuilt_keeps world valid
keeps_valid laws setting world command.Quit valid said =
    record { accepted = λ none new answer a. same_valid world.held new.held (ap (λ (w : World). w.held) a.same) valid; excepted = plain_keeps world LoadsNone valid }
keeps_valid laws setting world (command.Remove name) valid said = record {
  accepted = λ none new answer a. same_valid (without_text world.held name) new.held (ap (λ (w : World). w.held) a.changed) (without_valid world.held name valid);
  excepted = plain_keeps world LoadsNone valid;
}
keeps_valid laws setting world (command.Subcorpus name cql) valid said = unbuilt_keeps world valid
keeps_valid laws setting world (command.Subcount name cql) valid said = unbuilt_keeps world valid
keeps_valid laws setting world (command.Keywords name attr rarity most) valid said = unbuilt_keeps world valid
keeps_valid laws setting world (command.Partner name kind) valid said = unbuilt_keeps world valid

-- ## Refusals

plain_fair : (meant : Meaning) (world : World) (Loads : List ℕ → Type 0) (Nests : Type 0) → meant.Excepts ≡ Exception world Loads → ((new : World) (line : List ℕ) → meant.Accepts new (Refused line) → ⊥) →
    IsFair meant world Nests
plain_fair meant world Loads Nests e accepted = record {
  accepted = accepted;
  kept = λ gained new answer x. exception_same world Loads gained new answer (rw e at x);
  starved = λ none new answer x. exception_starved world Loads new answer (rw e at x);
}

no_lines : (line : List ℕ) (lines : List (List ℕ)) → Refused line ≡ Lines lines → ⊥
no_lines line lines e = cc

no_last : (line other : List ℕ) → Refused line ≡ Last other → ⊥
no_last line other e = cc

unbuilt_fair : (world : World) (Nests : Type 0) → IsFair (unbuilt world) world Nests
unbuilt_fair world Nests = plain_fair (unbuilt world) world LoadsNone Nests refl (λ new line a. a)

none_among : (text : List ℕ) → IsAmong [] text → ⊥
none_among text (inl there) = let low : there.0 < 0 = there.1 in omega arith
none_among text (inr there) = let low : there.0 < 0 = there.1 in omega arith

query_starved : (scene : Scene) (cql line : List ℕ) → ((query : Query) (k : ℕ) → Reads scene cql (Ok query) → IsDeep (patterns query) k → ⊥) → ExceptsQuery scene cql none_gained line → ⊥
query_starved scene cql line none (Deep query k read deep) = none query k read deep
query_starved scene cql line none (RefusedPattern query k read refused) = none_among refused.text refused.among

-- a question that asks for the patterns of its query
asked_starved : (setting : Setting) (world : World) (ask : Ask) (cql line : List ℕ) → ((texts : List (List ℕ)) → PatternsOfQuery world.held.registry cql texts → AskHas world.held.registry ask texts) →
    (AsksDeep world (script.Given (command.Asks ask)) → ⊥) → ExceptsQuery (scene_of setting world.held) cql none_gained line → ⊥
asked_starved setting world ask cql line has none e = query_starved (scene_of setting world.held) cql line
    (λ query k read deep. none (record { texts = patterns query; asked = has (patterns query) (record { query = query; read = read; are = refl }); number = k; deep = deep })) e

-- where nothing was gained and no pattern nests too deep, a question has no exception but that memory ran out
question_starved : (setting : Setting) (world : World) (ask : Ask) → (AsksDeep world (script.Given (command.Asks ask)) → ⊥) → (line : List ℕ) → (question (scene_of setting world.held) ask).Excepts none_gained line → ⊥
question_starved setting world (command.Count cql) none line e = asked_starved setting world (command.Count cql) cql line (λ texts has. has) none e
question_starved setting world (command.Query cql) none line e = asked_starved setting world (command.Query cql) cql line (λ texts has. has) none e
question_starved setting world (command.Freq attr offset cql) none line e = asked_starved setting world (command.Freq attr offset cql) cql line (λ texts has. has) none e.excepts
question_starved setting world (command.Colloc attr first last least cql) none line e =
    asked_starved setting world (command.Colloc attr first last least cql) cql line (λ texts has. has) none e.excepts
question_starved setting world (command.Sketch least most lemma) none line e = e
question_starved setting world (command.Thes most lemma) none line e = e

ask_starved : (asked : Question) (world : World) → ((line : List ℕ) → asked.Excepts none_gained line → ⊥) → (new : World) (answer : Answer) → ExceptsQuestion asked world none_gained new answer → answer ≡ Refused no_memory_line
ask_starved asked world none new answer QuestionStarved = refl
ask_starved asked world none new answer (QuestionExcepted line e) = absurd (none line e)

asking_fair : (setting : Setting) (world : World) (ask : Ask) → IsFair (asking (question (scene_of setting world.held) ask) world) world (AsksDeep world (script.Given (command.Asks ask)))
asking_fair setting world ask =
    let asked = question (scene_of setting world.held) ask in
    record {
      accepted = λ new line a. no_lines line a.lines a.says;
      kept = λ gained new answer e. ap (λ (w : World). w.held) (question_same asked world gained new answer e);
      starved = λ none. ask_starved asked world (question_starved setting world ask none);
    }

rules_starved : (world : World) (Loads Given : List ℕ → Type 0) (item : script.Item) → ((texts : List (List ℕ)) → PatternsOfRules world.held.registry Given texts → AsksFor world item texts) → (AsksDeep world item → ⊥) →
    (new : World) (answer : Answer) → ExceptsRules world Loads Given none_gained new answer → answer ≡ Refused no_memory_line
rules_starved world Loads Given item has none new answer (Plainly a e) = exception_starved world Loads new a e
rules_starved world Loads Given item has none new answer (DeepRule grammar k gives deep) =
    absurd (none (record { texts = grammar_patterns grammar; asked = has (grammar_patterns grammar) (record { grammar = grammar; gives = gives; are = refl }); number = k; deep = deep }))
rules_starved world Loads Given item has none new answer (Unbuilt grammar k gives refused) = absurd (none_among refused.text refused.among)

ruling_fair : (world : World) (meant : Meaning) (Loads Given : List ℕ → Type 0) (item : script.Item) → meant.Accepts ≡ SetsGrammar world Given → meant.Excepts ≡ ExceptsRules world Loads Given →
    ((texts : List (List ℕ)) → PatternsOfRules world.held.registry Given texts → AsksFor world item texts) → IsFair meant world (AsksDeep world item)
ruling_fair world meant Loads Given item a e has = record {
  accepted = λ new line x. let set : SetsGrammar world Given new (Refused line) = rw a at x in no_lines line _ set.says;
  kept = λ gained new answer x. rules_same world Loads Given gained new answer (rw e at x);
  starved = λ none new answer x. rules_starved world Loads Given item has none new answer (rw e at x);
}

pub is_fair : (setting : Setting) (world : World) (given : Command) → IsFair (meaning setting world given) world (AsksDeep world (script.Given given))
is_fair setting world (command.Registry file) = plain_fair (registering setting world file) world (LoadsBehind (registry_front world) file) (AsksDeep world (script.Given (command.Registry file))) refl (λ new line a. no_lines line _ a.says)
is_fair setting world (command.Text name body) = plain_fair (texting setting world name body) world LoadsNone (AsksDeep world (script.Given (command.Text name body))) refl (λ new line a. no_lines line _ a.says)
is_fair setting world (command.Add name file) = plain_fair (adding setting world name file) world (LoadsBehind (name_checks world.held name) file) (AsksDeep world (script.Given (command.Add name file))) refl (λ new line a. no_lines line _ a.says)
is_fair setting world (command.Generate name seed tokens) = plain_fair (generating setting world name seed tokens) world LoadsNone (AsksDeep world (script.Given (command.Generate name seed tokens))) refl (λ new line a. no_lines line _ a.says)
is_fair setting world (command.Asks ask) = asking_fair setting world ask
is_fair setting world (command.Grammar file) = ruling_fair world (ruling_by_file setting world file) (LoadsBehind [] file) (IsFile world.files file) (script.Given (command.Grammar file)) refl refl (λ texts has. has)
is_fair setting world (command.Rules body) = ruling_fair world (ruling setting world body) LoadsNone (λ bytes. bytes ≡ body) (script.Given (command.Rules body)) refl refl (λ texts has. has)
is_fair setting world (command.Merge first last) = unbuilt_fair world (AsksDeep world (script.Given (command.Merge first last)))
is_fair setting world (command.Batch asked merge) = unbuilt_fair world (AsksDeep world (script.Given (command.Batch asked merge)))
is_fair setting world command.Segments = plain_fair (listing world) world LoadsNone (AsksDeep world (script.Given command.Segments)) refl (λ new line a. no_lines line _ a.says)
is_fair setting world (command.Save name) = unbuilt_fair world (AsksDeep world (script.Given (command.Save name)))
is_fair setting world (command.Load name) = unbuilt_fair world (AsksDeep world (script.Given (command.Load name)))
is_fair setting world command.Quit = plain_fair (quitting world) world LoadsNone (AsksDeep world (script.Given command.Quit)) refl (λ new line a. no_last line _ a.says)
is_fair setting world (command.Remove name) = plain_fair (removing world name) world LoadsNone (AsksDeep world (script.Given (command.Remove name))) refl (λ new line a. no_lines line _ a.says)
is_fair setting world (command.Subcorpus name cql) = unbuilt_fair world (AsksDeep world (script.Given (command.Subcorpus name cql)))
is_fair setting world (command.Subcount name cql) = unbuilt_fair world (AsksDeep world (script.Given (command.Subcount name cql)))
is_fair setting world (command.Keywords name attr rarity most) = unbuilt_fair world (AsksDeep world (script.Given (command.Keywords name attr rarity most)))
is_fair setting world (command.Partner name kind) = unbuilt_fair world (AsksDeep world (script.Given (command.Partner name kind)))

-- ## Failures that are told

plain_tells : (meant : Meaning) (world : World) (Loads : List ℕ → Type 0) → meant.Excepts ≡ Exception world Loads →
    ((new : World) (answer : Answer) (file : List ℕ) → meant.Accepts new answer → told_failures file (answer ∷ []) ≡ 0) → TellsGained meant
plain_tells meant world Loads e accepted = record { accepted = accepted; excepted = λ gained new answer file x. exception_told world Loads gained new answer file (rw e at x) }

unbuilt_tells : (world : World) → TellsGained (unbuilt world)
unbuilt_tells world = plain_tells (unbuilt world) world LoadsNone refl (λ new answer file a. absurd a)

query_untold : (scene : Scene) (cql line file : List ℕ) (gained : Gained) → ExceptsQuery scene cql gained line → line ≡ failure_line file → ⊥
query_untold scene cql line file gained (Deep query k read deep) e = no_failure (BadPattern k) file e
query_untold scene cql line file gained (RefusedPattern query k read refused) e = no_refused k file e

question_untold : (scene : Scene) (ask : Ask) (gained : Gained) (line file : List ℕ) → (question scene ask).Excepts gained line → line ≡ failure_line file → ⊥
question_untold scene (command.Count cql) gained line file x e = query_untold scene cql line file gained x e
question_untold scene (command.Query cql) gained line file x e = query_untold scene cql line file gained x e
question_untold scene (command.Freq attr offset cql) gained line file x e = query_untold scene cql line file gained x.excepts e
question_untold scene (command.Colloc attr first last least cql) gained line file x e = query_untold scene cql line file gained x.excepts e
question_untold scene (command.Sketch least most lemma) gained line file x e = x
question_untold scene (command.Thes most lemma) gained line file x e = x

ask_told : (scene : Scene) (ask : Ask) (world : World) (gained : Gained) (new : World) (answer : Answer) (file : List ℕ) →
    ExceptsQuestion (question scene ask) world gained new answer → told_failures file (answer ∷ []) ≤ count_by (λ name. bytes_eq name file) gained.failed
ask_told scene ask world gained new answer file QuestionStarved = let one = one_untold no_memory_line file (no_want file) in omega (arith, one)
ask_told scene ask world gained new answer file (QuestionExcepted line e) = let one = one_untold line file (question_untold scene ask gained line file e) in omega (arith, one)

asking_tells : (scene : Scene) (world : World) (ask : Ask) → TellsGained (asking (question scene ask) world)
asking_tells scene world ask = record { accepted = λ new answer file a. none_told answer a.lines file a.says; excepted = ask_told scene ask world }

rules_told : (world : World) (Loads Given : List ℕ → Type 0) (gained : Gained) (new : World) (answer : Answer) (file : List ℕ) → ExceptsRules world Loads Given gained new answer →
    told_failures file (answer ∷ []) ≤ count_by (λ name. bytes_eq name file) gained.failed
rules_told world Loads Given gained new answer file (Plainly a e) = exception_told world Loads gained new a file e
rules_told world Loads Given gained new answer file (DeepRule grammar k gives deep) = let one = one_untold (refusal_line (BadPattern k)) file (no_failure (BadPattern k) file) in omega (arith, one)
rules_told world Loads Given gained new answer file (Unbuilt grammar k gives refused) = let one = one_untold (pattern_refused_line k) file (no_refused k file) in omega (arith, one)

ruling_tells : (world : World) (meant : Meaning) (Loads Given : List ℕ → Type 0) → meant.Accepts ≡ SetsGrammar world Given → meant.Excepts ≡ ExceptsRules world Loads Given → TellsGained meant
ruling_tells world meant Loads Given a e = record {
  accepted = λ new answer file x. let set : SetsGrammar world Given new answer = rw a at x in none_told answer _ file set.says;
  excepted = λ gained new answer file x. rules_told world Loads Given gained new answer file (rw e at x);
}

pub tells_gained : (setting : Setting) (world : World) (given : Command) → TellsGained (meaning setting world given)
tells_gained setting world (command.Registry file) = plain_tells (registering setting world file) world (LoadsBehind (registry_front world) file) refl (λ new answer other a. none_told answer _ other a.says)
tells_gained setting world (command.Text name body) = plain_tells (texting setting world name body) world LoadsNone refl (λ new answer other a. none_told answer _ other a.says)
tells_gained setting world (command.Add name file) = plain_tells (adding setting world name file) world (LoadsBehind (name_checks world.held name) file) refl (λ new answer other a. none_told answer _ other a.says)
tells_gained setting world (command.Generate name seed tokens) = plain_tells (generating setting world name seed tokens) world LoadsNone refl (λ new answer other a. none_told answer _ other a.says)
tells_gained setting world (command.Asks ask) = asking_tells (scene_of setting world.held) world ask
tells_gained setting world (command.Grammar file) = ruling_tells world (ruling_by_file setting world file) (LoadsBehind [] file) (IsFile world.files file) refl refl
tells_gained setting world (command.Rules body) = ruling_tells world (ruling setting world body) LoadsNone (λ bytes. bytes ≡ body) refl refl
tells_gained setting world (command.Merge first last) = unbuilt_tells world
tells_gained setting world (command.Batch asked merge) = unbuilt_tells world
tells_gained setting world command.Segments = plain_tells (listing world) world LoadsNone refl (λ new answer file a. none_told answer _ file a.says)
tells_gained setting world (command.Save name) = unbuilt_tells world
tells_gained setting world (command.Load name) = unbuilt_tells world
tells_gained setting world command.Quit = plain_tells (quitting world) world LoadsNone refl (λ new answer file a. ap (λ (x : Answer). told_failures file (x ∷ [])) a.says)
tells_gained setting world (command.Remove name) = plain_tells (removing world name) world LoadsNone refl (λ new answer file a. none_told answer _ file a.says)
tells_gained setting world (command.Subcorpus name cql) = unbuilt_tells world
tells_gained setting world (command.Subcount name cql) = unbuilt_tells world
tells_gained setting world (command.Keywords name attr rarity most) = unbuilt_tells world
tells_gained setting world (command.Partner name kind) = unbuilt_tells world
