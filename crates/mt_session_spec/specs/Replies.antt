-- What is answered to the items of a script.
use Rattle.std.specs.Prelude.{ℕ, ◌≡◌, ◌≢◌, List, [], ◌∷◌, Option, Some, option_map, Ok}
use Rattle.std.specs.List.{All}
use Rattle.mt_text_spec.specs.Registries.{Registry}
use Rattle.mt_text_spec.specs.Queries.{Query as QueryOf, Grammar as GrammarOf}
use Rattle.mt_query_spec.specs.Verdicts.{Means}
use Rattle.mt_query_spec.specs.Contents.{patterns}
use Rattle.mt_rule_spec.specs.Rules.{grammar_patterns}
use Rattle.mt_script_spec.specs.Commands.{Ask, Count, Query, Freq, Colloc, Asks, Grammar, Rules, Quit}
use Rattle.mt_script_spec.specs.Script.{Item, Given, Bad, CutShort}
use Rattle.mt_shelf_spec.specs.Files.{Files}
use Rattle.mt_session_spec.specs.World.{Held, World, first_held}
use Rattle.mt_session_spec.specs.Settings.{Setting}
use Rattle.mt_session_spec.specs.Gains.{Gained, none_gained, gained_then}
use Rattle.mt_session_spec.specs.Refusals.{Refusal, refusal_line, no_memory_line, BadCommand, CutShort as CutShortRefusal}
use Rattle.mt_session_spec.specs.Patterns.{IsDeep}
use Rattle.mt_session_spec.specs.Answers.{Answer, Refused}
use Rattle.mt_session_spec.specs.Files.{IsFile}
use Rattle.mt_session_spec.specs.Ruling.{GivesGrammar}
use Rattle.mt_session_spec.specs.Steps.{Fine, Step}

-- ## One item

-- what is no command changes nothing and calls nothing
pub record IsNoCommand (refusal : Refusal) (world : World) (gained : Gained) (new : World) (answer : Answer) : Type 0 where
  pub none : gained ≡ none_gained
  pub same : new ≡ world
  pub says : answer ≡ Refused (refusal_line refusal)

-- one item, in which the objects outside gained this
abbrev pub ItemStep : Setting → World → Item → Gained → World → Answer → Type 0
ItemStep setting world (Given command) gained new answer = Step setting world command gained new answer
ItemStep setting world Bad gained new answer = IsNoCommand BadCommand world gained new answer
ItemStep setting world CutShort gained new answer = IsNoCommand CutShortRefusal world gained new answer

-- the same while memory lasts and no call outside fails
abbrev pub FineItem : Setting → World → Item → World → Answer → Type 0
FineItem setting world (Given command) new answer = Fine setting world command new answer
FineItem setting world Bad new answer = IsNoCommand BadCommand world none_gained new answer
FineItem setting world CutShort new answer = IsNoCommand CutShortRefusal world none_gained new answer

-- ## What is known of the world

-- What is known between two items: what is held, and the files of the shelf where it tells them. Others may change the files of a shelf that tells none.
pub record Known : Type 0 where
  pub held : Held
  pub files : Option Files

-- before the first item
abbrev pub first_known : Option Files → Known
first_known files = record { held = first_held; files = files }

-- the world may be this one
pub record MayBe (known : Known) (world : World) : Type 0 where
  pub held : world.held ≡ known.held
  pub files : (all : Files) → known.files ≡ Some all → world.files ≡ all

-- what is known behind an item that leaves this world
abbrev pub known_after : Known → World → Known
known_after known new = record { held = new.held; files = option_map (λ before. new.files) known.files }

-- One item, with what is known before it and behind it: what it does in a world that may be. Where the files are told, that is one world.
pub record KnownStep (setting : Setting) (known : Known) (item : Item) (gained : Gained) (next : Known) (answer : Answer) : Type 0 where
  pub world : World
  pub may_be : MayBe known world
  pub new : World
  pub step : ItemStep setting world item gained new answer
  pub behind : next ≡ known_after known new

-- ## Many items

-- The answer to each item in turn. What the objects outside gained is told apart by items, so a failure licenses no answer to another item.
pub data Replies (setting : Setting) : List Item → Known → Gained → List Answer → Known → Type 0 where
  NoReplies : (known : Known) → Replies setting [] known none_gained [] known
  ThenReply : (item : Item) (items : List Item) (known next last : Known) (here later : Gained) (answer : Answer) (answers : List Answer) →
      KnownStep setting known item here next answer → Replies setting items next later answers last →
      Replies setting (item ∷ items) known (gained_then here later) (answer ∷ answers) last

-- The answers that the items have in this world while memory lasts and no call outside fails, and the world behind them.
pub data AreAnswers (setting : Setting) : List Item → World → List Answer → World → Type 0 where
  NoAnswers : (world : World) → AreAnswers setting [] world [] world
  ThenAnswer : (item : Item) (items : List Item) (world next last : World) (answer : Answer) (answers : List Answer) →
      FineItem setting world item next answer → AreAnswers setting items next answers last → AreAnswers setting (item ∷ items) world (answer ∷ answers) last

-- none of these items is a `quit`
abbrev pub NoQuit : List Item → Type 0
NoQuit items = All (λ item. item ≢ Given Quit) items

-- no answer tells that memory ran out
abbrev pub NoneStarved : List Answer → Type 0
NoneStarved answers = All (λ answer. answer ≢ Refused no_memory_line) answers

-- ## Patterns that nest too deep

-- a text that is read as a query, whose patterns these are
pub record PatternsOfQuery (registry : Registry) (cql : List ℕ) (texts : List (List ℕ)) : Type 0 where
  pub query : QueryOf
  pub read : Means registry 0 cql (Ok query)
  pub are : texts ≡ patterns query

-- bytes that are read as a grammar, whose patterns these are
pub record PatternsOfRules (registry : Registry) (Given : List ℕ → Type 0) (texts : List (List ℕ)) : Type 0 where
  pub grammar : GrammarOf
  pub gives : GivesGrammar registry Given grammar
  pub are : texts ≡ grammar_patterns grammar

-- the patterns for which a question asks
abbrev pub AskHas : Registry → Ask → List (List ℕ) → Type 0
AskHas registry (Count cql) texts = PatternsOfQuery registry cql texts
AskHas registry (Query cql) texts = PatternsOfQuery registry cql texts
AskHas registry (Freq attr offset cql) texts = PatternsOfQuery registry cql texts
AskHas registry (Colloc attr first last least cql) texts = PatternsOfQuery registry cql texts
AskHas registry ask texts = ⊥

-- The patterns for which an item asks in a world: those of its query, or of the grammar that it sets. Other items ask for none.
abbrev pub AsksFor : World → Item → List (List ℕ) → Type 0
AsksFor world (Given (Asks ask)) texts = AskHas world.held.registry ask texts
AsksFor world (Given (Rules body)) texts = PatternsOfRules world.held.registry (λ bytes. bytes ≡ body) texts
AsksFor world (Given (Grammar file)) texts = PatternsOfRules world.held.registry (IsFile world.files file) texts
AsksFor world item texts = ⊥

-- The item asks in this world for a pattern that, alone or between the marks, nests deeper than patterns may: it may be refused as if it were none.
pub record AsksDeep (world : World) (item : Item) : Type 0 where
  pub texts : List (List ℕ)
  pub asked : AsksFor world item texts
  pub number : ℕ
  pub deep : IsDeep texts number

-- none of the items asks for such a pattern where it comes, from this world on
abbrev pub NoneDeep : Setting → List Item → World → Type 0
NoneDeep setting [] world = Unit {0}
NoneDeep setting (item ∷ items) world = ¬ AsksDeep world item × ((next : World) (answer : Answer) → FineItem setting world item next answer → NoneDeep setting items next)
