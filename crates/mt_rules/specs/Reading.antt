-- What is done with bytes that are to be a sketch grammar over a corpus.
use Rattle.std.specs.Prelude.{ℕ, ◌≡◌, List, [], ◌++◌}
use Rattle.mt_grammar_spec.specs.ReadGrammar.{ReadsGrammar}
use Rattle.mt_corpus_spec.specs.Images.{Corpus, AreImagesBy}
use Rattle.mt_session_spec.specs.World.{World}
use Rattle.mt_session_spec.specs.Settings.{Setting, images_of}
use Rattle.mt_session_spec.specs.Checks.{NoneStands}
use Rattle.mt_session_spec.specs.Answers.{Refused}
use Rattle.mt_session_spec.specs.Files.{IsFile}
use Rattle.mt_session_spec.specs.Meaning.{LoadsNone, LoadsBehind}
use Rattle.mt_session_spec.specs.Ruling.{rule_checks, ExceptsRules}
use Rattle.mt_answer.specs.declared.declined.Declined.{Declined}
use Rattle.mt_answer.specs.Declines.{IsDeclined}
use Rattle.mt_answer.specs.Replies.{gained_of}
use Rattle.mt_rules.specs.Ruled.{Ruled, AreOver}

-- this corpus is what is held in the world
pub record IsHeldIn (world : World) (corpus : Corpus) : Type 0 where
  pub registry : world.held.registry ≡ corpus.registry
  pub groups : world.held.groups ≡ corpus.groups

-- these bytes are given, whichever way they came, and no others are
pub record AreGiven (Given : List ℕ → Type 0) (bytes : List ℕ) : Type 0 where
  pub there : Given bytes
  pub only : (other : List ℕ) → Given other → other ≡ bytes

-- how bytes come: behind a command, or from a file of the shelf
pub data Source : Type 0 where
  Body : (body : List ℕ) → Source
  File : (file : List ℕ) → Source

-- the bytes that come so in a world
abbrev pub given_by : Source → World → List ℕ → Type 0
given_by (Body body) world bytes = bytes ≡ body
given_by (File file) world bytes = IsFile world.files file bytes

-- the files that a command loads whose bytes come so
abbrev pub loads_by : Source → List ℕ → Type 0
loads_by (Body body) loaded = LoadsNone loaded
loads_by (File file) loaded = LoadsBehind [] file loaded

-- The bytes are this grammar, held over the corpus, and all checks of a grammar pass wherever the corpus is held and however the bytes come, in any setting whose images
-- agree with those taken.
pub record ReadsRules (corpus : Corpus) (bytes : List ℕ) (ruled : Ruled) : Type 0 where
  pub read : ReadsGrammar corpus.registry bytes ruled.grammar
  pub over : AreOver corpus ruled
  pub passes : (setting : Setting) (world : World) (source : Source) → IsHeldIn world corpus → AreImagesBy (images_of setting) corpus.taken → AreGiven (given_by source world) bytes →
      NoneStands (rule_checks setting world (given_by source world))

-- The bytes are declined so, for the first check that stands or by what may come in its place. Meanwhile the shop, which had refused the old texts, came to have
-- refused the new ones.
pub record DeclinesRules (corpus : Corpus) (bytes : List ℕ) (old new : List (List ℕ)) (declined : Declined) : Type 0 where
  pub refused : List (List ℕ)
  pub more : new ≡ old ++ refused
  pub stands : (setting : Setting) (world : World) (source : Source) → IsHeldIn world corpus → AreImagesBy (images_of setting) corpus.taken → AreGiven (given_by source world) bytes →
      IsDeclined (rule_checks setting world (given_by source world)) (λ line. ExceptsRules world (loads_by source) (given_by source world) (gained_of refused) world (Refused line)) declined
