-- Which checks of a grammar pass.
use Rattle.std.proofs.Common.{◌≡◌, ℕ, List, sym, subst}
use Rattle.std.specs.List.{All}
use Rattle.mt_text_spec.specs.Registries.{Registry}
use Rattle.mt_text_spec.specs.Queries.{Grammar}
use Rattle.mt_grammar_spec.specs.GrammarFile.{FirstGrammarFault}
use Rattle.mt_grammar_spec.specs.ReadGrammar.{ReadsGrammar, LacksRelation}
use Rattle.mt_grammar_laws.specs.Laws.{OneGrammar, AreApart}
use Rattle.mt_count_spec.specs.Counts.{HasRoom}
use Rattle.mt_counts.specs.Counted.{Counted}
use Rattle.mt_rule_spec.specs.Rules.{grammar_patterns, HasTooManyIn}
use Rattle.mt_corpus_spec.specs.Groups.{Group, corpus_of}
use Rattle.mt_corpus_spec.specs.Images.{Corpus}
use Rattle.mt_prepare.specs.Built as built
use Rattle.mt_session_spec.specs.World.{World}
use Rattle.mt_session_spec.specs.Settings.{Setting, images_of}
use Rattle.mt_session_spec.specs.Refusals.{TooManyRows}
use Rattle.mt_session_spec.specs.Checks.{When, Passes, NoneStands}
use Rattle.mt_session_spec.specs.Patterns.{IsFirstBad}
use Rattle.mt_session_spec.specs.Ruling.{GivesGrammar, IsNoGrammar, BadLine, Unrelated, HasBadRule, Bad, HasTooManyInSome, rule_checks}
use Rattle.mt_answer.specs.Told.{PatternsAreTold}
use Rattle.mt_rules.specs.Ruled.{AreOver}
use Rattle.mt_rules.specs.Reading.{IsHeldIn, AreGiven, given_by, ReadsRules}
use Rattle.mt_rules.proofs.Overs.{ruled_by}

-- a grammar that is read of bytes that are given in a world
module _ (corpus : Corpus) (bytes : List ℕ) (grammar : Grammar) (read : ReadsGrammar corpus.registry bytes grammar) (world : World) (Given : List ℕ → Type 0) (held : IsHeldIn world corpus)
    (given : AreGiven Given bytes) where
  reads : ReadsGrammar world.held.registry bytes grammar
  reads = subst (λ (r : Registry). ReadsGrammar r bytes grammar) (sym held.registry) read

  pub gives : GivesGrammar world.held.registry Given grammar
  gives = record { bytes = bytes; given = given.there; read = reads }

  same_grammar : OneGrammar → (other : Grammar) → GivesGrammar world.held.registry Given other → other ≡ grammar
  same_grammar one other g =
      one world.held.registry bytes other grammar (subst (λ (b : List ℕ). ReadsGrammar world.held.registry b other) (given.only g.bytes g.given) g.read) reads

  -- the bytes are a grammar
  pub read_passes : AreApart → Passes (IsNoGrammar world.held.registry Given)
  read_passes apart refusal (BadLine other line cause there fault) =
      apart.read_or_faulty world.held.registry bytes grammar line cause reads (subst (λ (b : List ℕ). FirstGrammarFault world.held.registry b line cause) (given.only other there) fault)
  read_passes apart refusal (Unrelated other there lacks) =
      apart.read_or_empty world.held.registry bytes grammar reads (subst (λ (b : List ℕ). LacksRelation world.held.registry b) (given.only other there) lacks)

  -- its patterns are such
  pub patterns_pass : OneGrammar → PatternsAreTold → All built.IsWhole (grammar_patterns grammar) → Passes (HasBadRule world.held.registry Given)
  patterns_pass one told whole refusal (Bad other k g bad) =
      told.whole (grammar_patterns grammar) k whole (subst (λ (g : Grammar). IsFirstBad (grammar_patterns g) k) (same_grammar one other g) bad)

  -- its queries have not too many rows
  module _ (setting : Setting) where
    room_here : HasRoom (images_of setting) corpus.registry grammar (corpus_of corpus.groups) → HasRoom (images_of setting) world.held.registry grammar (corpus_of world.held.groups)
    room_here room =
        subst (λ (r : Registry). HasRoom (images_of setting) r grammar (corpus_of world.held.groups)) (sym held.registry)
        (subst (λ (groups : List Group). HasRoom (images_of setting) corpus.registry grammar (corpus_of groups)) (sym held.groups) room)

    pub rows_pass : OneGrammar → HasRoom (images_of setting) corpus.registry grammar (corpus_of corpus.groups) → Passes (When (HasTooManyInSome setting world Given) TooManyRows)
    rows_pass one room refusal w =
        let some = w.there in
        let many : HasTooManyIn (images_of setting) world.held.registry grammar some.text =
        subst (λ (g : Grammar). HasTooManyIn (images_of setting) world.held.registry g some.text) (same_grammar one some.grammar some.gives) some.many in
        room_here room some.text many.query some.there many.asked many.over

    pub all_pass : OneGrammar → AreApart → PatternsAreTold → All built.IsWhole (grammar_patterns grammar) → HasRoom (images_of setting) corpus.registry grammar (corpus_of corpus.groups) →
        NoneStands (rule_checks setting world Given)
    all_pass one apart told whole room = (read_passes apart, (patterns_pass one told whole, (rows_pass one room, tt)))

-- all of them pass
pub reads_rules : OneGrammar → AreApart → PatternsAreTold → (corpus : Corpus) (bytes : List ℕ) (grammar : Grammar) (counted : Counted) → ReadsGrammar corpus.registry bytes grammar →
    All built.IsWhole (grammar_patterns grammar) → AreOver corpus (ruled_by grammar counted) → ReadsRules corpus bytes (ruled_by grammar counted)
reads_rules one apart told corpus bytes grammar counted read whole over = record {
  read = read;
  over = over;
  passes = λ setting world source held by given. all_pass corpus bytes grammar read world (given_by source world) held given setting one apart told whole (over.room (images_of setting) by);
}
