-- What a grammar is declined for.
use Rattle.std.proofs.Common.{◌≡◌, ℕ, inl, inr, List, [], refl, sym, ◌∙◌, subst, append-nil}
use Rattle.std.specs.List.{All, Contains}
use Rattle.mt_text_spec.specs.Registries.{Registry}
use Rattle.mt_text_spec.specs.Queries.{Grammar}
use Rattle.mt_match_spec.specs.Values.{Images}
use Rattle.mt_grammar_spec.specs.ReadGrammar.{ReadsGrammar}
use Rattle.mt_grammar_laws.specs.Laws.{OneGrammar, AreApart}
use Rattle.mt_rule_spec.specs.Rules.{grammar_patterns, HasTooManyIn}
use Rattle.mt_grammar_counts.specs.Told.{HasNoRoom}
use Rattle.mt_corpus_spec.specs.Groups.{Group, corpus_of}
use Rattle.mt_corpus_spec.specs.Images.{Corpus, AreImagesBy}
use Rattle.mt_prepare.specs.Built as built
use Rattle.mt_prepare.specs.declared.patterns.PatternError.{PatternError}
use Rattle.mt_prepare.specs.declared.patterns.PatternError.TheVariants as pattern
use Rattle.mt_session_spec.specs.World.{World}
use Rattle.mt_session_spec.specs.Settings.{Setting, images_of}
use Rattle.mt_session_spec.specs.Ruling.{IsNoGrammar, Bad, HasTooManyInSome, Deep, Unbuilt}
use Rattle.mt_answer.specs.declared.refusal.Refusal.TheVariants as refusal
use Rattle.mt_answer.specs.declared.declined.Declined.{Declined}
use Rattle.mt_answer.specs.declared.declined.Declined.TheVariants as d
use Rattle.mt_answer.specs.Refusals.{refusal_of}
use Rattle.mt_answer.specs.Declines.{IsUnruled}
use Rattle.mt_answer.specs.Given.{given_no_grammar}
use Rattle.mt_answer.specs.Told.{PatternsAreTold}
use Rattle.mt_rules.specs.Reading.{IsHeldIn, AreGiven, given_by, DeclinesRules}
use Rattle.mt_rules.specs.Patterns.{declined_by}
use Rattle.mt_rules.proofs.Checks.{gives, read_passes, patterns_pass}

-- no memory
pub starved_declines : (corpus : Corpus) (bytes : List ℕ) (old new : List (List ℕ)) → new ≡ old → DeclinesRules corpus bytes old new d.NoMemory
starved_declines corpus bytes old new kept = record { refused = []; more = kept ∙ sym (append-nil old); stands = λ setting world source held by given. tt }

-- the bytes are no grammar
pub unread_declines : (corpus : Corpus) (bytes : List ℕ) (old : List (List ℕ)) (declined : Declined) → IsUnruled corpus.registry bytes declined → DeclinesRules corpus bytes old old declined
unread_declines corpus bytes old (d.Refused why) u = record {
  refused = [];
  more = sym (append-nil old);
  stands = λ setting world source held by given.
      inl (inl (subst (λ (r : Registry). IsNoGrammar r (given_by source world) (refusal_of why)) (sym held.registry) (given_no_grammar corpus.registry bytes (given_by source world) (refusal_of why) given.there u)));
}
unread_declines corpus bytes old (d.PatternRefused number) u = absurd u
unread_declines corpus bytes old d.NoMemory u = record { refused = []; more = sym (append-nil old); stands = λ setting world source held by given. tt }

-- its patterns are not built
pub unbuilt_declines : AreApart → PatternsAreTold → (corpus : Corpus) (bytes : List ℕ) (grammar : Grammar) (old new : List (List ℕ)) (error : PatternError) →
    ReadsGrammar corpus.registry bytes grammar → built.Blames 1 (grammar_patterns grammar) old new error → DeclinesRules corpus bytes old new (declined_by error)
unbuilt_declines apart told corpus bytes grammar old new (pattern.Syntax k) read blames = record {
  refused = [];
  more = told.kept (grammar_patterns grammar) old new k blames ∙ sym (append-nil old);
  stands = λ setting world source held by given. elim (told.bad (grammar_patterns grammar) old new k blames) [
    | inl bad ↦ inl (inr (read_passes corpus bytes grammar read world (given_by source world) held given apart, inl (Bad grammar k (gives corpus bytes grammar read world (given_by source world) held given) bad)))
    | inr deep ↦ inr (Deep grammar k (gives corpus bytes grammar read world (given_by source world) held given) deep)
  ];
}
unbuilt_declines apart told corpus bytes grammar old new (pattern.Refused k) read blames =
    let since = told.refused (grammar_patterns grammar) old new k blames in
    record {
      refused = since.refused;
      more = since.more;
      stands = λ setting world source held by given. Unbuilt grammar k (gives corpus bytes grammar read world (given_by source world) held given) since.one;
    }
unbuilt_declines apart told corpus bytes grammar old new pattern.NoMemory read blames = starved_declines corpus bytes old new blames

-- a query has too many rows
many_there : (corpus : Corpus) (bytes : List ℕ) (grammar : Grammar) (read : ReadsGrammar corpus.registry bytes grammar) (setting : Setting) (world : World) (Given : List ℕ → Type 0) (held : IsHeldIn world corpus)
    (given : AreGiven Given bytes) → HasNoRoom (images_of setting) corpus.registry grammar (corpus_of corpus.groups) → HasTooManyInSome setting world Given
many_there corpus bytes grammar read setting world Given held given none = record {
  grammar = grammar;
  gives = gives corpus bytes grammar read world Given held given;
  text = none.text;
  there = subst (λ (groups : List Group). Contains (corpus_of groups) none.text) (sym held.groups) none.there;
  many = subst (λ (r : Registry). HasTooManyIn (images_of setting) r grammar none.text) (sym held.registry) (record { query = none.query; asked = none.asked; over = none.over });
}

pub many_declines : OneGrammar → AreApart → PatternsAreTold → (corpus : Corpus) (bytes : List ℕ) (grammar : Grammar) (old : List (List ℕ)) → ReadsGrammar corpus.registry bytes grammar →
    All built.IsWhole (grammar_patterns grammar) → ((images : Images) → AreImagesBy images corpus.taken → HasNoRoom images corpus.registry grammar (corpus_of corpus.groups)) →
    DeclinesRules corpus bytes old old (d.Refused refusal.TooManyRows)
many_declines one apart told corpus bytes grammar old read whole over = record {
  refused = [];
  more = sym (append-nil old);
  stands = λ setting world source held by given.
      inl (inr (
        read_passes corpus bytes grammar read world (given_by source world) held given apart,
        inr (
          patterns_pass corpus bytes grammar read world (given_by source world) held given one told whole,
          inl (record { is = refl; there = many_there corpus bytes grammar read setting world (given_by source world) held given (over (images_of setting) by) }),
        ),
      ));
}
