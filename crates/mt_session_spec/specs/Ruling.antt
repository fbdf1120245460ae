-- `grammar` and `rules`: a sketch grammar is read from a file or a body, and holds from now on.
use Rattle.std.specs.Prelude.{ℕ, ◌≡◌, List, [], ◌∷◌, ◌++◌, codes}
use Rattle.std.specs.List.{Contains}
use Rattle.std.specs.Fmt.{decimal}
use Rattle.mt_text_spec.specs.Registries.{Registry}
use Rattle.mt_text_spec.specs.Texts.{Text}
use Rattle.mt_text_spec.specs.Queries.{Grammar}
use Rattle.mt_grammar_spec.specs.GrammarFile.{GrammarCause, FirstGrammarFault}
use Rattle.mt_grammar_spec.specs.ReadGrammar.{ReadsGrammar, LacksRelation, relation_count}
use Rattle.mt_rule_spec.specs.Rules.{grammar_patterns, HasTooManyIn}
use Rattle.mt_session_spec.specs.World.{World, corpus_of, with_grammar}
use Rattle.mt_session_spec.specs.Settings.{Setting, images_of}
use Rattle.mt_session_spec.specs.Gains.{Gained}
use Rattle.mt_session_spec.specs.Refusals.{Refusal, BadGrammar, NoRelation, BadPattern, TooManyRows, refusal_line, pattern_refused_line}
use Rattle.mt_session_spec.specs.Checks.{Check, When}
use Rattle.mt_session_spec.specs.Patterns.{IsFirstBad, IsDeep, IsRefused}
use Rattle.mt_session_spec.specs.Answers.{Answer, Refused, Lines}
use Rattle.mt_session_spec.specs.Files.{IsFile, file_checks}
use Rattle.mt_session_spec.specs.Meaning.{Meaning, Exception, LoadsNone, LoadsBehind}

-- ## A grammar of these bytes, whichever way they came

-- the bytes are read as this grammar
pub record GivesGrammar (registry : Registry) (Given : List ℕ → Type 0) (grammar : Grammar) : Type 0 where
  pub bytes : List ℕ
  pub given : Given bytes
  pub read : ReadsGrammar registry bytes grammar

-- the bytes are no grammar: a line is bad, or there is no heading
pub data IsNoGrammar (registry : Registry) (Given : List ℕ → Type 0) : Refusal → Type 0 where
  BadLine : (bytes : List ℕ) (line : ℕ) (cause : GrammarCause) → Given bytes → FirstGrammarFault registry bytes line cause → IsNoGrammar registry Given (BadGrammar line cause)
  Unrelated : (bytes : List ℕ) → Given bytes → LacksRelation registry bytes → IsNoGrammar registry Given NoRelation

-- the first pattern of the grammar that is none
pub data HasBadRule (registry : Registry) (Given : List ℕ → Type 0) : Refusal → Type 0 where
  Bad : (grammar : Grammar) (k : ℕ) → GivesGrammar registry Given grammar → IsFirstBad (grammar_patterns grammar) k → HasBadRule registry Given (BadPattern k)

-- some query of the grammar has too many rows in some text of the corpus by itself
pub record HasTooManyInSome (setting : Setting) (world : World) (Given : List ℕ → Type 0) : Type 0 where
  pub grammar : Grammar
  pub gives : GivesGrammar world.held.registry Given grammar
  pub text : Text
  pub there : Contains (corpus_of world.held.groups) text
  pub many : HasTooManyIn (images_of setting) world.held.registry grammar text

-- the bytes are a grammar, its patterns are such, and its queries have not too many rows
abbrev pub rule_checks : Setting → World → (List ℕ → Type 0) → List Check
rule_checks setting world Given =
    IsNoGrammar world.held.registry Given ∷ HasBadRule world.held.registry Given ∷ When (HasTooManyInSome setting world Given) TooManyRows ∷ []

-- the grammar is held from now on, in place of any before, and the reply is the number of its relations, of which a dual one counts twice
pub record SetsGrammar (world : World) (Given : List ℕ → Type 0) (new : World) (answer : Answer) : Type 0 where
  pub grammar : Grammar
  pub gives : GivesGrammar world.held.registry Given grammar
  pub changed : new ≡ record world { held = with_grammar world.held grammar }
  pub says : answer ≡ Lines ((codes "ok " ++ decimal (relation_count grammar.relations)) ∷ [])

-- What may come in place of all that, which leaves this world: what may of any command; a pattern that nests too deep is told as none; or one that the shop refused in
-- this command is told as refused. Each pattern before it is one.
pub data ExceptsRules (world : World) (Loads Given : List ℕ → Type 0) (gained : Gained) : World → Answer → Type 0 where
  Plainly : (answer : Answer) → Exception world Loads gained world answer → ExceptsRules world Loads Given gained world answer
  Deep : (grammar : Grammar) (k : ℕ) → GivesGrammar world.held.registry Given grammar → IsDeep (grammar_patterns grammar) k →
      ExceptsRules world Loads Given gained world (Refused (refusal_line (BadPattern k)))
  Unbuilt : (grammar : Grammar) (k : ℕ) → GivesGrammar world.held.registry Given grammar → IsRefused (grammar_patterns grammar) gained.refused k →
      ExceptsRules world Loads Given gained world (Refused (pattern_refused_line k))

-- ## The commands

-- `rules`: the lines behind the command are the grammar
abbrev pub ruling : Setting → World → List ℕ → Meaning
ruling setting world body = record {
  checks = rule_checks setting world (λ bytes. bytes ≡ body);
  Accepts = SetsGrammar world (λ bytes. bytes ≡ body);
  Excepts = ExceptsRules world LoadsNone (λ bytes. bytes ≡ body);
}

-- `grammar`: the file is the grammar
abbrev pub ruling_by_file : Setting → World → List ℕ → Meaning
ruling_by_file setting world file = record {
  checks = file_checks world.files file ++ rule_checks setting world (IsFile world.files file);
  Accepts = SetsGrammar world (IsFile world.files file);
  Excepts = ExceptsRules world (LoadsBehind [] file) (IsFile world.files file);
}
