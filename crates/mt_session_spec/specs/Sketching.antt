-- `sketch` and `thes`: what the grammar that is held counts of a lemma.
use Rattle.std.specs.Prelude.{ℕ, ◌≡◌, List, [], ◌∷◌, None, Some}
use Rattle.mt_text_spec.specs.Queries.{Grammar}
use Rattle.mt_word_sketch_spec.specs.Sketches.{Sketch}
use Rattle.mt_word_sketch_spec.specs.Thesaurus.{Thesaurus}
use Rattle.mt_session_spec.specs.Scenes.{Scene}
use Rattle.mt_session_spec.specs.Refusals.{NoGrammar}
use Rattle.mt_session_spec.specs.Checks.{Check, When}
use Rattle.mt_session_spec.specs.Meaning.{Question, ExceptsNone}

-- a grammar is held
abbrev pub grammar_checks : Scene → List Check
grammar_checks scene = When (scene.grammar ≡ None) NoGrammar ∷ []

-- the grammar that is held, by which the lines are made
pub record ByGrammar (scene : Scene) (Says : Grammar → Type 0) : Type 0 where
  pub grammar : Grammar
  pub held : scene.grammar ≡ Some grammar
  pub says : Says grammar

-- `sketch`: the relations of a lemma over the corpus, and what stands beside it there at least so often, the first so many of each relation
abbrev pub sketching : Scene → (least most : ℕ) → (lemma : List ℕ) → Question
sketching scene least most lemma = record {
  checks = grammar_checks scene;
  Answers = λ lines. ByGrammar scene (λ grammar. Sketch scene.images scene.registry grammar scene.corpus lemma least most lines);
  Excepts = ExceptsNone;
}

-- `thes`: the first so many words that stand where the lemma does
abbrev pub finding_alike : Scene → (most : ℕ) → (lemma : List ℕ) → Question
finding_alike scene most lemma = record {
  checks = grammar_checks scene;
  Answers = λ lines. ByGrammar scene (λ grammar. Thesaurus scene.images scene.registry grammar scene.corpus lemma most lines);
  Excepts = ExceptsNone;
}
