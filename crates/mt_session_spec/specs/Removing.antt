-- `remove`: a text is no text of the corpus from now on.
use Rattle.std.specs.Prelude.{ℕ, ◌≡◌, List, [], ◌∷◌, ◌++◌, length, codes}
use Rattle.std.specs.List.{Contains}
use Rattle.std.specs.Fmt.{decimal}
use Rattle.mt_text_spec.specs.Texts.{Text}
use Rattle.mt_corpus_spec.specs.Groups.{corpus_of}
use Rattle.mt_session_spec.specs.World.{World, Holds, without_text}
use Rattle.mt_session_spec.specs.Refusals.{NoSuchText}
use Rattle.mt_session_spec.specs.Checks.{When}
use Rattle.mt_session_spec.specs.Answers.{Answer, Lines}
use Rattle.mt_session_spec.specs.Meaning.{Meaning, Exception, LoadsNone}

-- the text of this name is not live from now on, and the reply is the number of its tokens
pub record RemovesText (world : World) (name : List ℕ) (new : World) (answer : Answer) : Type 0 where
  pub text : Text
  pub there : Contains (corpus_of world.held.groups) text
  pub named : text.name ≡ name
  pub changed : new ≡ record world { held = without_text world.held name }
  pub says : answer ≡ Lines ((codes "ok " ++ decimal (length text.tokens)) ∷ [])

-- `remove`: a text of this name is in the corpus. What a grammar counts in it goes with it: no query of the grammar has too many rows there, or the grammar or the text
-- would have been refused.
abbrev pub removing : World → List ℕ → Meaning
removing world name = record {
  checks = When (¬ Holds world.held name) (NoSuchText name) ∷ [];
  Accepts = RemovesText world name;
  Excepts = Exception world LoadsNone;
}
