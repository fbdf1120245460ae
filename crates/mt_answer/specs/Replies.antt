-- What a reply of the program says.
use Rattle.std.specs.Prelude.{ℕ, ◌≡◌, ◌⊎◌, List, [], ◌++◌, Option, None, Some}
use Rattle.std.specs.List.{flat_map}
use Rattle.mt_text_spec.specs.Lines.{closed}
use Rattle.mt_text_spec.specs.Queries.{Grammar}
use Rattle.mt_match_spec.specs.Values.{Images}
use Rattle.mt_corpus_spec.specs.Groups.{corpus_of}
use Rattle.mt_corpus_spec.specs.Images.{Corpus, AreImagesBy}
use Rattle.mt_counts.specs.Counted.{Counted}
use Rattle.mt_triples.specs.CountsOf.{AreCountsOf}
use Rattle.mt_script_spec.specs.Commands.{Ask}
use Rattle.mt_session_spec.specs.Scenes.{Scene}
use Rattle.mt_session_spec.specs.Gains.{Gained}
use Rattle.mt_session_spec.specs.Refusals.{no_memory_line}
use Rattle.mt_session_spec.specs.Answers as answers
use Rattle.mt_session_spec.specs.Steps.{AskStep}
use Rattle.mt_answer.specs.declared.reply.Reply.{Reply}
use Rattle.mt_answer.specs.declared.reply.Reply.TheVariants.{Refused, Lines, Last, NoMemory}

-- the reply is this answer: of the same kind, in the same lines
pub data Says : Reply → answers.Answer → Type 0 where
  SaysRefused : (bytes line : List ℕ) → bytes ≡ closed line → Says (Refused bytes) (answers.Refused line)
  SaysLines : (bytes : List ℕ) (lines : List (List ℕ)) → bytes ≡ flat_map closed lines → Says (Lines bytes) (answers.Lines lines)
  SaysLast : (bytes line : List ℕ) → bytes ≡ closed line → Says (Last bytes) (answers.Last line)
  SaysNoMemory : Says NoMemory (answers.Refused no_memory_line)

-- it is an answer of which this holds
pub record SaysOf (P : answers.Answer → Type 0) (reply : Reply) : Type 0 where
  pub answer : answers.Answer
  pub says : Says reply answer
  pub holds : P answer

-- it is this answer, or tells that memory ran out
abbrev pub Given : answers.Answer → Reply → Type 0
Given expected reply = SaysOf (λ answer. (answer ≡ expected) ⊎ (answer ≡ answers.Refused no_memory_line)) reply

-- ## Questions

-- what a question sees where this corpus and this grammar are held, under these images
abbrev pub seen : Images → Corpus → Option Grammar → Scene
seen images corpus grammar = record { images = images; registry = corpus.registry; corpus = corpus_of corpus.groups; grammar = grammar }

-- the shop refused these texts, and no call of the shelf failed
abbrev pub gained_of : List (List ℕ) → Gained
gained_of refused = record { failed = []; refused = refused }

-- What is counted of the corpus is what the grammar counts there, under these images. With no grammar nothing is counted.
abbrev pub AreCountsBy : Images → Corpus → Option Grammar → Option Counted → Type 0
AreCountsBy images corpus None None = Unit {0}
AreCountsBy images corpus None (Some counted) = ⊥
AreCountsBy images corpus (Some grammar) None = ⊥
AreCountsBy images corpus (Some grammar) (Some counted) = AreCountsOf images corpus.registry grammar (corpus_of corpus.groups) counted

-- The reply answers this question wherever this corpus and a grammar with these counts are held, whatever the images that agree with those taken. Meanwhile the shop, which
-- had refused the old texts, came to have refused the new ones.
pub record AnswersAsk (corpus : Corpus) (counts : Option Counted) (ask : Ask) (old new : List (List ℕ)) (reply : Reply) : Type 0 where
  pub refused : List (List ℕ)
  pub more : new ≡ old ++ refused
  pub answers : (images : Images) (grammar : Option Grammar) → AreImagesBy images corpus.taken → AreCountsBy images corpus grammar counts →
      SaysOf (λ answer. AskStep (seen images corpus grammar) ask (gained_of refused) answer) reply
