-- What the replies to questions mean.
use Rattle.std.proofs.Common.{◌≡◌, ℕ, Bool, Option, List, [], refl, sym, ap, subst, append-nil}
use Rattle.mt_text_spec.specs.Queries.{Grammar}
use Rattle.mt_script_spec.specs.Commands.{Ask, Asks}
use Rattle.mt_corpus_spec.specs.Images.{Corpus, AreImagesBy}
use Rattle.mt_counts.specs.Counted.{Counted}
use Rattle.mt_session_spec.specs.World.{Held, World}
use Rattle.mt_session_spec.specs.Settings.{Setting, images_of}
use Rattle.mt_session_spec.specs.Scenes.{Scene, scene_of}
use Rattle.mt_session_spec.specs.Gains.{Gained}
use Rattle.mt_session_spec.specs.Refusals.{refusal_line, no_memory_line}
use Rattle.mt_session_spec.specs.Answers as answers
use Rattle.mt_session_spec.specs.Meaning.{Question, asking, QuestionStarved, QuestionExcepted}
use Rattle.mt_session_spec.specs.Meanings.{question}
use Rattle.mt_session_spec.specs.Steps.{AskStep, AskStepBy, AskDeclined, AskAnswered, AskStarved, AskExcepted, StepBy, Meant, Excepted, Declined, Accepted}
use Rattle.mt_answer.specs.declared.reply.Reply.{Reply}
use Rattle.mt_answer.specs.declared.reply.Reply.TheVariants.{NoMemory}
use Rattle.mt_answer.specs.Replies.{SaysNoMemory, AnswersAsk, AreCountsBy, seen, gained_of}
use Rattle.mt_shell.specs.Serves.{Kept, kept}
use Rattle.mt_shell.specs.Answers.{AnswersBeside, over}
use Rattle.mt_shell.proofs.Holding.{taken_for}

ask_steps : (asked : Question) (world : World) (gained : Gained) (answer : answers.Answer) → AskStepBy asked gained answer → StepBy (asking asked world) world gained world answer
ask_steps asked world gained answer (AskDeclined refusal f) = Meant world (answers.Refused (refusal_line refusal)) (Declined refusal f)
ask_steps asked world gained answer (AskAnswered lines none a) = Meant world (answers.Lines lines) (Accepted world (answers.Lines lines) none (record { lines = lines; answered = a; same = refl; says = refl }))
ask_steps asked world gained answer AskStarved = Excepted world (answers.Refused no_memory_line) QuestionStarved
ask_steps asked world gained answer (AskExcepted line e) = Excepted world (answers.Refused line) (QuestionExcepted line e)

pub asks : (setting : Setting) (state : Kept) (ask : Ask) (reply : Reply) (accepted : Bool) (grammar : Option Grammar) (corpus : Corpus) (counts : Option Counted) (before after : List (List ℕ)) → kept accepted grammar corpus ≡ state →
    AreImagesBy (images_of setting) state.taken → (AreImagesBy (images_of setting) corpus.taken → AreCountsBy (images_of setting) corpus grammar counts) → AnswersAsk corpus counts ask before after reply →
    AnswersBeside setting state.held (Asks ask) reply state.held before after
asks setting state ask reply accepted grammar corpus counts before after v agree counted a = record {
  refused = a.refused;
  more = a.more;
  answers = λ files.
      let held = state.held in
      let images : AreImagesBy (images_of setting) corpus.taken = taken_for setting state accepted grammar corpus v agree in
      let s = a.answers (images_of setting) grammar images (counted images) in
      let same : seen (images_of setting) corpus grammar ≡ scene_of setting held = ap (λ (k : Kept). scene_of setting k.held) v in
      record {
        answer = s.answer;
        says = s.says;
        holds = ask_steps (question (scene_of setting held) ask) (over held files) (gained_of a.refused) s.answer (subst (λ (scene : Scene). AskStep scene ask (gained_of a.refused) s.answer) same s.holds);
      };
}

-- where there is no memory to answer it
pub asks_starved : (setting : Setting) (held : Held) (ask : Ask) (before : List (List ℕ)) → AnswersBeside setting held (Asks ask) NoMemory held before before
asks_starved setting held ask before = record {
  refused = [];
  more = sym (append-nil before);
  answers = λ files. record { answer = answers.Refused no_memory_line; says = SaysNoMemory; holds = Excepted (over held files) (answers.Refused no_memory_line) QuestionStarved };
}
