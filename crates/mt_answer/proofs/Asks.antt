-- What the replies to questions mean.
use Rattle.std.proofs.Common.{◌≡◌, ℕ, ◌⊎◌, inl, inr, List, [], Option, refl, sym, append-nil}
use Rattle.mt_text_spec.specs.Queries.{Grammar}
use Rattle.mt_text_spec.specs.Lines.{closed}
use Rattle.mt_match_spec.specs.Values.{Images}
use Rattle.mt_corpus_spec.specs.Images.{Corpus}
use Rattle.mt_counts.specs.Counted.{Counted}
use Rattle.mt_script_spec.specs.Commands.{Ask}
use Rattle.mt_session_spec.specs.Gains.{Gained}
use Rattle.mt_session_spec.specs.Refusals.{Refusal, refusal_line, no_memory_line}
use Rattle.mt_session_spec.specs.Checks.{FirstStands}
use Rattle.mt_session_spec.specs.Answers.{Answer, Refused}
use Rattle.mt_session_spec.specs.Meaning.{Question}
use Rattle.mt_session_spec.specs.Steps.{AskStep, AskStepBy, AskDeclined, AskStarved}
use Rattle.mt_answer.specs.declared.reply.Reply.{Reply}
use Rattle.mt_answer.specs.declared.reply.Reply.TheVariants.{Refused as RefusedReply, NoMemory}
use Rattle.mt_answer.specs.Replies.{SaysOf, SaysRefused, SaysNoMemory, Given, AnswersAsk, seen, gained_of}

abbrev pub Asked : Question → Gained → Reply → Type 0
Asked asked gained reply = SaysOf (λ answer. AskStepBy asked gained answer) reply

-- the question is declined by this refusal
pub declined : (asked : Question) (gained : Gained) (refusal : Refusal) (reply : Reply) → FirstStands asked.checks refusal → Given (Refused (refusal_line refusal)) reply → Asked asked gained reply
declined asked gained refusal reply f g = record { answer = g.answer; says = g.says; holds = by g.answer g.holds }
  where
    by : (answer : Answer) → (answer ≡ Refused (refusal_line refusal)) ⊎ (answer ≡ Refused no_memory_line) → AskStepBy asked gained answer
    by answer (inl e) = rw e (AskDeclined refusal f)
    by answer (inr e) = rw e AskStarved

-- memory ran out
pub starved : (asked : Question) (gained : Gained) → Asked asked gained NoMemory
starved asked gained = record { answer = Refused no_memory_line; says = SaysNoMemory; holds = AskStarved }

-- ## Where no shop was asked

-- a reply that answers where the shop refused nothing
pub unasked : (corpus : Corpus) (counted : Option Counted) (asked : Ask) (old : List (List ℕ)) (reply : Reply) →
    ((images : Images) (grammar : Option Grammar) → SaysOf (λ answer. AskStep (seen images corpus grammar) asked (gained_of []) answer) reply) → AnswersAsk corpus counted asked old old reply
unasked corpus counted asked old reply answers = record { refused = []; more = sym (append-nil old); answers = λ images grammar agree are. answers images grammar }

-- ## Refusals

pub in_line : (bytes line : List ℕ) → bytes ≡ closed line → Given (Refused line) (RefusedReply bytes)
in_line bytes line e = record { answer = Refused line; says = SaysRefused bytes line e; holds = inl refl }

pub in_none : (expected : Answer) → Given expected NoMemory
in_none expected = record { answer = Refused no_memory_line; says = SaysNoMemory; holds = inr refl }
