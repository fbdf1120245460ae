-- What the replies to `remove` mean.
use Rattle.std.proofs.Common.{◌≡◌, inl, ℕ, List, [], ◌∷◌, ◌++◌, length, refl, sym, ◌∙◌, ap, subst, codes, append-nil}
use Rattle.std.specs.Fmt.{decimal}
use Rattle.std.specs.List.{Any}
use Rattle.mt_text_spec.specs.Lines.{closed}
use Rattle.mt_corpus_spec.specs.Images.{Image}
use Rattle.mt_script_spec.specs.Commands.{Remove}
use Rattle.mt_session_spec.specs.World.{Held, Holds, corpus_of, without_text}
use Rattle.mt_session_spec.specs.Settings.{Setting}
use Rattle.mt_session_spec.specs.Gains.{none_gained}
use Rattle.mt_session_spec.specs.Refusals.{NoSuchText, refusal_line}
use Rattle.mt_session_spec.specs.Answers as answers
use Rattle.mt_session_spec.specs.Meaning.{Starved}
use Rattle.mt_session_spec.specs.Removing.{removing}
use Rattle.mt_session_spec.specs.Steps.{Meant, Accepted}
use Rattle.mt_answer.specs.declared.reply.Reply.{Reply}
use Rattle.mt_answer.specs.declared.reply.Reply.TheVariants.{Lines, NoMemory}
use Rattle.mt_answer.specs.Replies.{SaysLines, Given}
use Rattle.mt_shell.specs.Serves.{Kept, Serves}
use Rattle.mt_shell.specs.Answers.{AnswersAlone, over}
use Rattle.mt_shell.proofs.Meanings.{declined, starved, no_cause}

pub removed : (setting : Setting) (held new : Held) (name : List ℕ) (tokens : ℕ) (line : List ℕ) → new ≡ without_text held name → Any (λ text. (text.name ≡ name) × (length text.tokens ≡ tokens)) (corpus_of held.groups) →
    line ≡ closed (codes "ok " ++ decimal tokens) → AnswersAlone setting held (Remove name) (Lines line) new
removed setting held new name tokens line m found e files =
    let said : List (List ℕ) = (codes "ok " ++ decimal tokens) ∷ [] in
    record {
      answer = answers.Lines said;
      says = SaysLines line said (e ∙ sym (append-nil (closed (codes "ok " ++ decimal tokens))));
      holds = Meant (over new files) (answers.Lines said) (Accepted (over new files) (answers.Lines said)
          (no_cause (λ none. none (found.0, found.1, found.2, found.3, found.4.0)), tt)
          (record {
            text = found.1;
            there = (found.0, found.2, found.3);
            named = found.4.0;
            changed = ap (λ (h : Held). over h files) m;
            says = ap (λ (n : ℕ). answers.Lines ((codes "ok " ++ decimal n) ∷ [])) (sym found.4.1);
          }));
    }

pub none_removed : (setting : Setting) (held : Held) (name : List ℕ) (reply : Reply) → (Holds held name → ⊥) → Given (answers.Refused (refusal_line (NoSuchText name))) reply → AnswersAlone setting held (Remove name) reply held
none_removed setting held name reply free g files =
    declined (removing (over held files) name) (over held files) none_gained (NoSuchText name) reply (inl (record { is = refl; there = free })) Starved g

pub removed_not : (setting : Setting) (held new : Held) (name : List ℕ) → new ≡ held → AnswersAlone setting held (Remove name) NoMemory new
removed_not setting held new name m = rw m (λ files. starved (removing (over held files) name) (over held files) none_gained Starved)

-- ## What is held without a text

pub serves_less : (setting : Setting) (mappers : List (List ℕ × (List ℕ → List ℕ))) (old new : Kept) (name : List ℕ) → new.held ≡ without_text old.held name → new.taken ≡ old.taken → Serves setting mappers old → Serves setting mappers new
serves_less setting mappers old new name h t s =
    let less : Kept = record { held = without_text old.held name; taken = old.taken } in
    let u : Serves setting mappers less = record { all = s.all; only = s.only; there = s.there; agree = s.agree; taken = s.taken } in
    let same : new ≡ less = ap (λ (held : Held). record { held = held; taken = new.taken }) h ∙ ap (λ (taken : List Image). record { held = less.held; taken = taken }) t in
    subst (λ (k : Kept). Serves setting mappers k) (sym same) u
