-- What the replies to `generate` mean: it does with the generated vertical what `text` does with its body. Under the standard registry that is to keep the generated
-- text.
use Rattle.std.proofs.Common.{◌≡◌, ℕ, ◌≤◌, List, [], ◌∷◌, sym, subst, length, arith, Bool, Option}
use Rattle.std.proofs.lemmas.List.FromFn.{length-map-range_with_len}
use Rattle.mt_text_spec.specs.Registries.{Registry, ValidRegistry, standard_registry}
use Rattle.mt_text_spec.specs.Texts.{ValidText, text_tokens_limit}
use Rattle.mt_text_spec.specs.Words.{IsName}
use Rattle.mt_text_spec.specs.Queries.{Grammar}
use Rattle.mt_file_spec.specs.Vertical.{Vertical}
use Rattle.mt_segment_spec.specs.Tables.{AreTablesOf, Tables}
use Rattle.mt_corpus_spec.specs.Images.{Corpus, AreImagesBy}
use Rattle.mt_corpus_spec.specs.Decoded.{images_in}
use Rattle.mt_corpus.specs.Held.{IsMadeOf}
use Rattle.mt_generate_spec.specs.Generated.{generated_text, token_at}
use Rattle.mt_generate_laws.specs.Laws.{ReadsBack, ValidTexts}
use Rattle.mt_generate_spec.specs.Verticals.{generated_vertical}
use Rattle.mt_script_spec.specs.Commands.{Generate}
use Rattle.mt_session_spec.specs.World.{Held, Holds, IsFull}
use Rattle.mt_session_spec.specs.Settings.{Setting}
use Rattle.mt_session_spec.specs.Gains.{none_gained}
use Rattle.mt_session_spec.specs.Refusals.{NameTaken, refusal_line}
use Rattle.mt_session_spec.specs.Answers as answers
use Rattle.mt_session_spec.specs.Meaning.{Starved}
use Rattle.mt_session_spec.specs.Generating.{generating}
use Rattle.mt_answer.specs.declared.reply.Reply.{Reply}
use Rattle.mt_answer.specs.declared.reply.Reply.TheVariants.{NoMemory}
use Rattle.mt_answer.specs.Replies.{Given}
use Rattle.mt_shell.specs.Serves.{Kept, kept}
use Rattle.mt_shell.specs.Answers.{AnswersAlone, KeepsText, ReadsText, over}
use Rattle.mt_shell.proofs.Meanings.{starved}
use Rattle.mt_shell.proofs.Adding.{Readings, room_for, sound, text_taken, text_read}

pub generate_taken : (setting : Setting) (held : Held) (name : List ℕ) (seed tokens : ℕ) (reply : Reply) → Holds held name → Given (answers.Refused (refusal_line (NameTaken name))) reply →
    AnswersAlone setting held (Generate name seed tokens) reply held
generate_taken setting held name seed tokens reply h g = text_taken setting held name (generated_vertical name seed tokens) reply h g

pub generate_starved : (setting : Setting) (held : Held) (name : List ℕ) (seed tokens : ℕ) → AnswersAlone setting held (Generate name seed tokens) NoMemory held
generate_starved setting held name seed tokens files = starved (generating setting (over held files) name seed tokens) (over held files) none_gained Starved

pub generate_read : (laws : Readings) (setting : Setting) (held new : Held) (name : List ℕ) (seed tokens : ℕ) (bytes : List ℕ) (reply : Reply) → ValidRegistry held.registry → (Holds held name → ⊥) →
    bytes ≡ generated_vertical name seed tokens → ReadsText setting held name bytes reply new → AnswersAlone setting held (Generate name seed tokens) reply new
generate_read laws setting held new name seed tokens bytes reply valid free e r = text_read laws setting held new name (generated_vertical name seed tokens) reply valid free (rw e at r)

-- ## Under the standard registry

pub valid_there : (laws : ValidTexts) (registry : Registry) (name : List ℕ) (seed tokens : ℕ) → registry ≡ standard_registry → IsName name → tokens ≤ text_tokens_limit → ValidText registry (generated_text name seed tokens)
valid_there laws registry name seed tokens is named few = subst (λ (r : Registry). ValidText r (generated_text name seed tokens)) (sym is) (laws name seed tokens named few)

pub generate_kept : (laws : Readings) (back : ReadsBack) (setting : Setting) (held new : Held) (name : List ℕ) (seed tokens : ℕ) (reply : Reply) → ValidRegistry held.registry → (Holds held name → ⊥) → held.registry ≡ standard_registry →
    IsName name → tokens ≤ text_tokens_limit → KeepsText setting held (generated_text name seed tokens) reply new → AnswersAlone setting held (Generate name seed tokens) reply new
generate_kept laws back setting held new name seed tokens reply valid free is named few keeps =
    let read : Vertical held.registry name (generated_vertical name seed tokens) (generated_text name seed tokens) =
    subst (λ (r : Registry). Vertical r name (generated_vertical name seed tokens) (generated_text name seed tokens)) (sym is) (back name seed tokens named few) in
    text_read laws setting held new name (generated_vertical name seed tokens) reply valid free (sound setting held new name (generated_vertical name seed tokens) (generated_text name seed tokens) reply read keeps)

-- it has no mapped attribute
pub no_images : (images : List ℕ → List ℕ → List ℕ) (registry : Registry) (tables : Tables) → registry ≡ standard_registry → AreImagesBy images (images_in registry tables)
unfolding images_in
no_images images registry tables is = subst (λ (r : Registry). AreImagesBy images (images_in r tables)) (sym is) (λ k d l. absurd (omega arith))

pub tokens_are : (name : List ℕ) (seed tokens : ℕ) → tokens ≡ length (generated_text name seed tokens).tokens
tokens_are name seed tokens = sym (length-map-range_with_len (token_at seed) 0 tokens)

-- there is room for it
pub room_here : (state : Kept) (accepted : Bool) (grammar : Option Grammar) (corpus : Corpus) (name : List ℕ) (seed tokens : ℕ) → kept accepted grammar corpus ≡ state → (IsFull corpus.groups tokens → ⊥) →
    IsFull state.held.groups (length (generated_text name seed tokens).tokens) → ⊥
room_here state accepted grammar corpus name seed tokens v room = room_for state accepted grammar corpus (generated_text name seed tokens) tokens v (tokens_are name seed tokens) room

-- its segment is made of it
pub made_of : (held registry : Registry) (name own : List ℕ) (seed tokens : ℕ) (tables : Tables) → registry ≡ held → own ≡ name →
    ((images : List ℕ → List ℕ → List ℕ) → AreTablesOf images registry (generated_text own seed tokens ∷ []) tables) → IsMadeOf held (generated_text name seed tokens) tables
made_of held registry name own seed tokens tables same is all =
    record { images = λ mapper value. value; are = rw (← same, ← is) (all (λ mapper value. value)) }
