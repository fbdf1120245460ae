-- What the replies to questions mean, to commands that are not built yet, and to `quit`.
use Rattle.std.proofs.Common.{◌≡◌, inl, inr, ℕ, List, refl}
use Rattle.mt_text_spec.specs.Lines.{closed}
use Rattle.mt_script_spec.specs.Commands.{Quit}
use Rattle.mt_session_spec.specs.World.{Held, World}
use Rattle.mt_session_spec.specs.Settings.{Setting}
use Rattle.mt_session_spec.specs.Gains.{none_gained}
use Rattle.mt_session_spec.specs.Refusals.{BadCommand, refusal_line, no_memory_line, ok_line}
use Rattle.mt_session_spec.specs.Answers as answers
use Rattle.mt_session_spec.specs.Meaning.{unbuilt, Starved}
use Rattle.mt_session_spec.specs.Quitting.{quitting}
use Rattle.mt_session_spec.specs.Steps.{Meant, Accepted}
use Rattle.mt_script.specs.Seen.{command_of}
use Rattle.mt_script.specs.declared.command.Ask.{Ask as RustAsk}
use Rattle.mt_script.specs.declared.command.Command.{Command as RustCommand}
use Rattle.mt_script.specs.declared.command.Command.TheVariants as command
use Rattle.mt_answer.specs.declared.reply.Reply.{Reply}
use Rattle.mt_answer.specs.declared.reply.Reply.TheVariants.{Last, NoMemory}
use Rattle.mt_answer.specs.Replies.{Given, SaysLast, SaysNoMemory}
use Rattle.mt_shell.specs.Answers.{AnswersAlone, over}
use Rattle.mt_shell.proofs.Meanings.{StepsBy, declined, given}

-- ## Commands that are not built yet

unbuilt_says : (world : World) (reply : Reply) → Given (answers.Refused (refusal_line BadCommand)) reply → StepsBy (unbuilt world) world none_gained reply world
unbuilt_says world reply g = declined (unbuilt world) world none_gained BadCommand reply (inl (record { is = refl; there = tt })) Starved g

pub unbuilt_command : (setting : Setting) (held : Held) (given : RustCommand) (reply : Reply) → ((file : List ℕ) → given ≡ command.Registry file → ⊥) → ((name body : List ℕ) → given ≡ command.Text name body → ⊥) →
    ((name file : List ℕ) → given ≡ command.Add name file → ⊥) → ((name : List ℕ) (seed tokens : ℕ) → given ≡ command.Generate name seed tokens → ⊥) → ((asked : RustAsk) → given ≡ command.Ask asked → ⊥) → ((file : List ℕ) → given ≡ command.Grammar file → ⊥) → ((body : List ℕ) → given ≡ command.Rules body → ⊥) →
    (given ≡ command.Segments → ⊥) → ((name : List ℕ) → given ≡ command.Remove name → ⊥) → (given ≡ command.Quit → ⊥) →
    Given (answers.Refused (refusal_line BadCommand)) reply → AnswersAlone setting held (command_of given) reply held
unbuilt_command setting held (command.Registry file) reply r t a n q h u l m s g files = absurd (r file refl)
unbuilt_command setting held (command.Text name body) reply r t a n q h u l m s g files = absurd (t name body refl)
unbuilt_command setting held (command.Add name file) reply r t a n q h u l m s g files = absurd (a name file refl)
unbuilt_command setting held (command.Ask asked) reply r t a n q h u l m s g files = absurd (q asked refl)
unbuilt_command setting held command.Segments reply r t a n q h u l m s g files = absurd (l refl)
unbuilt_command setting held command.Quit reply r t a n q h u l m s g files = absurd (s refl)
unbuilt_command setting held (command.Generate name seed tokens) reply r t a n q h u l m s g files = absurd (n name seed tokens refl)
unbuilt_command setting held (command.Grammar file) reply r t a n q h u l m s g files = absurd (h file refl)
unbuilt_command setting held (command.Rules body) reply r t a n q h u l m s g files = absurd (u body refl)
unbuilt_command setting held (command.Merge first last) reply r t a n q h u l m s g files = unbuilt_says (over held files) reply g
unbuilt_command setting held (command.Batch lines merge) reply r t a n q h u l m s g files = unbuilt_says (over held files) reply g
unbuilt_command setting held (command.Save name) reply r t a n q h u l m s g files = unbuilt_says (over held files) reply g
unbuilt_command setting held (command.Load name) reply r t a n q h u l m s g files = unbuilt_says (over held files) reply g
unbuilt_command setting held (command.Remove name) reply r t a n q h u l m s g files = absurd (m name refl)
unbuilt_command setting held (command.Subcorpus name cql) reply r t a n q h u l m s g files = unbuilt_says (over held files) reply g
unbuilt_command setting held (command.Subcount name cql) reply r t a n q h u l m s g files = unbuilt_says (over held files) reply g
unbuilt_command setting held (command.Keywords name attr rarity most) reply r t a n q h u l m s g files = unbuilt_says (over held files) reply g
unbuilt_command setting held (command.Partner name kind) reply r t a n q h u l m s g files = unbuilt_says (over held files) reply g

-- ## `quit`

pub last_line : (bytes : List ℕ) → bytes ≡ closed ok_line → Given (answers.Last ok_line) (Last bytes)
last_line bytes e = record { answer = answers.Last ok_line; says = SaysLast bytes ok_line e; holds = inl refl }

pub no_last_line : Given (answers.Last ok_line) NoMemory
no_last_line = record { answer = answers.Refused no_memory_line; says = SaysNoMemory; holds = inr refl }

pub quits : (setting : Setting) (held : Held) (reply : Reply) → Given (answers.Last ok_line) reply → AnswersAlone setting held Quit reply held
quits setting held reply g files =
    let world = over held files in
    given (quitting world) world none_gained (answers.Last ok_line) reply (Meant world (answers.Last ok_line) (Accepted world (answers.Last ok_line) tt (record { same = refl; says = refl }))) Starved g
