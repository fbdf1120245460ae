-- A refused command changes nothing, and one that names a text has a name for it.
use Rattle.std.proofs.Common.{◌≡◌, ℕ, List, refl, sym, ◌∙◌, ap, subst}
use Rattle.mt_text_spec.specs.Words.{IsName}
use Rattle.mt_script_spec.specs.Commands.{Command, Text, Add, Generate, Header, Lone, TextHead, RulesHead, BatchHead, HasForm, HasLoneForm, WithBody}
use Rattle.mt_session_spec.specs.World.{Held, ValidHeld}
use Rattle.mt_session_spec.specs.Settings.{Setting}
use Rattle.mt_session_spec.specs.Refusals.{no_memory_line}
use Rattle.mt_session_spec.specs.Answers as answers
use Rattle.mt_session_spec.specs.Steps.{IsSaid}
use Rattle.mt_session_spec.specs.Replies.{Known}
use Rattle.mt_session_spec.specs.Runs.{Outside}
use Rattle.mt_session_spec.specs.Laws.{RefusedKeep}
use Rattle.mt_answer.specs.declared.reply.Reply.{Reply}
use Rattle.mt_answer.specs.Replies.{Says, SaysRefused, SaysLines, SaysLast, SaysNoMemory}
use Rattle.mt_shell.specs.Answers.{Stepped, IsRefusal}

-- a refusal is told in one line
refused_line : (reply : Reply) (answer : answers.Answer) → Says reply answer → IsRefusal reply → (line : List ℕ) × (answer ≡ answers.Refused line)
refused_line reply answer (SaysRefused bytes line e) h = (line, refl)
refused_line reply answer (SaysLines bytes lines e) h = absurd h
refused_line reply answer (SaysLast bytes line e) h = absurd h
refused_line reply answer SaysNoMemory h = (no_memory_line, refl)

pub keeps_refused : {setting : Setting} → (law : RefusedKeep) (held new : Held) (command : Command) (reply : Reply) (start end : Outside) → ValidHeld held → IsSaid command → Stepped setting held command reply new start end → IsRefusal reply →
    new ≡ held
keeps_refused {setting = setting} law held new command reply start end valid said s h =
    let k = s.step in
    let told = refused_line reply s.answer s.says h in
    let same = law setting k.world command s.gained (subst ValidHeld (sym k.may_be.held) valid) said k.new told.0 (rw told.1 at k.step) in
    ap (λ (known : Known). known.held) k.behind ∙ same ∙ k.may_be.held

-- ## Names

-- the command names no text, or by a name
abbrev pub NamesText : Command → Type 0
NamesText (Text name body) = IsName name
NamesText (Add name file) = IsName name
NamesText (Generate name seed tokens) = IsName name
NamesText command = Unit {0}

lone_names : (command : Command) (line : List ℕ) → HasLoneForm command line → NamesText command
lone_names (Text name body) line form = absurd form
lone_names (Add name file) line form = form.named
lone_names (Generate name seed tokens) line form = form.named
lone_names command line form = tt

form_names : (header : Header) (line body : List ℕ) (command : Command) → HasForm header line → WithBody header body command → NamesText command
form_names (Lone alone) line body command form is = subst NamesText (sym is) (lone_names alone line form)
form_names (TextHead name number) line body command form is = subst NamesText (sym is) form.named
form_names (RulesHead number) line body command form is = subst NamesText (sym is) tt
form_names (BatchHead number merge) line body command form batch = subst NamesText (sym batch.is) tt

-- a command that a script gives names a text by a name
pub said_names : (command : Command) → IsSaid command → NamesText command
said_names command said = form_names said.header said.line said.body command said.good.form said.with_body
