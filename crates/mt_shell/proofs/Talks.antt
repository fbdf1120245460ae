-- What a talk has answered.
use Rattle.std.proofs.Common.{◌≡◌, ℕ, List, ◌++◌, Option, None, Some, option_map, Result, Ok, Err, OnErr, IfOk, refl, sym, ◌∙◌, ap, subst, append-nil}
use Rattle.mt_text_spec.specs.Lines.{closed}
use Rattle.mt_shelf_spec.specs.Files.{Files}
use Rattle.mt_script_spec.specs.Commands.{Command}
use Rattle.mt_script_spec.specs.Script.{Item, Given}
use Rattle.mt_session_spec.specs.World.{World, Held}
use Rattle.mt_session_spec.specs.Settings.{Setting}
use Rattle.mt_session_spec.specs.Gains.{Gained, none_gained}
use Rattle.mt_session_spec.specs.Answers.{Answer, bytes_of}
use Rattle.mt_session_spec.specs.Refusals.{no_memory_line}
use Rattle.mt_session_spec.specs.Replies.{Known, known_after, ItemStep, KnownStep}
use Rattle.mt_session_spec.specs.Runs.{Outside}
use Rattle.mt_outside.specs.Told.{Told}
use Rattle.mt_outside.specs.declared.sink.SinkError.{SinkError}
use Rattle.mt_answer.specs.Replies.{Says, SaysRefused, SaysLines, SaysLast, SaysNoMemory}
use Rattle.mt_answer.specs.declared.reply.Reply.{Reply}
use Rattle.mt_answer.specs.declared.reply.Reply.TheVariants.{Refused, Lines, Last, NoMemory}
use Rattle.mt_shell.specs.declared.talk.Flow.{Flow}
use Rattle.mt_shell.specs.Answers.{Stepped}
use Rattle.mt_shell.specs.Outsides.{known, writes_on}
use Rattle.mt_shell.specs.Reads.{Replied, RepliedInPart, WroteFront, Flows, reply_bytes}

-- a fact that holds holds after an error
pub always : {T E : Type 0} → (r : Result T E) → {P : Type 0} → P → OnErr r P
always (Ok x) p = tt
always (Err e) p = p

-- ## What is known

-- what is known where the shelf tells these files or none
abbrev known_as : Held → Option Files → Known
known_as held files = record { held = held; files = files }

-- what is known behind an item that leaves the files as they were
same_known : (held : Held) (told : Option Files) (files : Files) → ((all : Files) → told ≡ Some all → files ≡ all) →
    known_as held told ≡ known_after (known_as held told) (record { held = held; files = files })
same_known held told files agrees = ap (λ (fs : Option Files). known_as held fs) (same_files told agrees)
  where
    same_files : (told : Option Files) → ((all : Files) → told ≡ Some all → files ≡ all) → told ≡ option_map (λ before. files) told
    same_files None agrees = refl
    same_files (Some all) agrees = ap Some (sym (agrees all refl))

-- the files that are told, or none
some_files : Option Files → Files
some_files None = λ name. None
some_files (Some files) = files

some_agree : (told : Option Files) (all : Files) → told ≡ Some all → some_files told ≡ all
unfolding some_files
some_agree None all e = cc
some_agree (Some files) all e = cc

-- a line that is no command, or a body cut short: the shelf is not asked
plain_step : {setting : Setting} → (held : Held) (item : Item) (answer : Answer) (told : Option Files) → ((world : World) → ItemStep setting world item none_gained world answer) →
    KnownStep setting (known_as held told) item none_gained (known_as held told) answer
plain_step held item answer told s = record {
  world = record { held = held; files = some_files told };
  may_be = record { held = refl; files = some_agree told };
  new = record { held = held; files = some_files told };
  step = s (record { held = held; files = some_files told });
  behind = same_known held told (some_files told) (some_agree told);
}

-- the same behind it, where the shelf tells as before
step_to : {setting : Setting} → (old : Known) (item : Item) (gained : Gained) (held : Held) (files told : Option Files) (answer : Answer) → told ≡ files → KnownStep setting old item gained (known_as held files) answer →
    KnownStep setting old item gained (known_as held told) answer
step_to {setting = setting} old item gained held files told answer e s = subst (λ (fs : Option Files). KnownStep setting old item gained (known_as held fs) answer) (sym e) s

pub plain_reply : {setting : Setting} → (held : Held) (item : Item) (answer : Answer) (bytes : List ℕ) (start end : Outside) (written : List ℕ) →
    ((world : World) → ItemStep setting world item none_gained world answer) → bytes ≡ bytes_of answer → end ≡ writes_on start end → start.written ≡ Some written →
    Told start.written (λ all. end.written ≡ Some (all ++ bytes)) → Replied setting held item held start written end
plain_reply held item answer bytes start end written s e only h told = record {
  gained = none_gained;
  answer = answer;
  step = step_to (known held start) item none_gained held start.files end.files answer (ap (λ (o : Outside). o.files) only) (plain_step held item answer start.files s);
  leaves = record {
    held = told written h ∙ ap (λ (b : List ℕ). Some (written ++ b)) e;
    files = refl;
    failed = ap (λ (o : Outside). o.failed) only ∙ sym (append-nil start.failed);
    refused = ap (λ (o : Outside). o.refused) only ∙ sym (append-nil start.refused);
  };
}

pub plain_front : {setting : Setting} → (held : Held) (item : Item) (answer : Answer) (bytes : List ℕ) (start end : Outside) (written : List ℕ) →
    ((world : World) → ItemStep setting world item none_gained world answer) → bytes ≡ bytes_of answer → end ≡ writes_on start end → start.written ≡ Some written →
    Told start.written (λ all. WroteFront bytes all end.written) → RepliedInPart setting held item start written end
plain_front held item answer bytes start end written s e only h told =
    let wrote = told written h in
    record {
      last = known held end;
      gained = none_gained;
      answer = answer;
      front = wrote.front;
      unwritten = wrote.unwritten;
      are = sym e ∙ wrote.are;
      step = step_to (known held start) item none_gained held start.files end.files answer (ap (λ (o : Outside). o.files) only) (plain_step held item answer start.files s);
      leaves = record {
        held = wrote.written;
        files = refl;
        failed = ap (λ (o : Outside). o.failed) only ∙ sym (append-nil start.failed);
        refused = ap (λ (o : Outside). o.refused) only ∙ sym (append-nil start.refused);
      };
    }

-- ## Commands

are_said : (reply : Reply) (answer : Answer) → Says reply answer → reply_bytes reply ≡ bytes_of answer
are_said reply answer (SaysRefused bytes line e) = e ∙ sym (append-nil (closed line))
are_said reply answer (SaysLines bytes lines e) = e
are_said reply answer (SaysLast bytes line e) = e ∙ sym (append-nil (closed line))
are_said reply answer SaysNoMemory = sym (append-nil (closed no_memory_line))

pub whole_reply : {setting : Setting} → (held new : Held) (command : Command) (reply : Reply) (bytes : List ℕ) (start mid end : Outside) (written : List ℕ) → Stepped setting held command reply new start mid →
    bytes ≡ reply_bytes reply → end ≡ writes_on mid end → start.written ≡ Some written → Told mid.written (λ all. end.written ≡ Some (all ++ bytes)) →
    Replied setting held (Given command) new start written end
whole_reply held new command reply bytes start mid end written s e only h told = record {
  gained = s.gained;
  answer = s.answer;
  step = step_to (known held start) (Given command) s.gained new mid.files end.files s.answer (ap (λ (o : Outside). o.files) only) s.step;
  leaves = record {
    held = told written (ap (λ (o : Outside). o.written) s.outside ∙ h) ∙ ap (λ (b : List ℕ). Some (written ++ b)) (e ∙ are_said reply s.answer s.says);
    files = refl;
    failed = ap (λ (o : Outside). o.failed) only ∙ ap (λ (o : Outside). o.failed) s.outside;
    refused = ap (λ (o : Outside). o.refused) only ∙ ap (λ (o : Outside). o.refused) s.outside;
  };
}

pub front_reply : {setting : Setting} → (held new : Held) (command : Command) (reply : Reply) (bytes : List ℕ) (start mid end : Outside) (written : List ℕ) → Stepped setting held command reply new start mid →
    bytes ≡ reply_bytes reply → end ≡ writes_on mid end → start.written ≡ Some written → Told mid.written (λ all. WroteFront bytes all end.written) →
    RepliedInPart setting held (Given command) start written end
front_reply held new command reply bytes start mid end written s e only h told =
    let wrote = told written (ap (λ (o : Outside). o.written) s.outside ∙ h) in
    record {
      last = known new end;
      gained = s.gained;
      answer = s.answer;
      front = wrote.front;
      unwritten = wrote.unwritten;
      are = sym (e ∙ are_said reply s.answer s.says) ∙ wrote.are;
      step = step_to (known held start) (Given command) s.gained new mid.files end.files s.answer (ap (λ (o : Outside). o.files) only) s.step;
      leaves = record {
        held = wrote.written;
        files = refl;
        failed = ap (λ (o : Outside). o.failed) only ∙ ap (λ (o : Outside). o.failed) s.outside;
        refused = ap (λ (o : Outside). o.refused) only ∙ ap (λ (o : Outside). o.refused) s.outside;
      };
    }

-- ## Flows

-- behind an item that was answered whole
pub passes : (r : Result Flow SinkError) (flow : Flow) (item : Item) {W R : Type 0} → IfOk r (λ f. (f ≡ flow) × W) → Flows flow item → (W → R) → IfOk r (λ f. Flows f item × R)
passes (Ok f) flow item h l k = (subst (λ (g : Flow). Flows g item) (sym h.0) l, k h.1)
passes (Err e) flow item h l k = tt

pub passes_item : (r : Result Flow SinkError) (flow : Flow) (item : Item) (next : Option Item) {W : Type 0} (R : Item → Type 0) → IfOk r (λ f. (f ≡ flow) × W) → Flows flow item → next ≡ Some item → (W → R item) →
    IfOk r (λ f. (x : Item) × (next ≡ Some x) × Flows f x × R x)
passes_item (Ok f) flow item next R h l e k = (item, e, subst (λ (g : Flow). Flows g item) (sym h.0) l, k h.1)
passes_item (Err e) flow item next R h l s k = tt
