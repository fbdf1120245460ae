-- What the replies to `text` and `add` mean.
use Rattle.std.proofs.Common.{◌≡◌, ◌⊎◌, inl, inr, ℕ, Bool, List, Option, [], ◌∷◌, ◌++◌, length, map, take, refl, sym, ◌∙◌, ap, subst, codes, append-nil, arith, None, Some, IfOk, IfSome, Ok, Err}
use Rattle.std.specs.Prelude.{sum}
use Rattle.std.specs.declared.result.Result.{Result}
use Rattle.std.specs.Fmt.{decimal}
use Rattle.std.proofs.Math.Seq.{take-append_seam}
use Rattle.std.proofs.lemmas.List.{length-map}
use Rattle.std.specs.List.{flat_map}
use Rattle.mt_text_spec.specs.Lines.{closed}
use Rattle.mt_text_spec.specs.Registries.{Registry, ValidRegistry}
use Rattle.mt_text_spec.specs.Texts.{Text, ValidText}
use Rattle.mt_text_spec.specs.Queries.{Grammar}
use Rattle.mt_shelf_spec.specs.Files.{Files}
use Rattle.mt_file_spec.specs.Vertical.{Vertical, FirstTextFault, TextCause}
use Rattle.mt_vertical.specs.TextLaws.{OneText, NoTextWithFault}
use Rattle.mt_rule_spec.specs.Rules.{HasTooManyIn}
use Rattle.mt_script_spec.specs.Commands.{Text as TextCommand, Add}
use Rattle.mt_session_spec.specs.World.{Held, World, Holds, IsFull, with_text}
use Rattle.mt_segment_spec.specs.Tables.{Tables, AreTablesOf, token_count}
use Rattle.mt_corpus_spec.specs.Images.{Corpus, AreImagesBy}
use Rattle.mt_corpus_spec.specs.Decoded.{images_in}
use Rattle.mt_decode_laws.specs.Laws.{ImagesAreDecoded}
use Rattle.mt_corpus.specs.Held.{IsMadeOf}
use Rattle.mt_corpus.specs.Added.{MayBeKept}
use Rattle.mt_corpus.specs.Keeping.{AgreeWith}
use Rattle.mt_segment.specs.Mappers.{AreThere, named}
use Rattle.mt_session_spec.specs.Settings.{Setting, images_of}
use Rattle.mt_session_spec.specs.Gains.{Gained, none_gained}
use Rattle.mt_session_spec.specs.Refusals.{NameTaken, NoSuchFile, FileTooLong, BadVertical, CorpusFull, TooManyRows, refusal_line, failure_line, no_memory_line}
use Rattle.mt_session_spec.specs.Checks.{Check, Passes, NoneStands}
use Rattle.mt_session_spec.specs.Answers as answers
use Rattle.mt_session_spec.specs.Files.{IsAbsent, IsTooLong, IsFile, file_checks}
use Rattle.mt_session_spec.specs.Meaning.{Meaning, Exception, LoadsNone, LoadsBehind, Starved, Blocked}
use Rattle.mt_session_spec.specs.Adding.{IsNoText, BadLine, IsTooMuch, IsTooRich, AddsText, name_checks, text_checks, texting, adding}
use Rattle.mt_session_spec.specs.Steps.{StepBy, Meant, Excepted, Declined, Accepted}
use Rattle.mt_answer.specs.declared.reply.Reply.{Reply}
use Rattle.mt_answer.specs.declared.reply.Reply.TheVariants.{Lines, NoMemory}
use Rattle.mt_answer.specs.Replies.{SaysLines, SaysNoMemory, Given}
use Rattle.mt_shell.specs.Serves.{Kept, Serves, kept}
use Rattle.mt_shell.specs.Holding.{corpus_in}
use Rattle.mt_shell.specs.Segments.{IsSegmentOf}
use Rattle.mt_shell.specs.Answers.{Answers, AnswersAlone, IsRich, Keeps, NoRoom, TooRich, Kept as KeptText, KeptNot, Takes, Faulty, Sound, TakenNot, KeepsText, ReadsText, over}
use Rattle.mt_shell.proofs.Meanings.{declined, kept_from, starved, no_cause, first_behind, none_both}
use Rattle.mt_shell.proofs.Shelves.{same_bytes, not_absent, file_is_there, at_file}

-- what the laws of the reader say
pub record Readings : Type 0 where
  pub one_text : OneText
  pub no_fault : NoTextWithFault

-- the bytes that are given are these alone
record IsGiven (Given : List ℕ → Type 0) (bytes : List ℕ) : Type 0 where
  pub given : Given bytes
  pub only : (other : List ℕ) → Given other → other ≡ bytes

-- a text of these bytes is added behind a front of checks
abbrev adds : Setting → World → List ℕ → List Check → (List ℕ → Type 0) → (List ℕ → Type 0) → Meaning
adds setting world name front Given Loads = record { checks = front ++ text_checks setting world.held name Given; Accepts = AddsText world name Given; Excepts = Exception world Loads }

-- ## What is read

no_fault : (laws : Readings) (held : Held) (name bytes : List ℕ) (Given : List ℕ → Type 0) (text : Text) → ValidRegistry held.registry → IsGiven Given bytes → Vertical held.registry name bytes text →
    Passes (IsNoText held.registry Given)
no_fault laws held name bytes Given text valid is v refusal (BadLine other line cause g f) = laws.no_fault held.registry name bytes text line cause valid v (rw (is.only other g) at f)

no_excess : (laws : Readings) (held : Held) (name bytes : List ℕ) (Given : List ℕ → Type 0) (text : Text) → ValidRegistry held.registry → IsGiven Given bytes → Vertical held.registry name bytes text →
    (IsFull held.groups (length text.tokens) → ⊥) → IsTooMuch held name Given → ⊥
no_excess laws held name bytes Given text valid is v room much =
    let same : much.text ≡ text = laws.one_text held.registry name bytes much.text text valid (rw (is.only much.bytes much.given) at much.read) v in
    room (subst (λ (t : Text). IsFull held.groups (length t.tokens)) same much.full)

no_riches : (laws : Readings) (setting : Setting) (held : Held) (name bytes : List ℕ) (Given : List ℕ → Type 0) (text : Text) → ValidRegistry held.registry → IsGiven Given bytes → Vertical held.registry name bytes text →
    (IsRich setting held text → ⊥) → IsTooRich setting held name Given → ⊥
no_riches laws setting held name bytes Given text valid is v poor rich =
    let same : rich.text ≡ text = laws.one_text held.registry name bytes rich.text text valid (rw (is.only rich.bytes rich.given) at rich.read) v in
    poor (record { grammar = rich.grammar; ruled = rich.ruled; many = subst (λ (t : Text). HasTooManyIn (images_of setting) held.registry rich.grammar t) same rich.many })

keeps_by : (laws : Readings) (setting : Setting) (held : Held) (files : Files) (name bytes : List ℕ) (front : List Check) (Given Loads : List ℕ → Type 0) (gained : Gained) (text : Text) (answer : answers.Answer) (new : Held) →
    ValidRegistry held.registry → NoneStands front → IsGiven Given bytes → Vertical held.registry name bytes text → Keeps setting held text answer new →
    StepBy (adds setting (over held files) name front Given Loads) (over held files) gained (over new files) answer
keeps_by laws setting held files name bytes front Given Loads gained text answer new valid none is v (NoRoom full) =
    Meant (over held files) (answers.Refused (refusal_line CorpusFull)) (Declined CorpusFull (first_behind front (text_checks setting held name Given) CorpusFull none (inr (
      no_fault laws held name bytes Given text valid is v,
      inl (record { is = refl; there = record { bytes = bytes; given = is.given; text = text; read = v; full = full } }),
    ))))
keeps_by laws setting held files name bytes front Given Loads gained text answer new valid none is v (TooRich room rich) =
    Meant (over held files) (answers.Refused (refusal_line TooManyRows)) (Declined TooManyRows (first_behind front (text_checks setting held name Given) TooManyRows none (inr (
      no_fault laws held name bytes Given text valid is v,
      inr (
        no_cause (no_excess laws held name bytes Given text valid is v room),
        inl (record { is = refl; there = record { grammar = rich.grammar; ruled = rich.ruled; bytes = bytes; given = is.given; text = text; read = v; many = rich.many } }),
      ),
    ))))
keeps_by laws setting held files name bytes front Given Loads gained text answer new valid none is v (KeptText room poor) =
    Meant (over (with_text held text) files) (answers.Lines ((codes "ok " ++ decimal (length text.tokens)) ∷ [])) (Accepted (over (with_text held text) files) (answers.Lines ((codes "ok " ++ decimal (length text.tokens)) ∷ []))
    (none_both front (text_checks setting held name Given) none (
      no_fault laws held name bytes Given text valid is v,
      (no_cause (no_excess laws held name bytes Given text valid is v room), (no_cause (no_riches laws setting held name bytes Given text valid is v poor), tt)),
    )) (record { bytes = bytes; given = is.given; text = text; read = v; changed = refl; says = refl }))
keeps_by laws setting held files name bytes front Given Loads gained text answer new valid none is v KeptNot = Excepted (over held files) (answers.Refused no_memory_line) Starved

takes_by : (laws : Readings) (setting : Setting) (held : Held) (files : Files) (name bytes : List ℕ) (front : List Check) (Given Loads : List ℕ → Type 0) (gained : Gained) (answer : answers.Answer) (new : Held) →
    ValidRegistry held.registry → NoneStands front → IsGiven Given bytes → Takes setting held name bytes answer new →
    StepBy (adds setting (over held files) name front Given Loads) (over held files) gained (over new files) answer
takes_by laws setting held files name bytes front Given Loads gained answer new valid none is (Faulty line cause f) =
    Meant (over held files) (answers.Refused (refusal_line (BadVertical line cause)))
    (Declined (BadVertical line cause) (first_behind front (text_checks setting held name Given) (BadVertical line cause) none (inl (BadLine bytes line cause is.given f))))
takes_by laws setting held files name bytes front Given Loads gained answer new valid none is (Sound text said changed v k) =
    keeps_by laws setting held files name bytes front Given Loads gained text said changed valid none is v k
takes_by laws setting held files name bytes front Given Loads gained answer new valid none is TakenNot = Excepted (over held files) (answers.Refused no_memory_line) Starved

-- no text has this name
name_free : (held : Held) (name : List ℕ) → (Holds held name → ⊥) → NoneStands (name_checks held name)
name_free held name free = (no_cause free, tt)

-- ## `text`

pub text_taken : (setting : Setting) (held : Held) (name body : List ℕ) (reply : Reply) → Holds held name → Given (answers.Refused (refusal_line (NameTaken name))) reply → AnswersAlone setting held (TextCommand name body) reply held
text_taken setting held name body reply h g files =
    declined (texting setting (over held files) name body) (over held files) none_gained (NameTaken name) reply (inl (record { is = refl; there = h })) Starved g

pub text_read : (laws : Readings) (setting : Setting) (held new : Held) (name body : List ℕ) (reply : Reply) → ValidRegistry held.registry → (Holds held name → ⊥) → ReadsText setting held name body reply new →
    AnswersAlone setting held (TextCommand name body) reply new
text_read laws setting held new name body reply valid free r files = record {
  answer = r.answer;
  says = r.says;
  holds = takes_by laws setting held files name body (name_checks held name) (λ bytes. bytes ≡ body) LoadsNone none_gained r.answer new valid (name_free held name free)
      (record { given = refl; only = λ other e. e }) r.holds;
}

-- ## `add`

pub add_taken : (setting : Setting) (held : Held) (name file : List ℕ) (reply : Reply) → Holds held name → Given (answers.Refused (refusal_line (NameTaken name))) reply → AnswersAlone setting held (Add name file) reply held
add_taken setting held name file reply h g files =
    declined (adding setting (over held files) name file) (over held files) none_gained (NameTaken name) reply (inl (record { is = refl; there = h })) Starved g

pub add_absent : (setting : Setting) (held : Held) (name file : List ℕ) (reply : Reply) (files : Files) → (Holds held name → ⊥) → IsAbsent files file → Given (answers.Refused (refusal_line (NoSuchFile file))) reply →
    Answers setting (over held files) (Add name file) none_gained reply (over held files)
add_absent setting held name file reply files free a g =
    declined (adding setting (over held files) name file) (over held files) none_gained (NoSuchFile file) reply (inr (no_cause free, inl (record { is = refl; there = a }))) Starved g

pub add_too_long : (setting : Setting) (held : Held) (name file : List ℕ) (reply : Reply) (files : Files) → (Holds held name → ⊥) → IsTooLong files file → Given (answers.Refused (refusal_line (FileTooLong file))) reply →
    Answers setting (over held files) (Add name file) none_gained reply (over held files)
add_too_long setting held name file reply files free t g =
    declined (adding setting (over held files) name file) (over held files) none_gained (FileTooLong file) reply
    (inr (no_cause free, inr (no_cause (not_absent files file t.bytes t.found), inl (record { is = refl; there = t })))) Starved g

pub add_failed : (setting : Setting) (held : Held) (name file : List ℕ) (reply : Reply) (files : Files) → (Holds held name → ⊥) → Given (answers.Refused (failure_line file)) reply →
    Answers setting (over held files) (Add name file) (record { failed = file ∷ []; refused = [] }) reply (over held files)
add_failed setting held name file reply files free g =
    let gained : Gained = record { failed = file ∷ []; refused = [] } in
    kept_from (adding setting (over held files) name file) (over held files) gained file reply
    (Blocked file (record { is = refl; reached = name_free held name free }) (at_file file)) Starved g

pub add_starved : (setting : Setting) (held : Held) (name file : List ℕ) (files : Files) (gained : Gained) → Answers setting (over held files) (Add name file) gained NoMemory (over held files)
add_starved setting held name file files gained = starved (adding setting (over held files) name file) (over held files) gained Starved

pub add_read : (laws : Readings) (setting : Setting) (held new : Held) (name file bytes : List ℕ) (reply : Reply) (files : Files) → ValidRegistry held.registry → (Holds held name → ⊥) → IsFile files file bytes →
    ReadsText setting held name bytes reply new → Answers setting (over held files) (Add name file) none_gained reply (over new files)
add_read laws setting held new name file bytes reply files valid free f r = record {
  answer = r.answer;
  says = r.says;
  holds = takes_by laws setting held files name bytes (name_checks held name ++ file_checks files file) (IsFile files file) (LoadsBehind (name_checks held name) file) none_gained r.answer new valid
      (no_cause free, file_is_there files file bytes f) (record { given = f; only = λ other g. same_bytes files file other bytes g.found f.found }) r.holds;
}

-- ## Parts

pub faulty : (setting : Setting) (held : Held) (name bytes : List ℕ) (line : ℕ) (cause : TextCause) (reply : Reply) → FirstTextFault held.registry bytes line cause →
    Given (answers.Refused (refusal_line (BadVertical line cause))) reply → ReadsText setting held name bytes reply held
faulty setting held name bytes line cause reply f g = record { answer = g.answer; says = g.says; holds = by g.answer g.holds }
  where
    by : (answer : answers.Answer) → (answer ≡ answers.Refused (refusal_line (BadVertical line cause))) ⊎ (answer ≡ answers.Refused no_memory_line) → Takes setting held name bytes answer held
    by answer (inl e) = rw e (Faulty line cause f)
    by answer (inr e) = rw e TakenNot

pub sound : (setting : Setting) (held new : Held) (name bytes : List ℕ) (text : Text) (reply : Reply) → Vertical held.registry name bytes text → KeepsText setting held text reply new → ReadsText setting held name bytes reply new
sound setting held new name bytes text reply v k = record { answer = k.answer; says = k.says; holds = Sound text k.answer new v k.holds }

pub unread : (setting : Setting) (held : Held) (name bytes : List ℕ) → ReadsText setting held name bytes NoMemory held
unread setting held name bytes = record { answer = answers.Refused no_memory_line; says = SaysNoMemory; holds = TakenNot }

pub no_room : (setting : Setting) (held : Held) (text : Text) (reply : Reply) → IsFull held.groups (length text.tokens) → Given (answers.Refused (refusal_line CorpusFull)) reply → KeepsText setting held text reply held
no_room setting held text reply f g = record { answer = g.answer; says = g.says; holds = by g.answer g.holds }
  where
    by : (answer : answers.Answer) → (answer ≡ answers.Refused (refusal_line CorpusFull)) ⊎ (answer ≡ answers.Refused no_memory_line) → Keeps setting held text answer held
    by answer (inl e) = rw e (NoRoom f)
    by answer (inr e) = rw e KeptNot

one_line : (line : List ℕ) → flat_map closed (line ∷ []) ≡ closed line
one_line line = append-nil (closed line)

pub line_is : (tokens : ℕ) (text : Text) (line : List ℕ) → line ≡ closed (codes "ok" ++ 32 ∷ decimal tokens) → tokens ≡ length text.tokens → line ≡ closed (codes "ok" ++ 32 ∷ decimal (length text.tokens))
line_is tokens text line e n = e ∙ ap (λ (k : ℕ). closed (codes "ok" ++ 32 ∷ decimal k)) n

pub room_for : (state : Kept) (accepted : Bool) (grammar : Option Grammar) (corpus : Corpus) (text : Text) (tokens : ℕ) → kept accepted grammar corpus ≡ state → tokens ≡ length text.tokens → (IsFull corpus.groups tokens → ⊥) → IsFull state.held.groups (length text.tokens) → ⊥
room_for state accepted grammar corpus text tokens v n room = subst (λ (k : Kept). IsFull k.held.groups (length text.tokens) → ⊥) v (rw n at room)

pub text_kept : (setting : Setting) (held new : Held) (text : Text) (line : List ℕ) → (IsFull held.groups (length text.tokens) → ⊥) → (IsRich setting held text → ⊥) → new ≡ with_text held text → line ≡ closed (codes "ok" ++ 32 ∷ decimal (length text.tokens)) →
    KeepsText setting held text (Lines line) new
text_kept setting held new text line room poor m e = record {
  answer = answers.Lines ((codes "ok " ++ decimal (length text.tokens)) ∷ []);
  says = SaysLines line ((codes "ok " ++ decimal (length text.tokens)) ∷ []) (e ∙ sym (one_line (codes "ok " ++ decimal (length text.tokens))));
  holds = rw m (KeptText room poor);
}

pub too_rich : (setting : Setting) (held new : Held) (text : Text) (reply : Reply) → (IsFull held.groups (length text.tokens) → ⊥) → IsRich setting held text → new ≡ held → Given (answers.Refused (refusal_line TooManyRows)) reply → KeepsText setting held text reply new
too_rich setting held new text reply room rich m g = rw m (record { answer = g.answer; says = g.says; holds = by g.answer g.holds })
  where
    by : (answer : answers.Answer) → (answer ≡ answers.Refused (refusal_line TooManyRows)) ⊎ (answer ≡ answers.Refused no_memory_line) → Keeps setting held text answer held
    by answer (inl e) = rw e (TooRich room rich)
    by answer (inr e) = rw e KeptNot

pub kept_not : (setting : Setting) (held new : Held) (text : Text) → new ≡ held → KeepsText setting held text NoMemory new
kept_not setting held new text m = rw m (record { answer = answers.Refused no_memory_line; says = SaysNoMemory; holds = KeptNot })

-- the text may be kept by tables that are made of it
pub may_keep : (state : Kept) (accepted : Bool) (grammar : Option Grammar) (corpus : Corpus) (text : Text) (tables : Tables) → kept accepted grammar corpus ≡ state → ValidText state.held.registry text → (Holds state.held text.name → ⊥) →
    (IsFull state.held.groups (length text.tokens) → ⊥) → IsMadeOf corpus.registry text tables → MayBeKept (corpus_in state) text tables
may_keep state accepted grammar corpus text tables v valid free room made =
    record { valid = valid; made = subst (λ (k : Kept). IsMadeOf k.held.registry text tables) v made; free = free; room = room }

-- mappers that serve make the images of the setting
pub images_agree : (setting : Setting) (mappers : List (List ℕ × (List ℕ → List ℕ))) (state : Kept) (accepted : Bool) (grammar : Option Grammar) (corpus : Corpus) → kept accepted grammar corpus ≡ state → Serves setting mappers state →
    AgreeWith (images_of setting) mappers corpus.registry
images_agree setting mappers state accepted grammar corpus v s = (subst (λ (k : Kept). Serves setting mappers k) (sym v) s).agree

pub called_named : {M : Type 0} (called : M → List ℕ) (image : M → List ℕ → List ℕ) (mappers : List M) → map (λ mapper. mapper.0) (named called image mappers) ≡ map called mappers
called_named called image [] = refl
called_named called image (mapper ∷ mappers) = ap (λ (names : List (List ℕ)). called mapper ∷ names) (called_named called image mappers)

pub mappers_there : {M : Type 0} (called : M → List ℕ) (image : M → List ℕ → List ℕ) (mappers : List M) (setting : Setting) (state : Kept) (accepted : Bool) (grammar : Option Grammar) (corpus : Corpus) → kept accepted grammar corpus ≡ state →
    Serves setting (named called image mappers) state → AreThere (map called mappers) corpus.registry.attrs
mappers_there called image mappers setting state accepted grammar corpus v s =
    let t = subst (λ (k : Kept). Serves setting (named called image mappers) k) (sym v) s in
    rw (called_named called image mappers) at t.there

-- a slice of mappers that was lent and is given back
pub mappers_back : {M : Type 0} (called : M → List ℕ) (image : M → List ℕ → List ℕ) (old new rest : List M) (len : ℕ) → length old ≡ len → named called image new ≡ named called image old →
    named called image (take len (new ++ rest)) ≡ named called image old
mappers_back {M = M} called image old new rest len l e =
    let pair : M → List ℕ × (List ℕ → List ℕ) = λ mapper. (called mapper, image mapper) in
    let same : length new ≡ length old = sym (length-map new pair) ∙ ap length e ∙ length-map old pair in
    ap (λ (n : ℕ). named called image (take n (new ++ rest))) (sym (same ∙ l)) ∙ ap (named called image) (take-append_seam new rest) ∙ e

-- ## A segment that is made without the text

-- what is found under a registry is found under the one that is held
pub segment_found : {E : Type 0} (registry held : Registry) (name bytes : List ℕ) (result : Result (Option Tables) E) → registry ≡ held →
    IfOk result (λ found. IfSome found (λ tables. (text : Text) × Vertical registry name bytes text × ValidText registry text × ((images : List ℕ → List ℕ → List ℕ) → AreTablesOf images registry (text ∷ []) tables))) →
    IfOk result (λ found. IfSome found (λ tables. IsSegmentOf held name bytes tables))
segment_found registry held name bytes (Ok (Some tables)) e (text, v, valid, made) = subst (λ (r : Registry). IsSegmentOf r name bytes tables) e (record { text = text; read = v; valid = valid; made = made })
segment_found registry held name bytes (Ok None) e h = tt
segment_found registry held name bytes (Err error) e h = tt

pub segment_is : (registry : Registry) (name bytes : List ℕ) (found : Option Tables) (tables : Tables) → found ≡ Some tables → IfSome found (λ tables. IsSegmentOf registry name bytes tables) → IsSegmentOf registry name bytes tables
segment_is registry name bytes found tables e h = subst (λ (o : Option Tables). IfSome o (λ tables. IsSegmentOf registry name bytes tables)) e h

-- its tokens are those of the text
pub tokens_told : (registry : Registry) (name bytes : List ℕ) (tables : Tables) (tokens : ℕ) (s : IsSegmentOf registry name bytes tables) → tokens ≡ token_count tables → tokens ≡ length s.text.tokens
tokens_told registry name bytes tables tokens s e =
    let heads = (s.made (λ mapper value. value)).texts in
    let one : ◌≡◌ {A = ℕ} (sum (length s.text.tokens ∷ [])) (length s.text.tokens) = omega arith in
    e ∙ ap (λ (heads : List (List ℕ × ℕ)). sum (map (λ head. head.1) heads)) heads ∙ one

pub may_keep_read : (state : Kept) (name bytes : List ℕ) (tables : Tables) → (Holds state.held name → ⊥) → (s : IsSegmentOf state.held.registry name bytes tables) → (IsFull state.held.groups (length s.text.tokens) → ⊥) →
    MayBeKept (corpus_in state) s.text tables
may_keep_read state name bytes tables free s room = record {
  valid = s.valid;
  made = record { images = λ mapper value. value; are = s.made (λ mapper value. value) };
  free = subst (λ (n : List ℕ). Holds state.held n → ⊥) (sym s.read.named) free;
  room = room;
}

-- the images that the tables have are those of any mappers
pub images_read : (law : ImagesAreDecoded) (images : List ℕ → List ℕ → List ℕ) (registry : Registry) (name bytes : List ℕ) (tables : Tables) → ValidRegistry registry → IsSegmentOf registry name bytes tables →
    AreImagesBy images (images_in registry tables)
images_read law images registry name bytes tables valid s = (law images registry (s.text ∷ []) tables valid (s.made images)).own
